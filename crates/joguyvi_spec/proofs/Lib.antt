-- Theorems, the lemmas by which they are proved, and worked examples, in the order of specs/Lib.antt.
pub mod BufferExamples
pub mod Examples
pub mod Laws
pub mod CallExamples
pub mod BookExamples
pub mod LentExamples
