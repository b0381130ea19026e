-- Theorems, the lemmas by which they are proved, and worked examples, in the order of specs/Lib.antt.
pub mod Examples
pub mod Ignored
pub mod Inward
pub mod InwardExamples
pub mod Tight
