-- Theorems, the lemmas by which they are proved, and worked examples, in the order of specs/Lib.antt.
pub mod Examples
pub mod AnswerExamples
pub mod DoorLabelExamples
pub mod Laws
pub mod Ignored
