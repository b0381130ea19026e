-- Theorems, the lemmas by which they are proved, and worked examples, in the order of specs/Lib.antt.
pub mod FirstCauseExamples
pub mod Examples
pub mod NumberExamples
pub mod RowExamples
pub mod SumByTargetExamples
pub mod BeyondExamples
pub mod Laws
pub mod TrimmedExamples
pub mod Ignored
pub mod Inward
pub mod InwardExamples
