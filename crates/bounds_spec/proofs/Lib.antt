-- Theorems, the lemmas by which they are proved, and worked examples, in the order of specs/Lib.antt.
pub mod CauseExamples
pub mod ChanceExamples
pub mod Examples
pub mod PromiseExamples
pub mod ClosenessExamples
pub mod BookExamples
pub mod BookNearExamples
pub mod Laws
pub mod Ignored
pub mod Books
pub mod Chances
pub mod ReachedPromiseExamples
pub mod PooledPromiseExamples
pub mod Inward
pub mod InwardExamples
pub mod Tight
