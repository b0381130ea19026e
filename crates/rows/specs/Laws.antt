-- The laws that proofs use in place of the definitions' text.
pub mod Clear
pub mod AddToTarget
pub mod SumByTarget
pub mod Front
pub mod Entries
pub mod Copy
pub mod Tight
