-- The laws that proofs use in place of the definitions' text.
pub mod Access
pub mod FirstCause
pub mod Cause
pub mod Number
pub mod Limits
pub mod Judged
pub mod Sound
pub mod Tab
pub mod Filled
pub mod RowAnswer
pub mod Stored
pub mod Values
pub mod Trimmed
