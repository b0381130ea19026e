-- The theorems that the contracts cite, what stands in a table, the causes of queries, calls that have none, and what two schemes with the same values share.
pub mod Kept
pub mod Pooled
pub mod Reached
pub mod Table
pub mod Causes
pub mod Answered
pub mod Alike
