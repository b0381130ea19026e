-- The lemmas behind the theorems, by subject.
pub mod Lists
pub mod Stored
