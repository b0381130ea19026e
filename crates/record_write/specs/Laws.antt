-- The lemmas behind the theorems, by subject.
pub mod Lists
pub mod Numbers
pub mod Bytes
pub mod Write
pub mod Body
