-- The laws that proofs use in place of the definitions' text.
pub mod Written
pub mod Numbers
pub mod Along
pub mod Insertion
pub mod Permutations
