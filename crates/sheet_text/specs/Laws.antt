-- The lemmas behind the contracts, by subject.
pub mod Put
pub mod Text
pub mod Lines
pub mod Years
pub mod Tabled
pub mod Answer
