-- The lemmas behind the theorems, by subject.
pub mod Layout
pub mod Frame
pub mod Read
pub mod Joined
