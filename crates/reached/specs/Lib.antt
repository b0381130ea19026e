-- The scheme in which nobody leaves a class.
pub mod Staying
