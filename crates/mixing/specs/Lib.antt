-- Sets of classes and matrices as bits, which the code multiplies, and laws of them.
pub mod Bits
pub mod Matrices
pub mod Powers
pub mod Laws
