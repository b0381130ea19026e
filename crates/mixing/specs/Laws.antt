-- Laws of bits, of the edges as bits, and of the powers of their matrix.
pub mod Bits
pub mod Edges
pub mod Powers
