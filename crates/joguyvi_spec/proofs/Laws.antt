-- The laws of lent buffers, and that the promises hold of what they are left with.
pub mod Buffers
pub mod Causes
pub mod Texts
pub mod Figures
pub mod Books
pub mod Steps
pub mod Mixing
