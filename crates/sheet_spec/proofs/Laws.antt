-- The figures' largest values, the lengths of lines, and the space that a sheet takes.
pub mod Figures
pub mod Widths
pub mod Space
pub mod Cut
