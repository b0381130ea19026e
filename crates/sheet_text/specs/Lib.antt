-- Read after crate `sheet_spec`, whose definitions the public contract names. These are of the private functions: how text is put into a slice,
-- and the lines by the figures in two tables. Laws has the lemmas by which the code is proved.
pub mod Put
pub mod Text
pub mod Tabled
pub mod Tables
pub mod Laws
