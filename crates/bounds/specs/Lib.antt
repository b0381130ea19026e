-- Read after crate `bounds_spec`, whose definitions the public contracts name, and crate `step`. These are of the private functions, in this order:
-- the entries of all rows, their tables, the fill along an order, a year and years, the start class's figures, money in tenths and in cents, the slices of a sheet, books pooled.
pub mod Entries
pub mod Joined
pub mod Fill
pub mod Years
pub mod Series
pub mod Money
pub mod Sheets
pub mod Pooled
