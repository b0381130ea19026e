-- Read in this order: lent buffers, low and high of a record, a share sheet, books, the sheet as text, rows and bands, records, the one-year step, the mixing check, the bands of claim frequencies,
-- then worked cases: of each definition, of each call, and of the buffers that a call is lent.
-- Each exported function has one record, `…Call`, over its arguments, the number answered, and the buffers before and after.
-- Laws shows that the promises hold of what the buffers are left with.
-- Theorems, lemmas and worked examples stand in proofs/: a wrong definition is refused there, by what it makes false.
pub mod Buffers
pub mod Figures
pub mod Shares
pub mod Books
pub mod Texts
pub mod Rows
pub mod Records
pub mod Steps
pub mod Mixing
pub mod Poisson
