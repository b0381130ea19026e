-- Read in this order: tables, the scheme's parts, what acceptance asks, the first cause of a list, the causes, the code's stages, interval rows,
-- what the row operations answer, what the cells of one class come to, what a made scheme holds, when two schemes have the same values or one is trimmed,
-- worked cases.
-- Ignored proves that values beyond s and m are ignored, Inward that narrower bands move the row that is answered inward.
-- Theorems, lemmas and worked examples stand in proofs/: a wrong definition is refused there, by what it makes false.
pub mod Tables
pub mod Access
pub mod Accepted
pub mod FirstCause
pub mod Cause
pub mod Number
pub mod Stages
pub mod Rows
pub mod RowAnswer
pub mod SumByTarget
pub mod Stored
pub mod Values
pub mod Inward
pub mod Laws
