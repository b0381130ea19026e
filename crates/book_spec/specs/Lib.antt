-- Read in this order: a book's causes and joining, worked cases, what they tell.
-- Theorems, lemmas and worked examples stand in proofs/: a wrong definition is refused there, by what it makes false.
pub mod Book
