-- Read in this order: states and numbers of classes, orders and how they are made, then worked cases.
-- Theorems, lemmas and worked examples stand in proofs/: a wrong definition is refused there, by what it makes false.
pub mod States
pub mod Order
