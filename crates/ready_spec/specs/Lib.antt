-- Read in this order: the three scales, the moves, the schemes, the answer.
-- Theorems, lemmas and worked examples stand in proofs/: a wrong definition is refused there, by what it makes false.
pub mod Scales
pub mod Moves
pub mod Ready
pub mod Answer
