-- Read in this order: the answer of the mixing check, worked cases of its number, the laws of its causes, what the answer means, worked answers.
-- Theorems, lemmas and worked examples stand in proofs/: a wrong definition is refused there, by what it makes false.
pub mod MixingAnswer
