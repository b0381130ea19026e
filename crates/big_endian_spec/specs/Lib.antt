-- Numbers has the definitions, Examples computes them, Laws has the lemmas that the proofs cite.
-- Theorems, lemmas and worked examples stand in proofs/: a wrong definition is refused there, by what it makes false.
pub mod Numbers
