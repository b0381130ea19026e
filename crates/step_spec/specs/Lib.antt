-- Read in this order: the answer of the public one-year step, worked cases.
-- Ignored proves that values beyond s and m are ignored, and payoffs beyond s; Inward that narrower bands move the figures inward, and Tight that tight rows change none.
-- Theorems, lemmas and worked examples stand in proofs/: a wrong definition is refused there, by what it makes false.
pub mod StepAnswer
pub mod Inward
