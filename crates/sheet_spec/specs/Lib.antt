-- Read in this order: numbers and words as text, the sheet, what the call answers, worked texts.
-- Laws shows that the sheet fits the space that is asked for it.
-- Theorems, lemmas and worked examples stand in proofs/: a wrong definition is refused there, by what it makes false.
pub mod Text
pub mod Sheet
pub mod Answer
