-- Read in this order: the causes for which a query is declined, what the calls for bounds answer, tables of all figures, what the answers promise, books pooled,
-- the chance of having reached a class,
-- worked cases, document 01's examples, what the promises forbid, how near money has to come, books worked out and how near their figures have to come,
-- that values beyond s and m are ignored, what pooling makes of books, that chances never fall, what these promises forbid,
-- then that narrower bands move bounds inward, and that tight rows change none.
-- Theorems, lemmas and worked examples stand in proofs/: a wrong definition is refused there, by what it makes false.
pub mod Causes
pub mod Answers
pub mod Table
pub mod Promises
pub mod Pooled
pub mod Reached
pub mod Chances
pub mod Inward
