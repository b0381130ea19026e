-- Read in this order: lists joined, the record's layouts, what reading answers, the rule row of a class, the band reader,
-- a scheme's record and what writing it answers, worked cases in version 1 and in version 2.
-- Laws has the causes of a record's bytes and the answer of a reading, by cases; Ignored has what becomes of values beyond s and m.
-- Theorems, lemmas and worked examples stand in proofs/: a wrong definition is refused there, by what it makes false.
pub mod Joined
pub mod Layout
pub mod Frame
pub mod Read
pub mod RuleRow
pub mod Reader
pub mod Bytes
pub mod Write
