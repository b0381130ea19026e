-- Read in this order: what a bound means (Sums to Promise), then that it holds (Theorems), for answers too (Kept), and moves inward with narrower rows (Inward),
-- the same of figures pooled over many states (Pooled, PooledTheorems), the chance of having reached a state (Reached, Sequences, ReachedTheorems),
-- what a tight row is (Tight) and that it changes no figure and no promise (Tightened), which counts of years mix (Mixing), what that means (Mixed) and how far one has to look (Limit),
-- then worked figures, and one that is worked for any number of states (Cycle).
-- Laws has the lemmas by which the theorems are proved.
-- Theorems, lemmas and worked examples stand in proofs/: a wrong definition is refused there, by what it makes false.
pub mod Sums
pub mod Tests
pub mod Fractions
pub mod Rows
pub mod Cells
pub mod Rounding
pub mod Step
pub mod Certificate
pub mod Years
pub mod Picks
pub mod Turns
pub mod Promise
pub mod Reached
pub mod Sequences
pub mod Pooled
pub mod Tight
pub mod Mixing
