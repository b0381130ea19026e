-- The laws of rows, fills and figures, for the step's proofs and the years'.
pub mod Sums
pub mod Fill
pub mod Extreme
