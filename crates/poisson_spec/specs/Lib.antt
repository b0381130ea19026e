-- Read in this order.
pub mod Series
pub mod Exponentials
pub mod Values
pub mod Bands
pub mod Answer
pub mod Laws
pub mod Theorems
pub mod Acceptance
