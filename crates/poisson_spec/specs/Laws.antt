-- Laws of the definitions.
pub mod Series
pub mod Table
pub mod Values
pub mod Exact
pub mod Totals
pub mod Answer
pub mod Ends
