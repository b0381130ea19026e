-- The entries that cells make, as the code makes them and as it makes them tight; crate scheme has the definitions of the row operations.
pub mod Rows
pub mod Examples
pub mod Laws
