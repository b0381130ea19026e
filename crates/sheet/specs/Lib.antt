-- What the program's core takes and leaves to be printed, then worked cases.
pub mod Program
pub mod Examples
