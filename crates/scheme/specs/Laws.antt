-- What a contract says of a list filled from the front.
pub mod Filled
