-- What reading leaves in a lent buffer, the records of an input, checksums, and worked cases.
pub mod Input
pub mod Records
pub mod Checksum
pub mod Examples
