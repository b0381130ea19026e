-- The lemmas by which reading a record is proved; crate record_spec has the definitions.
pub mod Laws
