-- The lemmas by which rule rows, bands and the band reader are proved; crate record_spec has the definitions.
pub mod Laws
