-- That reading and writing agree. Laws has the lemmas by which it is proved; crate record_spec has the definitions.
pub mod Agreement
pub mod Laws
