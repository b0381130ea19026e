-- The laws by which reading, records and checksums are proved.
pub mod ReadLaws
pub mod RecordLaws
