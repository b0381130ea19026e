-- Laws over plain lists, which the functions' proofs cite.
pub mod PayoffLaws
pub mod InsertLaws
pub mod InOrderLaws
pub mod RankLaws
pub mod StateLaws
pub mod StateExamples
pub mod Examples
pub mod Laws
pub mod SortedLaws
