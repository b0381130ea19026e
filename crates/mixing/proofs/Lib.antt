-- Laws over plain lists and matrices, which the functions' proofs cite, and worked examples.
pub mod EntryLaws
pub mod MatrixExamples
pub mod MatrixLaws
pub mod RowLaws
