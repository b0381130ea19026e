-- Laws over plain lists, which the functions' proofs cite.
pub mod AnswerLaws
pub mod CauseLaws
pub mod Listed
pub mod WeighLaws
