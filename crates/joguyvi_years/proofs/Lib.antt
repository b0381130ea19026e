-- Laws over plain lists, which the functions' proofs cite.
pub mod FiguresLaws
pub mod LibLaws
pub mod BooksLaws
