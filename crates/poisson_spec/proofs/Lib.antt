-- Worked examples; theorems and the lemmas by which they are proved stand in specs/.
pub mod AnswerExamples
