-- Parts of the step's answer: the scheme's cause from that of a class's interval row, and a refusal.
use Rattle.std.specs.Prelude.{ℕ, cond, eqb, replicate}
use Rattle.step_spec.specs.StepAnswer.{StepAnswer}

-- The scheme's own cause in the number of a class's interval row: any but 11, which is the class's.
abbrev pub scheme_cause : ℕ → ℕ
scheme_cause number = cond (eqb number 11) 0 number

-- A refusal: the number, and 0 everywhere else.
abbrev pub step_refused : ℕ → StepAnswer
step_refused number = record { number = number; figure = 0; row = replicate 32 0 }
