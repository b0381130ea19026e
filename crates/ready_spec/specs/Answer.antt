-- The answer of the ready schemes' operation (document 01, "Ready schemes" and "When a call is declined").
use Rattle.std.specs.Prelude.{ℕ, ◌≤◌, [], ◌∷◌, cond, eqb, ltb, Result, Ok, Err}
use Rattle.scheme.specs.declared.Cause.{Cause}
use Rattle.scheme.specs.Number.{cause_number}
use Rattle.scheme.specs.declared.Scheme.{Scheme}
use Rattle.scheme.specs.FirstCause.{first_of}
use Rattle.scheme.specs.Cause.{outside}
use Rattle.scheme.specs.Stored.{no_scheme}
use Rattle.ready_spec.specs.Ready.{ready_scheme}

-- What asking for a ready scheme answers: the number of the cause, or 0; and the scheme.
pub record ReadyAnswer : Type 0 where
  pub number : ℕ
  pub scheme : Scheme

-- The answer of a ready scheme, or of the cause for which there is none.
abbrev pub ready_answer_of : Result Scheme Cause → ReadyAnswer
ready_answer_of (Ok scheme) = record { number = 0; scheme = scheme }
ready_answer_of (Err cause) = record { number = cause_number cause; scheme = no_scheme }

-- "Ready schemes": number 1 to 3, "base 0 to 2,500,000 cents".
pub record Offered (number base : ℕ) : Type 0 where
  pub positive : 1 ≤ number
  pub within : number ≤ 3
  pub small : base ≤ 2500000

-- "When a call is declined": "ready scheme not 1 to 3", 14.
abbrev pub number_cause : ℕ → ℕ
number_cause number = cond (outside 3 number) 14 0

-- "When a call is declined": "base above 2,500,000", 15.
abbrev pub base_cause : ℕ → ℕ
base_cause base = cond (ltb 2500000 base) 15 0

-- "When a call is declined": "Tests run in number order; the first that applies is returned".
abbrev pub ready_cause : ℕ → ℕ → ℕ
ready_cause number base = first_of (number_cause number ∷ base_cause base ∷ [])

-- "Ready schemes": the cause's number, and the ready scheme where it is 0.
unfoldable pub ready_answer : ℕ → ℕ → ReadyAnswer
ready_answer number base =
    record { number = ready_cause number base; scheme = cond (eqb (ready_cause number base) 0) (ready_scheme number base) no_scheme }
