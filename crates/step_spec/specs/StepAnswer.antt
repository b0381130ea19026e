-- The answer of the public one-year step (document 01, "One year").
use Rattle.std.specs.Prelude.{ℕ, ◌-◌, ◌≤◌, ◌≡◌, Bool, cond, List, [], ◌∷◌, eqb, ltb, length, replicate, Result, Ok, Err}
use Rattle.scheme.specs.declared.Cause.{Cause}
use Rattle.scheme.specs.Number.{cause_number}
use Rattle.step_spec.specs.declared.Step.{Step}
use Rattle.setchain.specs.Rows.{IntervalRow}
use Rattle.setchain.specs.Step.{step_figure, Reaches}
use Rattle.scheme.specs.declared.Scheme.{Scheme}
use Rattle.scheme.specs.FirstCause.{◌when◌, first_of}
use Rattle.scheme.specs.Cause.{cause_of, class_cause}
use Rattle.scheme.specs.Rows.{chain_of}
use Rattle.setchain.specs.Sums.{at}
use Rattle.setchain.specs.Tests.{any_below}

-- What the one-year step answers: the number of the cause, or 0; the figure; and a row that reaches it.
pub record StepAnswer : Type 0 where
  pub number : ℕ
  pub figure : ℕ
  pub row : List ℕ

-- The answer of a step, or of the cause for which there is none.
abbrev pub step_answer_of : Result Step Cause → StepAnswer
step_answer_of (Ok step) = record { number = 0; figure = step.figure; row = step.row }
step_answer_of (Err cause) = record { number = cause_number cause; figure = 0; row = replicate 32 0 }

-- "The payoff limit of the one-year step rises to 10,000,000,000" (document 02, item 6): every sum of part times payoff up to it fits 64 bits.
abbrev pub MOST_PAYOFF : ℕ
MOST_PAYOFF = 10000000000

-- "A payoff is a whole number for each class": some class's is above the limit; "payoffs stored beyond s are ignored".
unfoldable pub payoff_out : Scheme → List ℕ → Bool
payoff_out s payoff = any_below s.classes (λ i. ltb MOST_PAYOFF (at payoff i))

-- Causes 3, 5 to 10, then 10, "or in the one-year step a payoff above its limit", then 11.
abbrev pub step_cause : Scheme → List ℕ → ℕ → ℕ
step_cause s payoff class = first_of (cause_of s ∷ 10 when payoff_out s payoff ∷ class_cause s class ∷ [])

-- The interval row of a class, numbered from 1.
abbrev pub class_row : Scheme → ℕ → IntervalRow
class_row s class = (chain_of s).row (class - 1)

-- What the low step answers (`high` is false), and the high step (`high` is true).
pub record StepAnswered (high : Bool) (s : Scheme) (payoff : List ℕ) (class : ℕ) (r : StepAnswer) : Type 0 where
  -- The first cause that applies, tests in their order, or 0.
  pub number : r.number ≡ step_cause s payoff class
  -- The low figure of the class (for the high step: the high figure); 0 where the call is declined.
  pub figure : r.figure ≡ cond (eqb (step_cause s payoff class) 0) (step_figure high s.classes (class_row s class) (at payoff)) 0
  -- The row has 32 parts.
  pub size : length r.row ≡ 32
  -- All of them 0 where the call is declined.
  pub declined_row : (r.number ≡ 0 → ⊥) → r.row ≡ replicate 32 0
  -- "with 0 beyond s".
  pub beyond : r.number ≡ 0 → (j : ℕ) → s.classes ≤ j → at r.row j ≡ 0
  -- Where the call is not declined the row lies inside the class's interval and reaches its unrounded figure.
  pub reaches : r.number ≡ 0 → Reaches high s.classes (class_row s class) (at payoff) (at r.row) r.figure
