-- The one-year step of a record (document 01, "One year").
use Rattle.std.specs.Prelude.{ℕ, ◌≤◌, ◌≡◌, Bool, List, [], ◌∷◌, length, get_or}
use Rattle.setchain.specs.Step.{step_figure, Reaches}
use Rattle.scheme.specs.declared.Scheme.{Scheme}
use Rattle.scheme.specs.FirstCause.{first_of}
use Rattle.record_spec.specs.Layout.{scheme_in}
use Rattle.record_spec.specs.Read.{read_cause}
use Rattle.setchain.specs.Sums.{at}
use Rattle.step_spec.specs.StepAnswer.{StepAnswer, step_cause, class_row}
use Rattle.joguyvi_spec.specs.Buffers.{first32, buffer_cause, filled_where, BuffersPost}

-- Cause 13: a payoff not of 32 numbers, a buffer for the figure not of 1, or one for the row not of 32.
abbrev pub step_buffers : (payoff figure row : List ℕ) → ℕ
step_buffers payoff figure row = first_of (buffer_cause 32 payoff ∷ buffer_cause 1 figure ∷ buffer_cause 32 row ∷ [])

-- What is answered and left for a step's figure and row: its cause, then 13.
abbrev pub StepBuffersPost : StepAnswer → (payoff figure row : List ℕ) (number : ℕ) (figure' row' : List ℕ) → Type 0
StepBuffersPost answer payoff figure row = BuffersPost (first_of (answer.number ∷ step_buffers payoff figure row ∷ [])) (answer.figure ∷ []) answer.row figure row

-- The number for a record's step: the cause of reading, then that of the step, where 10 is for the payoff and 11 for the class, then 13.
abbrev pub step_number : List ℕ → (payoff : List ℕ) (class : ℕ) (figure row : List ℕ) → ℕ
step_number bytes payoff class figure row = first_of (read_cause bytes ∷ step_cause (scheme_in bytes) (first32 payoff) class ∷ step_buffers payoff figure row ∷ [])

-- The figure of a class, low or high, as a buffer of 1 number.
abbrev pub figure_of : (high : Bool) → Scheme → (payoff : List ℕ) (class : ℕ) → List ℕ
figure_of high s payoff class = step_figure high s.classes (class_row s class) (at (first32 payoff)) ∷ []

-- joguyvi_low_step (`high` is false) and joguyvi_high_step (`high` is true): what they answer and leave.
pub record StepCall (high : Bool) (bytes payoff : List ℕ) (class : ℕ) (figure row : List ℕ) (number : ℕ) (figure' row' : List ℕ) : Type 0 where
  pub answer : number ≡ step_number bytes payoff class figure row
  pub figures : figure' ≡ filled_where number (figure_of high (scheme_in bytes) payoff class) figure
  -- The row is left as it was where the call is declined.
  pub left : (number ≡ 0 → ⊥) → row' ≡ row
  -- Otherwise it has 32 parts.
  pub size : number ≡ 0 → length row' ≡ 32
  -- "with 0 beyond s".
  pub beyond : number ≡ 0 → (j : ℕ) → (scheme_in bytes).classes ≤ j → at row' j ≡ 0
  -- It lies inside the class's interval and reaches its unrounded figure (crate setchain, `Step`).
  pub reaches : number ≡ 0
      → Reaches high (scheme_in bytes).classes (class_row (scheme_in bytes) class) (at (first32 payoff)) (at row') (get_or figure' 0 0)
