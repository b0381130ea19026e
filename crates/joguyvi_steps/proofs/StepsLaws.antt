-- A step of a record: with a cause of reading, and without.
-- Assumes nothing.
use Prim.Native.Nat.{ℕ}
use mathlib.Core.Path.{◌≡◌, refl, ap, ◌∙◌, subst₂}
use mathlib.Core.Bool.{Bool}
use mathlib.Core.List.{List}
use lib.ListN.{length}
use Rattle.scheme.specs.FirstCause.{or_else}
use Rattle.scheme.proofs.Laws.FirstCause.{first_none, second_none}
use Rattle.record_spec.specs.Read.{ReadAnswer, read_answer}
use Rattle.record_spec.specs.Layout.{scheme_in}
use Rattle.record_spec.proofs.Laws.Read.{read_in}
use Rattle.step_spec.specs.StepAnswer.{StepAnswer, StepAnswered}
use Rattle.joguyvi_spec.specs.Buffers.{buffer_cause, first32}
use Rattle.joguyvi_spec.specs.Steps.{step_buffers, StepBuffersPost, StepCall}
use Rattle.joguyvi_spec.proofs.Laws.Buffers.{buffer_size, unfilled}
use Rattle.joguyvi_spec.proofs.Laws.Causes.{stopped_number, passed_number}
use Rattle.joguyvi_spec.proofs.Laws.Steps.{step_call}

-- The buffers of a step with no cause have their sizes.
pub step_sizes : (payoff figure row : List ℕ) → step_buffers payoff figure row ≡ 0 → (length figure ≡ 1) × (length row ≡ 32)
step_sizes payoff figure row e =
    let both : or_else (buffer_cause 1 figure) (buffer_cause 32 row) ≡ 0 = second_none (buffer_cause 32 payoff) (or_else (buffer_cause 1 figure) (buffer_cause 32 row)) e in
    (buffer_size 1 figure (first_none (buffer_cause 1 figure) (buffer_cause 32 row) both), buffer_size 32 row (second_none (buffer_cause 1 figure) (buffer_cause 32 row) both))

module _ (high : Bool) (bytes payoff : List ℕ) (class : ℕ) (figure row : List ℕ) {a : ReadAnswer} (is : a ≡ read_answer bytes) where
  pub step_stopped : (a.number ≡ 0 → ⊥) → StepCall high bytes payoff class figure row a.number figure row
  step_stopped some =
      record {
        answer = stopped_number bytes is _ some;
        figures = unfilled _ _ some;
        left = λ h. refl;
        size = λ z. absurd (some z);
        beyond = λ z. absurd (some z);
        reaches = λ z. absurd (some z);
      }

  pub step_passed : {numbers : List ℕ} {answer : StepAnswer} {n : ℕ} {figure' row' : List ℕ} → a.number ≡ 0 → numbers ≡ first32 payoff
      → StepAnswered high a.scheme numbers class answer → StepBuffersPost answer payoff figure row n figure' row'
      → StepCall high bytes payoff class figure row n figure' row'
  step_passed {numbers} {answer} none same step put =
      let found : StepAnswered high (scheme_in bytes) (first32 payoff) class answer =
      subst₂ (λ s p. StepAnswered high s p class answer) (read_in bytes is none) same step in
      step_call high bytes payoff class figure row found
      (record {
        answer = passed_number bytes is none (put.answer ∙ ap (λ x. or_else x (step_buffers payoff figure row)) found.number);
        filled = put.filled;
        other_filled = put.other_filled;
      })
