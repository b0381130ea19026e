-- A step's figure and row in their buffers keep what the step answers.
-- Assumes nothing.
use Rattle.std.specs.Prelude.{ℕ, ◌≡◌, refl, Bool, List, [], ◌∷◌, length, get_or}
use Rattle.std.proofs.Common.{ap, sym, ◌∙◌, subst₂}
use Rattle.setchain.specs.Step.{Reaches}
use Rattle.scheme.specs.declared.Scheme.{Scheme}
use Rattle.scheme.specs.FirstCause.{or_else}
use Rattle.scheme.proofs.Laws.FirstCause.{declined, answered, by_cause, first_none, second_none}
use Rattle.record_spec.specs.Layout.{scheme_in}
use Rattle.record_spec.specs.Read.{read_cause}
use Rattle.step_spec.specs.StepAnswer.{StepAnswer, step_cause, class_row, StepAnswered}
use Rattle.setchain.specs.Sums.{at}
use Rattle.joguyvi_spec.specs.Buffers.{first32, BuffersPost}
use Rattle.joguyvi_spec.specs.Steps.{step_buffers, step_number, StepCall}

-- An answer of the step, put into its buffers.
module _ (high : Bool) (bytes payoff : List ℕ) (class : ℕ) (figure row : List ℕ) {answer : StepAnswer}
    (is : StepAnswered high (scheme_in bytes) (first32 payoff) class answer)
    {n : ℕ} {figure' row' : List ℕ} (put : BuffersPost (step_number bytes payoff class figure row) (answer.figure ∷ []) answer.row figure row n figure' row') where
  abbrev s : Scheme
  s = scheme_in bytes

  none : n ≡ 0 → step_cause s (first32 payoff) class ≡ 0
  none z =
      first_none (step_cause s (first32 payoff) class) (step_buffers payoff figure row)
      (second_none (read_cause bytes) (or_else (step_cause s (first32 payoff) class) (step_buffers payoff figure row)) (sym put.answer ∙ z))

  own : n ≡ 0 → answer.number ≡ 0
  own z = is.number ∙ none z

  shown : n ≡ 0 → figure' ≡ answer.figure ∷ []
  shown z = put.filled ∙ answered n (answer.figure ∷ []) figure z

  whole : n ≡ 0 → row' ≡ answer.row
  whole z = put.other_filled ∙ answered n answer.row row z

  pub step_call : StepCall high bytes payoff class figure row n figure' row'
  step_call =
      record {
        answer = put.answer;
        figures = put.filled ∙ by_cause refl (λ z. ap (λ x. x ∷ []) (is.figure ∙ answered (step_cause s (first32 payoff) class) _ 0 (none z))) refl;
        left = λ h. put.other_filled ∙ declined n answer.row row h;
        size = λ z. ap length (whole z) ∙ is.size;
        beyond = λ z j l. ap (λ x. at x j) (whole z) ∙ is.beyond (own z) j l;
        reaches = λ z.
            subst₂ (λ x y. Reaches high s.classes (class_row s class) (at (first32 payoff)) (at x) y)
            (sym (whole z)) (sym (ap (λ x. get_or x 0 0) (shown z)))
            (is.reaches (own z));
      }
