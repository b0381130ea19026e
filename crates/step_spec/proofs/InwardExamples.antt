-- Item 1 of document 02 on the step of Example A's class 2, computed: a high figure that moves with a trimmed band, and what "inward" forbids.
use Rattle.std.specs.Prelude.{ℕ, ◌≡◌, refl, true, false, [], ◌∷◌}
use Rattle.std.proofs.Common.{arith}
use Rattle.setchain.specs.Sums.{at, sum_to, only_if}
use Rattle.setchain.specs.Step.{capacity_before, fill_row, step_figure}
use Rattle.scheme.proofs.Examples.{scheme_a}
use Rattle.scheme.proofs.TrimmedExamples.{narrow_a}
use Rattle.step_spec.specs.StepAnswer.{StepAnswer, class_row}
use Rattle.step_spec.proofs.Inward.{StepInward}

-- A payoff of 300 in class 1 and 100 in class 2: class 2 has at least.1 of ONE, and with the last column's band trimmed at least.11.
pub record TrimmedSteps : Type 0 where
  pub low : (step_figure false 2 (class_row scheme_a 2) (at (300 ∷ 100 ∷ [])) ≡ 260) × (step_figure false 2 (class_row narrow_a 2) (at (300 ∷ 100 ∷ [])) ≡ 260)
  pub high : (step_figure true 2 (class_row scheme_a 2) (at (300 ∷ 100 ∷ [])) ≡ 280) × (step_figure true 2 (class_row narrow_a 2) (at (300 ∷ 100 ∷ [])) ≡ 278)

pub trimmed_steps : TrimmedSteps
unfolding step_figure fill_row capacity_before sum_to only_if
trimmed_steps = record { low = (refl, refl); high = (refl, refl) }

-- An answer with this number and figure; its row plays no part.
abbrev answer_of : (number figure : ℕ) → StepAnswer
answer_of number figure = record { number = number; figure = figure; row = [] }

-- A low figure may rise and a high one fall, neither the other way, and no number changes.
pub record InwardSteps : Type 0 where
  pub low : StepInward false (answer_of 0 26) (answer_of 0 27)
  pub low_falls : ¬ StepInward false (answer_of 0 26) (answer_of 0 25)
  pub high : StepInward true (answer_of 0 28) (answer_of 0 27)
  pub high_rises : ¬ StepInward true (answer_of 0 28) (answer_of 0 29)
  pub declined : ¬ StepInward false (answer_of 0 0) (answer_of 11 0)

pub inward_steps : InwardSteps
inward_steps =
    record {
      low = record { number = refl; figure = omega arith };
      low_falls = λ h. omega (arith, h.figure);
      high = record { number = refl; figure = omega arith };
      high_rises = λ h. omega (arith, h.figure);
      declined = λ h. omega (arith, h.number);
    }
