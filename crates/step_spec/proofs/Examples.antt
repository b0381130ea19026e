-- The step of Example A's class 2 (document 01, "Sheet program and examples"), computed.
use Rattle.std.specs.Prelude.{ℕ, zero, suc, ◌*◌, ◌≤◌, ◌<◌, ◌≡◌, refl, true, false, List, [], ◌∷◌, replicate, Ok, Err}
use Rattle.std.proofs.Common.{ap, arith}
use Rattle.std.proofs.Math.Decide.{dec_lt}
use Rattle.std.proofs.lemmas.List.{get_or-replicate, length-replicate}
use Rattle.std.proofs.Math.ListN.{get_or-eq_default}
use Rattle.setchain.specs.Sums.{at, sum_to, only_if}
use Rattle.setchain.specs.Rows.{ONE}
use Rattle.setchain.proofs.Laws.Sums.{below_two}
use Rattle.setchain.specs.Step.{capacity_before, fill_row, step_figure, Reaches}
use Rattle.setchain.specs.Tests.{any_below}
use Rattle.scheme.specs.declared.Cause.TheVariants.{Class}
use Rattle.scheme.specs.Tables.{tab}
use Rattle.scheme.specs.Cause.{size_out, start_out, horizon_out, rule_out, band_out, sum_out, premium_out, cause_of}
use Rattle.scheme.proofs.Examples.{scheme_a}
use Rattle.step_spec.specs.declared.Step.{Step}
use Rattle.step_spec.specs.StepAnswer.{StepAnswer, step_answer_of, payoff_out, step_cause, class_row, StepAnswered}

-- A payoff of 30 in class 1 and 10 in class 2.
abbrev thirty_ten : List ℕ
thirty_ten = 30 ∷ 10 ∷ []

-- Four fifths and one fifth for the low figure, nine tenths and one tenth for the high one.
pub figures_a : (step_figure false 2 (class_row scheme_a 2) (at thirty_ten) ≡ 26) × (step_figure true 2 (class_row scheme_a 2) (at thirty_ten) ≡ 28)
unfolding step_figure fill_row capacity_before sum_to only_if
figures_a = (refl, refl)

-- No cause; a class that there is not; and, before that, a payoff above its limit.
pub causes_a : (step_cause scheme_a thirty_ten 2 ≡ 0) × (step_cause scheme_a thirty_ten 3 ≡ 11) × (step_cause scheme_a (30 ∷ 10000000001 ∷ []) 3 ≡ 10)
unfolding payoff_out cause_of size_out start_out horizon_out rule_out band_out sum_out premium_out any_below sum_to tab
causes_a = (refl, refl, refl)

-- A payoff at its limit, and one above it that is stored beyond s.
pub limits_a : (step_cause scheme_a (30 ∷ 10000000000 ∷ []) 2 ≡ 0) × (step_cause scheme_a (30 ∷ 10 ∷ 10000000001 ∷ []) 2 ≡ 0)
unfolding payoff_out cause_of size_out start_out horizon_out rule_out band_out sum_out premium_out any_below sum_to tab
limits_a = (refl, refl)

-- The row that reaches the low figure: four fifths and one fifth, and 0 for the other 30.
abbrev four_fifths : List ℕ
four_fifths = 800000000 ∷ 200000000 ∷ replicate 30 0

pub reaches_a : Reaches false 2 (class_row scheme_a 2) (at thirty_ten) (at four_fifths) 26
unfolding sum_to only_if
reaches_a =
    record {
      inside =
          record {
            positive = omega arith;
            sums = refl;
            above = below_two (λ j. (class_row scheme_a 2).lower j * ONE ≤ at four_fifths j * ONE) (omega arith) (omega arith);
            below = below_two (λ j. at four_fifths j * ONE ≤ (class_row scheme_a 2).upper j * ONE) (omega arith) (omega arith);
          };
      extreme = λ p inside. omega (arith, inside.sums, inside.above 0 (omega arith));
      rounded = refl;
    }

-- No state from 2 on has a part.
beyond_a : (j : ℕ) → 2 ≤ j → at four_fifths j ≡ 0
beyond_a zero h = absurd (omega arith)
beyond_a (suc zero) h = absurd (omega arith)
beyond_a (suc (suc j)) h = by (dec_lt j 30)
  where
    by : Dec (j < 30) → at (replicate 30 0) j ≡ 0
    by (yes l) = get_or-replicate 30 j 0 0 l
    by (no l) = get_or-eq_default (replicate 30 0) 0 {n = j} (omega (arith, length-replicate {A = ℕ} 30 0))

-- An answer with this number, figure and row.
abbrev answer_a : (number figure : ℕ) → List ℕ → StepAnswer
answer_a number figure row = record { number = number; figure = figure; row = row }

-- What the low step may answer for class 2, and what not: a part beyond s, another figure, another length; what the high step may not,
-- the low figure; and for class 3, which there is not, the number 11 with no figure and no part.
pub record StepAnswers : Type 0 where
  pub answered : StepAnswered false scheme_a thirty_ten 2 (answer_a 0 26 four_fifths)
  pub part_beyond : StepAnswered false scheme_a thirty_ten 2 (answer_a 0 26 (800000000 ∷ 200000000 ∷ 1 ∷ replicate 29 0)) → ⊥
  pub other_figure : StepAnswered false scheme_a thirty_ten 2 (answer_a 0 27 four_fifths) → ⊥
  pub low_figure : StepAnswered true scheme_a thirty_ten 2 (answer_a 0 26 four_fifths) → ⊥
  pub short_row : StepAnswered false scheme_a thirty_ten 2 (answer_a 0 26 (800000000 ∷ 200000000 ∷ [])) → ⊥
  pub declined : StepAnswered false scheme_a thirty_ten 3 (answer_a 11 0 (replicate 32 0))
  pub declined_figure : StepAnswered false scheme_a thirty_ten 3 (answer_a 11 26 (replicate 32 0)) → ⊥
  pub declined_row : StepAnswered false scheme_a thirty_ten 3 (answer_a 11 0 (1 ∷ replicate 31 0)) → ⊥

pub step_answers : StepAnswers
unfolding payoff_out cause_of size_out start_out horizon_out rule_out band_out sum_out premium_out any_below tab step_figure fill_row capacity_before sum_to only_if
step_answers =
    record {
      answered = record { number = refl; figure = refl; size = refl; declined_row = λ some. absurd (some refl); beyond = λ none. beyond_a; reaches = λ none. reaches_a };
      part_beyond = λ h. omega (arith, h.beyond refl 2 (omega arith));
      other_figure = λ h. omega (arith, h.figure);
      low_figure = λ h. omega (arith, h.figure);
      short_row = λ h. omega (arith, h.size);
      declined = record { number = refl; figure = refl; size = refl; declined_row = λ some. refl; beyond = λ none. absurd (omega arith); reaches = λ none. absurd (omega arith) };
      declined_figure = λ h. omega (arith, h.figure);
      declined_row = λ h. omega (arith, ap (λ l. at l 0) (h.declined_row (λ none. omega arith)));
    }

-- A step is answered with its figure and row, and a cause with its number and zeros.
abbrev step_a : Step
step_a = record { figure = 26; row = four_fifths }

pub step_is : step_answer_of (Ok step_a) ≡ answer_a 0 26 four_fifths
step_is = refl

pub no_step : step_answer_of (Err Class) ≡ answer_a 11 0 (replicate 32 0)
no_step = refl
