-- Item 1 of document 02 on Example A, computed: a trimmed band that moves bounds, one that changes nothing, and what "inward" forbids.
use Rattle.std.specs.Prelude.{ℕ, zero, suc, ◌≤◌, ◌≡◌, refl, [], ◌∷◌}
use Rattle.std.proofs.Common.{arith, le_refl}
use Rattle.setchain.specs.Sums.{at, sum_to, only_if}
use Rattle.setchain.specs.Step.{capacity_before, fill_row, step_figure}
use Rattle.setchain.specs.Years.{years_figure}
use Rattle.setchain.specs.Reached.{reached_figure}
use Rattle.setchain.specs.Tests.{any_below}
use Rattle.scheme.specs.Tables.{tab}
use Rattle.scheme.specs.Cause.{size_out, start_out, horizon_out, rule_out, band_out, sum_out, premium_out, cause_of}
use Rattle.scheme.proofs.Examples.{scheme_a, rows_a}
use Rattle.scheme.proofs.TrimmedExamples.{narrow_a, unchanged_a, trimmed_a}
use Rattle.scheme.proofs.Laws.Judged.{accepted_cause}
use Rattle.bounds_spec.specs.Answers.{Answered, Refused, share_answer, mean_answer, total_answer}
use Rattle.bounds_spec.specs.Reached.{reached_answer}
use Rattle.bounds_spec.specs.Table.{table_entry, figure_table, low_table, high_table}
use Rattle.bounds_spec.proofs.Inward.{BoundsInward, SlicesInward, Slices, AnswersInward, answers_inward}

-- Both pairs are trimmed, so their answers move inward.
pub narrow_inward : AnswersInward scheme_a narrow_a
narrow_inward = answers_inward (accepted_cause scheme_a rows_a.accepted) (accepted_cause narrow_a trimmed_a.narrow_accepted) trimmed_a.narrow

pub unchanged_inward : AnswersInward scheme_a unchanged_a
unchanged_inward = answers_inward (accepted_cause scheme_a rows_a.accepted) (accepted_cause unchanged_a trimmed_a.unchanged_accepted) trimmed_a.unchanged

-- With the last column's band trimmed the bounds move: Example A has shares of .92 to .99 and .01 to .08 in year 2, a mean of 10050 to 10400 and a total of
-- 25500 to 26000, whose high end alone stays; and class 1 is reached by .96 to .99.
pub record NarrowA : Type 0 where
  pub share1 : share_answer narrow_a 1 2 ≡ Answered 928000000 979000000
  pub share2 : share_answer narrow_a 2 2 ≡ Answered 21000000 72000000
  pub mean : mean_answer narrow_a 2 ≡ Answered 10105 10360
  pub total : total_answer narrow_a 2 ≡ Answered 25550 26000
  pub reached : reached_answer narrow_a 1 2 ≡ Answered 960000000 987900000

pub narrow_a_lem : NarrowA
unfolding share_answer mean_answer total_answer reached_answer cause_of size_out start_out horizon_out rule_out band_out sum_out premium_out any_below
    years_figure reached_figure step_figure fill_row capacity_before sum_to only_if
narrow_a_lem = record { share1 = refl; share2 = refl; mean = refl; total = refl; reached = refl }

-- With the second column's band trimmed, whose upper end no row reaches, no figure moves.
pub record UnchangedA : Type 0 where
  pub lows : low_table unchanged_a ≡ low_table scheme_a
  pub highs : high_table unchanged_a ≡ high_table scheme_a

pub unchanged_a_lem : UnchangedA
unfolding figure_table table_entry tab years_figure step_figure fill_row capacity_before sum_to only_if
unchanged_a_lem = record { lows = refl; highs = refl }

-- The slices of two numbers each, after a call without a cause.
abbrev pairs : (low low' high high' : ℕ) → Slices
pairs low low' high high' = record { number = 0; low = low ∷ low' ∷ []; high = high ∷ high' ∷ [] }

two_places : (a b c d : ℕ) → a ≤ c → b ≤ d → (j : ℕ) → at (a ∷ b ∷ []) j ≤ at (c ∷ d ∷ []) j
two_places a b c d h k zero = h
two_places a b c d h k (suc zero) = k
two_places a b c d h k (suc (suc j)) = le_refl 0

-- What is inward, and what is not: a smaller low, a larger high, another number.
pub record InwardCases : Type 0 where
  pub inside : BoundsInward (Answered 8 12) (Answered 9 11)
  pub same : BoundsInward (Answered 8 12) (Answered 8 12)
  pub smaller_low : ¬ BoundsInward (Answered 8 12) (Answered 7 12)
  pub larger_high : ¬ BoundsInward (Answered 8 12) (Answered 8 13)
  pub declined : ¬ BoundsInward (Answered 0 0) (Refused 12)
  pub other_cause : ¬ BoundsInward (Refused 11) (Refused 12)
  pub slices : SlicesInward (pairs 1 8 3 12) (pairs 1 9 3 11)
  pub smaller_low_there : ¬ SlicesInward (pairs 1 8 3 12) (pairs 1 7 3 12)
  pub larger_high_there : ¬ SlicesInward (pairs 1 8 3 12) (pairs 1 8 3 13)

pub inward_cases : InwardCases
inward_cases =
    record {
      inside = record { number = refl; low = omega arith; high = omega arith };
      same = record { number = refl; low = omega arith; high = omega arith };
      smaller_low = λ h. omega (arith, h.low);
      larger_high = λ h. omega (arith, h.high);
      declined = λ h. omega (arith, h.number);
      other_cause = λ h. omega (arith, h.number);
      slices = record { number = refl; low = two_places 1 8 1 9 (omega arith) (omega arith); high = two_places 3 11 3 12 (omega arith) (omega arith) };
      smaller_low_there = λ h. omega (arith, h.low 1);
      larger_high_there = λ h. omega (arith, h.high 1);
    }
