-- The chance of having reached a class, computed (document 02, item 9): Example A's answers and causes, a class that cannot be reached, and exact chances of given picks.
use Rattle.std.specs.Prelude.{◌≡◌, refl, [], ◌∷◌}
use Rattle.std.proofs.Common.{arith}
use Rattle.setchain.specs.Sums.{sum_to, only_if}
use Rattle.setchain.specs.Tests.{any_below}
use Rattle.setchain.specs.Fractions.{sum_fractions}
use Rattle.setchain.specs.Rows.{ONE}
use Rattle.setchain.specs.Step.{capacity_before, fill_row, step_figure}
use Rattle.setchain.specs.Reached.{reached_figure, begins_at, holds, along, sum_sequences, exact_reached}
use Rattle.setchain.proofs.Examples.{picks_a}
use Rattle.setchain.proofs.DistanceExamples.{HasValue}
use Rattle.scheme.specs.declared.Scheme.{Scheme}
use Rattle.scheme.specs.Cause.{size_out, start_out, horizon_out, rule_out, band_out, sum_out, premium_out, cause_of}
use Rattle.scheme.proofs.Examples.{padded, scheme_a, single}
use Rattle.bounds_spec.specs.Answers.{Answered, Refused}
use Rattle.bounds_spec.specs.Reached.{reached_answer, start_reached}

-- One column, which leads from class 1 and from class 2 to class 1: whoever begins there never stands in class 2.
abbrev settled : Scheme
settled =
    record {
      classes = 2;
      columns = 1;
      start = 1;
      horizon = 2;
      rules = padded 247 (1 ∷ 0 ∷ 0 ∷ 0 ∷ 0 ∷ 0 ∷ 0 ∷ 0 ∷ 1 ∷ []);
      lowers = padded 7 (0 ∷ []);
      uppers = padded 7 (1000000000 ∷ []);
      premiums = padded 30 (10 ∷ 11 ∷ []);
    }

-- Example A begins in class 2, which keeps ONE; class 1 is reached by .8 to .9 in the first year, and by .8 or .9 of those left in the second.
-- Its horizon is 2 years. A class is tested before a year, and the scheme before both.
pub record AnswersReached : Type 0 where
  pub year0 : reached_answer scheme_a 1 0 ≡ Answered 0 0
  pub year1 : reached_answer scheme_a 1 1 ≡ Answered 800000000 900000000
  pub year2 : reached_answer scheme_a 1 2 ≡ Answered 960000000 990000000
  pub itself0 : reached_answer scheme_a 2 0 ≡ Answered ONE ONE
  pub itself1 : reached_answer scheme_a 2 1 ≡ Answered ONE ONE
  pub itself2 : reached_answer scheme_a 2 2 ≡ Answered ONE ONE
  pub never : (reached_answer settled 2 0 ≡ Answered 0 0) × (reached_answer settled 2 1 ≡ Answered 0 0) × (reached_answer settled 2 2 ≡ Answered 0 0)
  pub no_class : reached_answer scheme_a 0 2 ≡ Refused 11
  pub class_above : reached_answer scheme_a 3 2 ≡ Refused 11
  pub year_above : reached_answer scheme_a 1 3 ≡ Refused 12
  pub both : reached_answer scheme_a 3 3 ≡ Refused 11
  pub scheme : reached_answer (single 2 0 1000000000 0) 3 101 ≡ Refused 7

pub answers_reached : AnswersReached
unfolding reached_answer cause_of size_out start_out horizon_out rule_out band_out sum_out premium_out any_below reached_figure step_figure fill_row capacity_before sum_to only_if
answers_reached =
    record {
      year0 = refl;
      year1 = refl;
      year2 = refl;
      itself0 = refl;
      itself1 = refl;
      itself2 = refl;
      never = (refl, refl, refl);
      no_class = refl;
      class_above = refl;
      year_above = refl;
      both = refl;
      scheme = refl;
    }

-- The exact chances of two years' picks, seen from class 2: 34 of 35 for class 1, and ONE for class 2 itself.
pub record ExactFromStart : Type 0 where
  pub class1 : HasValue (start_reached scheme_a 0 picks_a) 34000000000 35
  pub class2 : HasValue (start_reached scheme_a 1 picks_a) 1000000000 1

pub exact_from_start : ExactFromStart
unfolding exact_reached along holds begins_at sum_sequences sum_fractions
exact_from_start = record { class1 = record { proper = omega arith; same = refl }; class2 = record { proper = omega arith; same = refl } }
