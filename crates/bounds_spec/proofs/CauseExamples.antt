-- Worked cases, computed: the causes of queries of Example A, which has 2 classes and a horizon of 2 years, and their order.
use Rattle.std.specs.Prelude.{◌≡◌, refl, Ok, Err}
use Rattle.setchain.specs.Sums.{sum_to}
use Rattle.setchain.specs.Tests.{any_below}
use Rattle.scheme.specs.declared.Cause.TheVariants.{Year}
use Rattle.scheme.specs.Cause.{size_out, start_out, horizon_out, rule_out, band_out, sum_out, premium_out, cause_of}
use Rattle.scheme.proofs.Examples.{scheme_a, single}
use Rattle.bounds_spec.specs.Answers.{Answered, Refused, bounds_answer_of, number_of, low_of, high_of}
use Rattle.bounds_spec.specs.Causes.{share_cause, money_cause, sheet_lengths_cause, table_size, table_lengths_cause}

-- A class above s, a year above the horizon, and both.
pub record ShareCauses : Type 0 where
  pub class : share_cause scheme_a 3 2 ≡ 11
  pub no_class : share_cause scheme_a 0 2 ≡ 11
  pub year : share_cause scheme_a 2 3 ≡ 12
  pub both : share_cause scheme_a 3 9 ≡ 11
  pub none : share_cause scheme_a 2 2 ≡ 0
  pub scheme : share_cause (single 2 0 1000000000 0) 3 101 ≡ 7

-- A year above the horizon, also of a scheme that is not accepted; a slice one too long or too short: of s numbers for a sheet, and of 3 × 3 + 1 for the table.
pub record SliceCauses : Type 0 where
  pub money : money_cause scheme_a 3 ≡ 12
  pub money_none : money_cause scheme_a 2 ≡ 0
  pub money_scheme : money_cause (single 2 0 1000000000 0) 101 ≡ 7
  pub sheet : sheet_lengths_cause scheme_a 2 2 3 ≡ 13
  pub sheet_year : sheet_lengths_cause scheme_a 3 2 3 ≡ 12
  pub sheet_none : sheet_lengths_cause scheme_a 2 2 2 ≡ 0
  pub size : table_size scheme_a ≡ 10
  pub table : table_lengths_cause scheme_a 9 10 ≡ 13
  pub table_none : table_lengths_cause scheme_a 10 10 ≡ 0

pub share_causes : ShareCauses
unfolding cause_of size_out start_out horizon_out rule_out band_out sum_out premium_out any_below sum_to
share_causes = record { class = refl; no_class = refl; year = refl; both = refl; none = refl; scheme = refl }

pub slice_causes : SliceCauses
unfolding cause_of size_out start_out horizon_out rule_out band_out sum_out premium_out any_below sum_to
slice_causes =
    record { money = refl; money_none = refl; money_scheme = refl; sheet = refl; sheet_year = refl; sheet_none = refl; size = refl; table = refl; table_none = refl }

-- Bounds are answered as they are, and a cause with its number.
bounds_are : bounds_answer_of (Ok (record { low = 3; high = 5 })) ≡ Answered 3 5
bounds_are = refl

no_bounds : bounds_answer_of (Err Year) ≡ Refused 12
no_bounds = refl

-- The number and the figures of each answer.
pub answer_parts : (number_of (Answered 3 5) ≡ 0) × (low_of (Answered 3 5) ≡ 3) × (high_of (Answered 3 5) ≡ 5) × (number_of (Refused 12) ≡ 12) × (low_of (Refused 12) ≡ 0) × (high_of (Refused 12) ≡ 0)
answer_parts = (refl, refl, refl, refl, refl, refl)
