-- Worked cases, computed: what the two row operations answer for Example A and for small schemes.
use Rattle.std.specs.Prelude.{ℕ, ◌≡◌, refl, List, [], ◌∷◌}
use Rattle.setchain.specs.Sums.{sum_to, only_if}
use Rattle.setchain.specs.Tests.{any_below}
use Rattle.scheme.specs.Tables.{tab}
use Rattle.scheme.specs.Cause.{size_out, start_out, horizon_out, rule_out, band_out, sum_out, premium_out, cause_of}
use Rattle.scheme.proofs.Examples.{padded, scheme_a, single}
use Rattle.scheme.specs.RowAnswer.{RowAnswer}
use Rattle.scheme.specs.RowAnswer.{row_refused, row_answered, interval_answer, row_answer}

-- The answer with these entries, and 0 beyond.
abbrev pub answer_of : (lower upper : List ℕ) → RowAnswer
answer_of lower upper = record { number = 0; lower = padded 30 lower; upper = padded 30 upper }

-- Document 01: "class 1 row: lower 900000000, 0; upper 1000000000, 50000000. Class 2: lower 800000000, 100000000; upper 900000000, 250000000."
pub record IntervalAnswersA : Type 0 where
  pub row1 : interval_answer scheme_a 1 ≡ answer_of (900000000 ∷ 0 ∷ []) (1000000000 ∷ 50000000 ∷ [])
  pub row2 : interval_answer scheme_a 2 ≡ answer_of (800000000 ∷ 100000000 ∷ []) (900000000 ∷ 250000000 ∷ [])
  pub no_class : interval_answer scheme_a 0 ≡ row_refused 11
  pub beyond : interval_answer scheme_a 3 ≡ row_refused 11
  pub declined : interval_answer (single 2 0 1000000000 0) 2 ≡ row_refused 7

pub interval_answers_a : IntervalAnswersA
unfolding cause_of size_out start_out horizon_out rule_out band_out sum_out premium_out any_below sum_to only_if row_answered tab
interval_answers_a = record { row1 = refl; row2 = refl; no_class = refl; beyond = refl; declined = refl }

-- Document 02, item 2: "Example A's class 1 row becomes lower 950000000, 0 and upper 1000000000, 50000000; in its class 2 row only the last upper
-- entry changes, to 200000000." One class with a band from 0 to ONE has ONE and ONE.
pub record RowAnswersA : Type 0 where
  pub row1 : row_answer scheme_a 1 ≡ answer_of (950000000 ∷ 0 ∷ []) (1000000000 ∷ 50000000 ∷ [])
  pub row2 : row_answer scheme_a 2 ≡ answer_of (800000000 ∷ 100000000 ∷ []) (900000000 ∷ 200000000 ∷ [])
  pub one_class : row_answer (single 1 0 1000000000 0) 1 ≡ answer_of (1000000000 ∷ 0 ∷ []) (1000000000 ∷ 0 ∷ [])
  pub no_class : row_answer scheme_a 0 ≡ row_refused 11
  pub beyond : row_answer scheme_a 3 ≡ row_refused 11
  pub declined : row_answer (single 2 0 1000000000 0) 2 ≡ row_refused 7

pub row_answers_a : RowAnswersA
unfolding cause_of size_out start_out horizon_out rule_out band_out sum_out premium_out any_below sum_to only_if row_answered tab
row_answers_a = record { row1 = refl; row2 = refl; one_class = refl; no_class = refl; beyond = refl; declined = refl }
