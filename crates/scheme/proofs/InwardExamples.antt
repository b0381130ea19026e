-- Rows of Example A with a trimmed band, computed, and what "inward" forbids (document 02, items 1 and 2).
use Rattle.std.specs.Prelude.{◌≡◌, refl, [], ◌∷◌}
use Rattle.std.proofs.Common.{arith}
use Rattle.setchain.specs.Sums.{sum_to, only_if}
use Rattle.setchain.specs.Tests.{any_below}
use Rattle.scheme.specs.Tables.{tab}
use Rattle.scheme.specs.Cause.{size_out, start_out, horizon_out, rule_out, band_out, sum_out, premium_out, cause_of}
use Rattle.scheme.proofs.Examples.{scheme_a}
use Rattle.scheme.proofs.TrimmedExamples.{narrow_a, unchanged_a}
use Rattle.scheme.specs.RowAnswer.{row_refused, row_answered, row_answer}
use Rattle.scheme.proofs.RowExamples.{answer_of}
use Rattle.scheme.proofs.Inward.{RowInward}

-- The last column's band trimmed to .01 to .04: from class 1 every end moves. The second column's trimmed to .1 to .15: no end of class 2 moves.
pub record TrimmedRows : Type 0 where
  pub narrow : row_answer narrow_a 1 ≡ answer_of (960000000 ∷ 10000000 ∷ []) (990000000 ∷ 40000000 ∷ [])
  pub unchanged : row_answer unchanged_a 2 ≡ row_answer scheme_a 2

pub trimmed_rows : TrimmedRows
unfolding cause_of size_out start_out horizon_out rule_out band_out sum_out premium_out any_below sum_to only_if row_answered tab
trimmed_rows = record { narrow = refl; unchanged = refl }

-- Outward are a smaller lower end, a larger upper end, and another number.
pub record RowsOutward : Type 0 where
  pub lower : ¬ RowInward (answer_of (2 ∷ 2 ∷ []) (3 ∷ 3 ∷ [])) (answer_of (2 ∷ 1 ∷ []) (3 ∷ 3 ∷ []))
  pub upper : ¬ RowInward (answer_of (2 ∷ 2 ∷ []) (3 ∷ 3 ∷ [])) (answer_of (2 ∷ 2 ∷ []) (3 ∷ 4 ∷ []))
  pub number : ¬ RowInward (row_refused 10) (row_refused 11)

pub rows_outward : RowsOutward
rows_outward = record { lower = λ h. omega (arith, h.lower 1); upper = λ h. omega (arith, h.upper 1); number = λ h. omega (arith, h.number) }
