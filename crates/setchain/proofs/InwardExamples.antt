-- Item 1 of document 02 on small rows: which rows cover which, and figures that move with a narrower row.
use Rattle.std.specs.Prelude.{ℕ, ◌≡◌, refl, [], ◌∷◌}
use Rattle.std.proofs.Common.{arith}
use Rattle.setchain.specs.Sums.{at, sum_to, only_if}
use Rattle.setchain.specs.Rows.{IntervalRow, Covers, of_parts}
use Rattle.setchain.specs.Step.{capacity_before, fill_row, step_figure, low_step, high_step, Parts}
use Rattle.setchain.proofs.Laws.Sums.{below_two}
use Rattle.setchain.proofs.Laws.Cells.{entries_cover}
use Rattle.setchain.proofs.Examples.{example_row, payoff, row_of_two}

-- The row of document 01's first step, its first lower entry .1 trimmed to .2: the low figure moves from 15 to 17, the high figure stays 23.
abbrev trimmed_row : IntervalRow
trimmed_row = record { lower = at (200000000 ∷ 200000000 ∷ 300000000 ∷ []); upper = example_row.upper }

pub record TrimmedSteps : Type 0 where
  pub low : (low_step 3 example_row payoff ≡ 15) × (low_step 3 trimmed_row payoff ≡ 17)
  pub high : (high_step 3 example_row payoff ≡ 23) × (high_step 3 trimmed_row payoff ≡ 23)

pub trimmed_steps : TrimmedSteps
unfolding step_figure fill_row capacity_before sum_to only_if
trimmed_steps = record { low = (refl, refl); high = (refl, refl) }

-- Example A's row of class 2; with its first upper entry trimmed; and with its second, which leaves the same rows inside.
pub record CoversA : Type 0 where
  pub trimmed : Covers 2 (row_of_two 800000000 100000000 900000000 250000000) (row_of_two 800000000 100000000 850000000 250000000)
  pub turned : ¬ Covers 2 (row_of_two 800000000 100000000 850000000 250000000) (row_of_two 800000000 100000000 900000000 250000000)
  pub same_rows : Covers 2 (row_of_two 800000000 100000000 900000000 200000000) (row_of_two 800000000 100000000 900000000 250000000)

-- As much in the first state as Example A's row allows.
abbrev most_first : ℕ → ℕ
most_first = at (900000000 ∷ 100000000 ∷ [])

most_first_lem : Parts 2 (row_of_two 800000000 100000000 900000000 250000000) most_first
unfolding sum_to
most_first_lem = record { positive = omega arith; sums = refl; above = below_two _ (omega arith) (omega arith); below = below_two _ (omega arith) (omega arith) }

pub covers_a : CoversA
unfolding sum_to
covers_a =
    record {
      trimmed = entries_cover 2 _ _ (below_two _ (omega arith) (omega arith)) (below_two _ (omega arith) (omega arith));
      turned = λ h. omega (arith, (h (of_parts most_first) most_first_lem).below 0 (omega arith));
      same_rows = λ q h.
          record {
            positive = h.positive;
            sums = h.sums;
            above = h.above;
            below = below_two _ (h.below 0 (omega arith)) (omega (arith, h.sums, h.above 0 (omega arith)));
          };
    }
