-- The figure of a row: the sum of part times payoff over ONE, rounded away from what it bounds.
use Rattle.std.specs.Prelude.{ℕ, ◌≤◌, ◌<◌, ◌≡◌, List, length}
use Rattle.setchain.specs.Sums.{at, sum_to}
use Rattle.setchain.specs.Rows.{ONE}
use Rattle.step_spec.specs.StepAnswer.{MOST_PAYOFF}

-- A row of parts and a payoff whose sum of part times payoff fits.
pub record WeighPre (row payoff : List ℕ) : Type 0 where
  pub size : length payoff ≡ length row
  pub sums : sum_to (length row) (at row) ≡ ONE
  pub small : (j : ℕ) → j < length row → at payoff j ≤ MOST_PAYOFF
