-- The one-year step over lists (document 01, "One year"): what it takes and what it leaves.
use Rattle.std.specs.Prelude.{ℕ, ◌≤◌, ◌<◌, ◌≡◌, Bool, List, length}
use Rattle.setchain.specs.Rows.{SoundRow, lists_row}
use Rattle.setchain.specs.Step.{Reaches}
use Rattle.order.specs.Order.{SortedPermutation}
use Rattle.step_spec.specs.StepAnswer.{MOST_PAYOFF}
use Rattle.setchain.specs.Sums.{at}

-- Lists of one length, a sound row, payoffs that are not too large, and an order of the classes by payoff.
pub record StepPre (lower upper payoff order : List ℕ) (high : Bool) (row : List ℕ) : Type 0 where
  pub uppers : length upper ≡ length lower
  pub payoffs : length payoff ≡ length lower
  pub rows : length row ≡ length lower
  pub sound : SoundRow (length lower) (lists_row lower upper)
  pub small : (j : ℕ) → j < length lower → at payoff j ≤ MOST_PAYOFF
  pub sorted : SortedPermutation payoff order

-- The row is one that reaches the figure r.
pub record StepPost (lower upper payoff : List ℕ) (high : Bool) (row : List ℕ) (r : ℕ) : Type 0 where
  pub size : length row ≡ length lower
  pub reaches : Reaches high (length lower) (lists_row lower upper) (at payoff) (at row) r
