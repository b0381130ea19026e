-- The fill: a row that starts from the lowers and gives the slack along an order, until none is left.
use Rattle.std.specs.Prelude.{ℕ, ◌+◌, ◌-◌, ◌<◌, ◌≡◌, ◌⊎◌, List, length}
use Rattle.setchain.specs.Sums.{at, sum_to}
use Rattle.setchain.specs.Rows.{ONE, SoundRow, lists_row}
use Rattle.setchain.specs.Step.{Parts}
use Rattle.order.specs.Order.{Occurs, Permutation}

-- What a fill takes: lists of one length, a sound row, and an order of its classes, as it is read.
pub record FillPre (lower upper order row : List ℕ) : Type 0 where
  pub uppers : length upper ≡ length lower
  pub rows : length row ≡ length lower
  pub permutation : Permutation (length lower) order
  pub sound : SoundRow (length lower) (lists_row lower upper)

-- The same where the row holds the lowers, and `parts` are left to give.
pub record FillSlackPre (lower upper order : List ℕ) (parts : ℕ) : Type 0 where
  pub uppers : length upper ≡ length lower
  pub permutation : Permutation (length lower) order
  pub sound : SoundRow (length lower) (lists_row lower upper)
  pub whole : sum_to (length lower) (at lower) + parts ≡ ONE

-- What it leaves: a row inside that is full before the place where it stopped, and bare after it.
pub record FillPost (lower upper order row : List ℕ) (stop : ℕ) : Type 0 where
  pub size : length row ≡ length lower
  pub parts : Parts (length lower) (lists_row lower upper) (at row)
  pub stops : stop < length lower
  pub full : (k : ℕ) → k < stop → at row (at order k - 1) ≡ at upper (at order k - 1)
  pub rest : (j : ℕ) → j < length lower → (at row j ≡ at lower j) ⊎ Occurs order (stop + 1) j
