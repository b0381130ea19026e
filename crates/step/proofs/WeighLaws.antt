-- The loop of `weigh`: one more part and payoff, as the pair of the next place.
-- Assumes nothing.
use Rattle.std.specs.Prelude.{ℕ, ◌+◌, ◌*◌, ◌≤◌, ◌<◌, ◌≡◌, List, length}
use Rattle.setchain.specs.Sums.{at, dot}
use Rattle.setchain.specs.Rows.{ONE}
use Rattle.step_spec.specs.StepAnswer.{MOST_PAYOFF}
use Rattle.step.specs.Figure.{WeighPre}
use Rattle.step.specs.Laws.Sums.{weighed_more}

pub weighed_pair : {row payoff : List ℕ} {i sum part pays : ℕ} → WeighPre row payoff → sum ≡ dot i (at row) (at payoff) → i < length row
    → part ≡ at row i → pays ≡ at payoff i
    → (sum + part * pays ≡ dot (i + 1) (at row) (at payoff)) × (sum + part * pays ≤ MOST_PAYOFF * ONE)
weighed_pair {row} {payoff} {i} {sum} w so_far inside p q = rw (p, q) (weighed_more row payoff i sum w inside so_far)
