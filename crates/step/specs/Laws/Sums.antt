-- Sums over lists: after a store, and of part times payoff.
-- Assumes nothing.
use Rattle.std.specs.Prelude.{ℕ, ◌+◌, ◌*◌, ◌≤◌, ◌<◌, ◌≡◌, List, length, set}
use Rattle.std.proofs.Common.{ap, ◌∙◌, mul-le-mul_left, arith, get_or-set_same, get_or-set_other}
use Rattle.setchain.specs.Sums.{at, sum_to, dot}
use Rattle.setchain.specs.Rows.{ONE}
use Rattle.setchain.proofs.Laws.Sums.{sum_to_le, sum_to_scale, sum_to_more, sum_to_front, sum_to_change}
use Rattle.step_spec.specs.StepAnswer.{MOST_PAYOFF}
use Rattle.step.specs.Figure.{WeighPre}

-- A store changes the sum by what it changes at its place.
pub sum_to_set : (n : ℕ) (l : List ℕ) (j v : ℕ) → j < n → length l ≡ n → sum_to n (at (set l j v)) + at l j ≡ sum_to n (at l) + v
sum_to_set n l j v h e =
    sum_to_change n (at l) (at (set l j v)) j h (λ k kn ne. get_or-set_other l j k v 0 ne)
    ∙ ap (λ x. sum_to n (at l) + x) (get_or-set_same l j v 0 (omega arith))

-- The sum of part times payoff over a front fits.
weighed_front : (row payoff : List ℕ) (i : ℕ) → WeighPre row payoff → i ≤ length row
    → sum_to i (λ j. at row j * at payoff j) ≤ MOST_PAYOFF * ONE
weighed_front row payoff i w h =
    omega (
      arith,
      sum_to_front (λ j. at row j * at payoff j) (length row) i h,
      sum_to_le (length row) (λ j. at row j * at payoff j) (λ j. at row j * MOST_PAYOFF) (λ j l. mul-le-mul_left (at row j) (w.small j l)),
      sum_to_scale (length row) (at row) MOST_PAYOFF,
      ap (λ s. s * MOST_PAYOFF) w.sums,
    )

-- One more term of it.
pub weighed_more : (row payoff : List ℕ) (i sum : ℕ) → WeighPre row payoff → i < length row → sum ≡ dot i (at row) (at payoff)
    → (sum + at row i * at payoff i ≡ dot (i + 1) (at row) (at payoff)) × (sum + at row i * at payoff i ≤ MOST_PAYOFF * ONE)
weighed_more row payoff i sum w h e =
    omega
    (arith, sum_to_more (λ j. at row j * at payoff j) i, weighed_front row payoff (i + 1) w (omega arith))
