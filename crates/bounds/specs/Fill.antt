-- The fill of a year: along an order of the states, each row gets its lower parts and, as far as it has slack left, parts of it.
use Rattle.std.specs.Prelude.{ℕ, zero, suc, min, ◌+◌, ◌-◌, ◌*◌, ◌≤◌, ◌<◌, ◌≡◌, Bool, List, length}
use Rattle.setchain.specs.Rows.{ONE, IntervalRow}
use Rattle.setchain.specs.Rounding.{rounded}
use Rattle.setchain.specs.Step.{capacity}
use Rattle.order.specs.Order.{Permutation}
use Rattle.setchain.specs.Sums.{at}
use Rattle.step_spec.specs.StepAnswer.{MOST_PAYOFF}
use Rattle.bounds.specs.Entries.{lower_ends, capacities, sum_of, listed_row, SoundLists}

-- No number of the first n is so large that a sum does not fit.
abbrev pub Small : ℕ → List ℕ → Type 0
Small n l = (j : ℕ) → j < n → at l j ≤ MOST_PAYOFF

-- The slack that a row has left when the states at the first k places of the order are filled.
unfoldable pub left_at : IntervalRow → List ℕ → ℕ → ℕ → ℕ
left_at r order slack zero = slack
left_at r order slack (suc k) = left_at r order slack k - capacity r (at order k - 1)

-- The sum of part times payoff over those states.
unfoldable pub sum_at : IntervalRow → (ℕ → ℕ) → List ℕ → ℕ → ℕ → ℕ
sum_at r f order slack zero = 0
sum_at r f order slack (suc k) =
    sum_at r f order slack k + (r.lower (at order k - 1) + min (left_at r order slack k) (capacity r (at order k - 1))) * f (at order k - 1)

-- The parts that row i takes of the entries to one state.
abbrev pub taken : (entries : List ℕ) → (first end : ℕ) → List ℕ → ℕ → ℕ
taken entries first end left i = sum_of entries lower_ends first (end - first) i + min (at left i) (sum_of entries capacities first (end - first) i)

-- What it takes to fill one state: entries of rows that have a place, each of at most ONE, and sums that fit.
pub record FillStatePre (entries : List ℕ) (first end payoff : ℕ) (left sums : List ℕ) : Type 0 where
  pub size : length sums ≡ length left
  pub rows : (e : ℕ) → e < 1024 → at entries e < length left
  pub ordered : first ≤ end
  pub inside : end ≤ 1024
  pub small : (e : ℕ) → first ≤ e → e < end → at entries (lower_ends + e) + at entries (capacities + e) ≤ ONE
  pub fits : (i : ℕ) → i < length left → at sums i + taken entries first end left i * payoff ≤ MOST_PAYOFF * ONE

-- What it leaves: each row's slack less what it took of it, and its sum with the parts that it took.
pub record FillStatePost (entries : List ℕ) (first end payoff : ℕ) (left sums left' sums' : List ℕ) : Type 0 where
  pub left_size : length left' ≡ length left
  pub size : length sums' ≡ length left
  pub rest : (i : ℕ) → i < length left → at left' i ≡ at left i - sum_of entries capacities first (end - first) i
  pub more : (i : ℕ) → i < length left → at sums' i ≡ at sums i + taken entries first end left i * payoff

-- What it takes to fill all states: lists that hold sound rows, an order as it is read, payoffs that are not too large, the rows' slack, and sums of 0.
pub record FillStatesPre (entries payoff order left sums : List ℕ) : Type 0 where
  pub lists : SoundLists (length payoff) entries left
  pub permutation : Permutation (length payoff) order
  pub small : Small (length payoff) payoff
  pub left_size : length left ≡ length payoff
  pub size : length sums ≡ length payoff
  pub none : (i : ℕ) → i < length payoff → at sums i ≡ 0

-- What it leaves: each row's sum, which fits.
pub record FillStatesPost (entries payoff order left sums : List ℕ) : Type 0 where
  pub size : length sums ≡ length payoff
  pub each : (i : ℕ) → i < length payoff → at sums i ≡ sum_at (listed_row entries i) (at payoff) order (at left i) (length payoff)
  pub fits : (i : ℕ) → i < length payoff → at sums i ≤ MOST_PAYOFF * ONE

-- Sums and gains that make figures.
pub record RoundSumsPre (gain sums : List ℕ) : Type 0 where
  pub size : length sums ≡ length gain
  pub gains : Small (length gain) gain
  pub fits : (i : ℕ) → i < length gain → at sums i ≤ MOST_PAYOFF * ONE

-- The figures that they make.
pub record RoundSumsPost (gain : List ℕ) (high : Bool) (sums figures : List ℕ) : Type 0 where
  pub size : length figures ≡ length gain
  pub each : (i : ℕ) → i < length gain → at figures i ≡ at gain i + rounded high ONE (at sums i)
