-- Interval rows, and the stochastic rows inside them (document 01, "Interval rows"). States are numbered from 0: class 1 is state 0.
use Rattle.std.specs.Prelude.{ℕ, ◌*◌, ◌≤◌, ◌<◌, ◌≡◌, List}
use Rattle.setchain.specs.Sums.{at, sum_to}

-- ONE, a billion parts: the whole of a share (document 01, "Units and the scheme").
abbrev pub ONE : ℕ
ONE = 1000000000

-- The lower and the upper entry, in parts, from one state to each state.
pub record IntervalRow : Type 0 where
  pub lower : ℕ → ℕ
  pub upper : ℕ → ℕ

-- The interval row that two lists hold.
abbrev pub lists_row : (lower upper : List ℕ) → IntervalRow
lists_row lower upper = record { lower = at lower; upper = at upper }

-- A row over n states that some stochastic row can lie inside: entries in order, at most ONE, and sums that enclose ONE.
pub record SoundRow (n : ℕ) (r : IntervalRow) : Type 0 where
  pub ordered : (j : ℕ) → j < n → r.lower j ≤ r.upper j
  pub capped : (j : ℕ) → j < n → r.upper j ≤ ONE
  pub lowers : sum_to n r.lower ≤ ONE
  pub uppers : ONE ≤ sum_to n r.upper

-- Whole numbers `entry` over M, here `over`: each entry counts as its whole number divided by M.
pub record Row : Type 0 where
  pub over : ℕ
  pub entry : ℕ → ℕ

-- "A stochastic row over M (any whole number from 1) is s whole numbers that sum to M. It lies inside when lower × M ≤ entry × ONE ≤ upper × M at every class."
pub record Inside (n : ℕ) (r : IntervalRow) (q : Row) : Type 0 where
  pub positive : 1 ≤ q.over
  pub sums : sum_to n q.entry ≡ q.over
  pub above : (j : ℕ) → j < n → r.lower j * q.over ≤ q.entry j * ONE
  pub below : (j : ℕ) → j < n → q.entry j * ONE ≤ r.upper j * q.over

-- Every stochastic row inside `narrow` lies inside `wide` too.
abbrev pub Covers : ℕ → (wide narrow : IntervalRow) → Type 0
Covers n wide narrow = (q : Row) → Inside n narrow q → Inside n wide q

-- A row of whole parts: a stochastic row over ONE.
abbrev pub of_parts : (ℕ → ℕ) → Row
of_parts p = record { over = ONE; entry = p }

-- A set-chain: how many states, and the interval row of each.
pub record SetChain : Type 0 where
  pub states : ℕ
  pub row : ℕ → IntervalRow

-- Every row of the chain is sound.
abbrev pub SoundChain : SetChain → Type 0
SoundChain c = (i : ℕ) → i < c.states → SoundRow c.states (c.row i)

-- Chains over the same states, each row of one covering that of the other.
pub record CoversChain (wide narrow : SetChain) : Type 0 where
  pub states : wide.states ≡ narrow.states
  pub rows : (i : ℕ) → i < wide.states → Covers wide.states (wide.row i) (narrow.row i)
