-- The entries of all interval rows, listed by the state that they lead to.
-- The list of state j stands from place j × 32 on, of the tables joined to one list (Joined): at e the state whose row has the entry of place e, at lower_ends + e its lower end,
-- at capacities + e the capacity from there to its upper end, and at counts + j how many entries lead to state j.
use Rattle.std.specs.Prelude.{ℕ, ◌+◌, ◌*◌, ◌≤◌, ◌<◌, ◌≡◌, List, eqb, length}
use Rattle.scheme.specs.Access.{CELL_STRIDE, class_bands}
use Rattle.setchain.specs.Sums.{at, sum_to, only_if}
use Rattle.setchain.specs.Rows.{ONE, IntervalRow, SoundRow, SetChain, SoundChain}
use Rattle.setchain.specs.Step.{capacity}
use Rattle.setchain.proofs.Laws.Agreeing.{Agree}
use Rattle.scheme.specs.SumByTarget.{sum_by_target}
use Rattle.rows.specs.Rows.{class_rules}

-- Where the lower ends begin.
abbrev pub lower_ends : ℕ
lower_ends = 1024

-- Where the capacities begin.
abbrev pub capacities : ℕ
capacities = 2048

-- Where the counts begin.
abbrev pub counts : ℕ
counts = 3072

-- What the `count` entries from place `first` on have for state i's row, of the lower ends or of the capacities.
abbrev pub sum_of : List ℕ → (ends first count i : ℕ) → ℕ
sum_of entries ends first count i = sum_to count (λ e. only_if (eqb (at entries (first + e)) i) (at entries (ends + (first + e))))

-- What the list of state j has for state i's row.
abbrev pub list_sum : List ℕ → (ends j i : ℕ) → ℕ
list_sum entries ends j i = sum_of entries ends (j * 32) (at entries (counts + j)) i

-- The interval row of state i that the lists hold.
abbrev pub listed_row : (entries : List ℕ) → ℕ → IntervalRow
listed_row entries i =
    record {
      lower = λ j. list_sum entries lower_ends j i;
      upper = λ j. list_sum entries lower_ends j i + list_sum entries capacities j i;
    }

-- The set-chain of n states that the lists hold.
abbrev pub chain_listed : ℕ → (entries : List ℕ) → SetChain
chain_listed n entries = record { states = n; row = listed_row entries }

-- The interval row that some rules make with their bands' ends.
abbrev pub rules_row : List ℕ → List ℕ → List ℕ → IntervalRow
rules_row rules lowers uppers = record { lower = sum_by_target rules lowers; upper = sum_by_target rules uppers }

-- The set-chain of n states, each with m cells, that a scheme's rules make with the ends of its bands.
abbrev pub rules_chain : (n m : ℕ) (rules lowers uppers : List ℕ) → SetChain
rules_chain n m rules lowers uppers = record { states = n; row = λ i. rules_row (class_rules m rules i) (class_bands m lowers i) (class_bands m uppers i) }

-- Lists for n states in an array of their size: every entry is of a state's row, and no list has more than `most`.
pub record ShortLists (n most : ℕ) (entries : List ℕ) : Type 0 where
  pub size : length entries ≡ 3104
  pub rows : (e : ℕ) → e < 1024 → at entries e < n
  pub short : (j : ℕ) → j < n → at entries (counts + j) ≤ most

-- The lists hold sound rows of n states, and `slack` what the lower ends of each row leave of ONE.
pub record SoundLists (n : ℕ) (entries slack : List ℕ) : Type 0 where
  pub states : n ≤ 32
  pub lists : ShortLists n 32 entries
  pub slack_size : n ≤ length slack
  pub sound : SoundChain (chain_listed n entries)
  pub whole : (i : ℕ) → i < n → sum_to n (listed_row entries i).lower + at slack i ≡ ONE

-- Lists with no entry.
pub record EmptyLists (entries slack : List ℕ) : Type 0 where
  pub size : length entries ≡ 3104
  pub slack_size : length slack ≡ 32
  pub rows : (e : ℕ) → e < 1024 → at entries e ≡ 0
  pub none : (j : ℕ) → j < 32 → at entries (counts + j) ≡ 0

-- What it takes to add the row r of state i: a sound row of n states, and no list with more than i entries.
pub record AddRowPre (n : ℕ) (r : IntervalRow) (i : ℕ) (entries : List ℕ) : Type 0 where
  pub states : n ≤ 32
  pub inside : i < n
  pub sound : SoundRow n r
  pub lists : ShortLists n i entries

-- The lists before and after: each row has what it had, and state i's row its entries more.
pub record AddRowPost (n : ℕ) (r : IntervalRow) (i : ℕ) (entries entries' : List ℕ) : Type 0 where
  pub lists : ShortLists n (i + 1) entries'
  pub lower_sums : (j k : ℕ) → j < n → list_sum entries' lower_ends j k ≡ list_sum entries lower_ends j k + only_if (eqb i k) (r.lower j)
  pub capacity_sums : (j k : ℕ) → j < n → list_sum entries' capacities j k ≡ list_sum entries capacities j k + only_if (eqb i k) (capacity r j)

-- What it takes to list all rows: a sound chain of n states, its rules as far apart as cells are, and lists with no entry.
pub record ListRowsPre (n m : ℕ) (rules lowers uppers entries slack : List ℕ) : Type 0 where
  pub positive : 1 ≤ n
  pub states : n ≤ 32
  pub cells : m ≤ CELL_STRIDE
  pub stored : n * CELL_STRIDE ≤ length rules
  pub sound : SoundChain (rules_chain n m rules lowers uppers)
  pub empty : EmptyLists entries slack

-- The lists hold the rows of the chain.
pub record ListRowsPost (c : SetChain) (entries slack : List ℕ) : Type 0 where
  pub lists : SoundLists c.states entries slack
  pub agrees : (i : ℕ) → i < c.states → Agree c.states (listed_row entries i) (c.row i)
