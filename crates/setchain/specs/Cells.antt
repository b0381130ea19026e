-- The interval row that bands make (document 01, "Interval rows"). A cell is a claim column: the state that its rule leads to, and its band.
use Rattle.std.specs.Prelude.{ℕ, min, ◌≤◌, ◌<◌, ◌≡◌, eqb}
use Rattle.setchain.specs.Sums.{sum_to, only_if}
use Rattle.setchain.specs.Rows.{ONE, IntervalRow}

-- The cells of one state, by number: where each leads, and the lower and upper end of its band.
pub record Cells : Type 0 where
  pub count : ℕ
  pub target : ℕ → ℕ
  pub lower : ℕ → ℕ
  pub upper : ℕ → ℕ

-- The sum of `band` over all cells that lead to state j; no cell gives 0.
abbrev pub sum_into : Cells → (ℕ → ℕ) → ℕ → ℕ
sum_into c band j = sum_to c.count (λ k. only_if (eqb (c.target k) j) (band k))

-- "the lower entry … is the sum of the lower bands of all columns whose rule sends i to j. The upper entry is the smaller of ONE and the same sum of upper bands."
abbrev pub row_of : Cells → IntervalRow
row_of c = record { lower = sum_into c c.lower; upper = λ j. min ONE (sum_into c c.upper j) }

-- Cells over n states whose bands are in order and whose sums enclose ONE (document 01, "Units and the scheme").
pub record SoundCells (n : ℕ) (c : Cells) : Type 0 where
  pub leads : (k : ℕ) → k < c.count → c.target k < n
  pub ordered : (k : ℕ) → k < c.count → c.lower k ≤ c.upper k
  pub lowers : sum_to c.count c.lower ≤ ONE
  pub uppers : ONE ≤ sum_to c.count c.upper

-- As many cells that lead to the same states, each band of `narrow` inside the matching band of `wide`.
pub record BandsWithin (wide narrow : Cells) : Type 0 where
  pub count : wide.count ≡ narrow.count
  pub targets : (k : ℕ) → k < wide.count → wide.target k ≡ narrow.target k
  pub lowers : (k : ℕ) → k < wide.count → wide.lower k ≤ narrow.lower k
  pub uppers : (k : ℕ) → k < wide.count → narrow.upper k ≤ wide.upper k
