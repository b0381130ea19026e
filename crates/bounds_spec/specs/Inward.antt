-- Narrower bands move bounds inward (document 02, item 1), of what the calls answer: "The trimmed scheme's low figures must be no smaller and its high
-- figures no larger", for every class, year, mean and total, pooled or not, for every chance of having reached a class, and for each number of a share sheet and of all figures.
use Prim.Native.Nat.{ℕ, ◌-◌, ◌≤◌}
use Rattle.std.specs.Prelude.{◌≡◌, List}
use Rattle.std.proofs.Math.Bool.{true, false}
use Rattle.setchain.specs.Sums.{at}
use Rattle.scheme.specs.declared.Scheme.{Scheme}
use Rattle.bounds_spec.specs.Answers.{BoundsAnswer, number_of, low_of, high_of, share_answer, mean_answer, total_answer, sheet_cause, sheet_slice, low_shares, high_shares}
use Rattle.bounds_spec.specs.Table.{low_table, high_table, table_cause}
use Rattle.bounds_spec.specs.Pooled.{Figure, pooled, pooled_answer, pooled_sheet_cause, pooled_shares}
use Rattle.bounds_spec.specs.Reached.{reached_answer}

-- The same call is answered, its low no smaller and its high no larger.
pub record BoundsInward (wide narrow : BoundsAnswer) : Type 0 where
  pub number : number_of wide ≡ number_of narrow
  pub low : low_of wide ≤ low_of narrow
  pub high : high_of narrow ≤ high_of wide

-- A call's number, and what its two slices hold afterwards.
pub record Slices : Type 0 where
  pub number : ℕ
  pub low : List ℕ
  pub high : List ℕ

-- The same call fills the slices, each low no smaller and each high no larger.
pub record SlicesInward (wide narrow : Slices) : Type 0 where
  pub number : wide.number ≡ narrow.number
  pub low : (j : ℕ) → at wide.low j ≤ at narrow.low j
  pub high : (j : ℕ) → at narrow.high j ≤ at wide.high j

-- What a share sheet leaves in the slices `low` and `high`.
abbrev pub sheet_slices : Scheme → ℕ → (low high : List ℕ) → Slices
sheet_slices s year low high =
    let number : ℕ = sheet_cause s year low high in
    record { number = number; low = sheet_slice number (low_shares s year) low; high = sheet_slice number (high_shares s year) high }

-- What a pooled share sheet leaves there.
abbrev pub pooled_slices : Scheme → (book : List ℕ) → ℕ → (low high : List ℕ) → Slices
pooled_slices s book year low high =
    let number : ℕ = pooled_sheet_cause s book year low high in
    record { number = number; low = sheet_slice number (pooled_shares false s book year) low; high = sheet_slice number (pooled_shares true s book year) high }

-- What a call for all figures leaves there.
abbrev pub table_slices : Scheme → (low high : List ℕ) → Slices
table_slices s low high =
    let number : ℕ = table_cause s low high in
    record { number = number; low = sheet_slice number (low_table s) low; high = sheet_slice number (high_table s) high }

-- Every answer for `narrow` is that for `wide` moved inward, and so is what the slices hold afterwards.
pub record AnswersInward (wide narrow : Scheme) : Type 0 where
  pub share : (class year : ℕ) → BoundsInward (share_answer wide class year) (share_answer narrow class year)
  pub mean : (year : ℕ) → BoundsInward (mean_answer wide year) (mean_answer narrow year)
  pub total : (year : ℕ) → BoundsInward (total_answer wide year) (total_answer narrow year)
  pub reached : (class year : ℕ) → BoundsInward (reached_answer wide class year) (reached_answer narrow class year)
  pub sheet : (year : ℕ) (low high : List ℕ) → SlicesInward (sheet_slices wide year low high) (sheet_slices narrow year low high)
  pub pooled_figures : (book : List ℕ) (figure : Figure) (year : ℕ) → BoundsInward (pooled_answer wide book figure year) (pooled_answer narrow book figure year)
  pub pooled_sheet : (book : List ℕ) (year : ℕ) (low high : List ℕ) → SlicesInward (pooled_slices wide book year low high) (pooled_slices narrow book year low high)
  pub table : (low high : List ℕ) → SlicesInward (table_slices wide low high) (table_slices narrow low high)
