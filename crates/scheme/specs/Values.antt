-- What two schemes have in common whose bands differ, or who differ only beyond s and m (document 01, "Units and the scheme").
use Rattle.std.specs.Prelude.{ℕ, ◌≤◌, ◌<◌, ◌≡◌}
use Rattle.scheme.specs.declared.Scheme.{Scheme}
use Rattle.scheme.specs.Access.{cell_count, rule_at, lower_at, upper_at, premium_at}

-- "Values stored beyond s or m are ignored": every other value is the same, but for the bands.
pub record SameButBands (s s' : Scheme) : Type 0 where
  pub classes : s.classes ≡ s'.classes
  pub columns : s.columns ≡ s'.columns
  pub start : s.start ≡ s'.start
  pub horizon : s.horizon ≡ s'.horizon
  pub rules : (i k : ℕ) → i < s.classes → k < cell_count s → rule_at s i k ≡ rule_at s' i k
  pub premiums : (i : ℕ) → i < s.classes → premium_at s i ≡ premium_at s' i

-- The bands are the same too.
pub record SameValues (s s' : Scheme) : Type 0 where
  pub others : SameButBands s s'
  pub lowers : (i k : ℕ) → i < s.classes → k < cell_count s → lower_at s i k ≡ lower_at s' i k
  pub uppers : (i k : ℕ) → i < s.classes → k < cell_count s → upper_at s i k ≡ upper_at s' i k

-- "equal but for their bands, with each band of one inside the matching band of the other" (document 02, item 1).
pub record Trimmed (wide narrow : Scheme) : Type 0 where
  pub others : SameButBands wide narrow
  pub lowers : (i k : ℕ) → i < wide.classes → k < cell_count wide → lower_at wide i k ≤ lower_at narrow i k
  pub uppers : (i k : ℕ) → i < wide.classes → k < cell_count wide → upper_at narrow i k ≤ upper_at wide i k
