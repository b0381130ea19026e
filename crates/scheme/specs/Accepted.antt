-- When a scheme is accepted (document 01, "Units and the scheme"): one named fact for each line of the list, over values up to s and m alone.
use Rattle.std.specs.Prelude.{ℕ, ◌≤◌, ◌<◌}
use Rattle.setchain.specs.Sums.{sum_to}
use Rattle.setchain.specs.Rows.{ONE}
use Rattle.scheme.specs.declared.Scheme.{Scheme}
use Rattle.scheme.specs.Access.{cell_count, rule_at, lower_at, upper_at, premium_at}

-- "s classes, 1 to 32 …; m claim columns, 1 to 8".
pub record SizeFits (s : Scheme) : Type 0 where
  pub some_class : 1 ≤ s.classes
  pub classes : s.classes ≤ 32
  pub some_column : 1 ≤ s.columns
  pub columns : s.columns ≤ 8

-- "a start class, 1 to s".
pub record StartFits (s : Scheme) : Type 0 where
  pub positive : 1 ≤ s.start
  pub within : s.start ≤ s.classes

-- "a horizon of 0 to 100 years".
pub record HorizonFits (s : Scheme) : Type 0 where
  pub within : s.horizon ≤ 100

-- "a rule for each class and column: the next class, 1 to s".
pub record RulesFit (s : Scheme) : Type 0 where
  pub positive : (i k : ℕ) → i < s.classes → k < cell_count s → 1 ≤ rule_at s i k
  pub within : (i k : ℕ) → i < s.classes → k < cell_count s → rule_at s i k ≤ s.classes

-- "for each column a band, lower ≤ upper ≤ ONE".
pub record BandsFit (s : Scheme) : Type 0 where
  pub ordered : (i k : ℕ) → i < s.classes → k < cell_count s → lower_at s i k ≤ upper_at s i k
  pub capped : (i k : ℕ) → i < s.classes → k < cell_count s → upper_at s i k ≤ ONE

-- "with sum of lowers ≤ ONE ≤ sum of uppers".
pub record SumsFit (s : Scheme) : Type 0 where
  pub lowers : (i : ℕ) → i < s.classes → sum_to (cell_count s) (lower_at s i) ≤ ONE
  pub uppers : (i : ℕ) → i < s.classes → ONE ≤ sum_to (cell_count s) (upper_at s i)

-- "a premium for each class, 0 to 10,000,000 cents".
pub record PremiumsFit (s : Scheme) : Type 0 where
  pub within : (i : ℕ) → i < s.classes → premium_at s i ≤ 10000000

-- "A scheme is accepted exactly when this list holds".
pub record Accepted (s : Scheme) : Type 0 where
  pub size : SizeFits s
  pub start : StartFits s
  pub horizon : HorizonFits s
  pub rules : RulesFit s
  pub bands : BandsFit s
  pub sums : SumsFit s
  pub premiums : PremiumsFit s
