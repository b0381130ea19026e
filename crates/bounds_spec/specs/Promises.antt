-- Demand 3 as the calls promise it, from the scheme and the answer alone (document 01, "Years"; for money, document 02, item 6).
use Rattle.std.specs.Prelude.{ℕ, ◌-◌, ◌≤◌, ◌<◌, ◌≡◌, List, get_or}
use Rattle.setchain.specs.Fractions.{Fraction, whole}
use Rattle.setchain.specs.Picks.{Matrix, exact_mean, exact_total}
use Rattle.setchain.specs.Promise.{share_in_parts, NoFurther, Nearer, cent_and_tenths, KeptBy}
use Rattle.scheme.specs.declared.Scheme.{Scheme}
use Rattle.scheme.specs.Access.{premium_at}
use Rattle.scheme.specs.Rows.{chain_of}
use Rattle.bounds_spec.specs.Answers.{BoundsAnswer, number_of, low_of, high_of, start_of}
use Rattle.bounds_spec.specs.Table.{place_of}
use Rattle.bounds_spec.specs.Causes.{total_place}

-- Of a share: "For all picks for t years, low ≤ exact … ≤ high";
-- "For each such low, and for each such high, some picks for t years bring the exact figure, in the same unit, no further than t from it".
abbrev pub ShareKept : Scheme → (t : ℕ) → (exact : List Matrix → Fraction) → (low high : ℕ) → Type 0
ShareKept s t = KeptBy (chain_of s) t (NoFurther (whole t))

-- Of money: "the closeness wanted of t years is now less than one cent plus t tenths; containment reads as before".
abbrev pub MoneyKept : Scheme → (t : ℕ) → (exact : List Matrix → Fraction) → (low high : ℕ) → Type 0
MoneyKept s t = KeptBy (chain_of s) t (Nearer (cent_and_tenths t))

-- The exact share of state j, in parts, seen from the start class.
abbrev pub start_share : Scheme → ℕ → List Matrix → Fraction
start_share s j ps = share_in_parts s.classes j ps (start_of s)

-- The exact mean premium, in cents.
abbrev pub start_mean : Scheme → List Matrix → Fraction
start_mean s ps = exact_mean s.classes (premium_at s) ps (start_of s)

-- The exact total of premiums, in cents.
abbrev pub start_total : Scheme → List Matrix → Fraction
start_total s ps = exact_total s.classes (premium_at s) ps (start_of s)

-- Of the low and high answered for the share of a class.
abbrev pub SharePromise : Scheme → ℕ → ℕ → BoundsAnswer → Type 0
SharePromise s class year r = number_of r ≡ 0 → ShareKept s year (start_share s (class - 1)) (low_of r) (high_of r)

-- Of the low and high answered for the mean premium of a year.
abbrev pub MeanPromise : Scheme → ℕ → BoundsAnswer → Type 0
MeanPromise s year r = number_of r ≡ 0 → MoneyKept s year (start_mean s) (low_of r) (high_of r)

-- Of the low and high answered for the total of a year's number of premiums.
abbrev pub TotalPromise : Scheme → ℕ → BoundsAnswer → Type 0
TotalPromise s year r = number_of r ≡ 0 → MoneyKept s year (start_total s) (low_of r) (high_of r)

-- Of the numbers in the two slices of a share sheet, for each class.
abbrev pub SheetPromise : Scheme → ℕ → ℕ → List ℕ → List ℕ → Type 0
SheetPromise s year number low high =
    number ≡ 0 → (j : ℕ) → j < s.classes → ShareKept s year (start_share s j) (get_or low j 0) (get_or high j 0)

-- "For all picks for t years" and "some picks for t years", for each number of a table's low and high lists.
pub record TableKept (s : Scheme) (low high : List ℕ) : Type 0 where
  -- The share of each class in each year.
  pub shares : (t j : ℕ) → t ≤ s.horizon → j < s.classes → ShareKept s t (start_share s j) (get_or low (place_of s t j) 0) (get_or high (place_of s t j) 0)
  -- The mean premium of each year.
  pub means : (t : ℕ) → t ≤ s.horizon → MoneyKept s t (start_mean s) (get_or low (place_of s t s.classes) 0) (get_or high (place_of s t s.classes) 0)
  -- The total of the horizon's premiums.
  pub total : MoneyKept s s.horizon (start_total s) (get_or low (total_place s) 0) (get_or high (total_place s) 0)

-- Of the numbers in the two slices of all figures.
abbrev pub FiguresPromise : Scheme → ℕ → List ℕ → List ℕ → Type 0
FiguresPromise s number low high = number ≡ 0 → TableKept s low high
