-- The causes of a scheme, a class, a year and a lent slice (document 01, "When a call is declined"): their tests, and the first that applies to a scheme.
use Rattle.std.specs.Prelude.{ℕ, Bool, not, ◌||◌, List, [], ◌∷◌, eqb, ltb}
use Rattle.setchain.specs.Sums.{sum_to}
use Rattle.setchain.specs.Tests.{any_below}
use Rattle.setchain.specs.Rows.{ONE}
use Rattle.scheme.specs.declared.Scheme.{Scheme}
use Rattle.scheme.specs.Access.{cell_count, rule_at, lower_at, upper_at, premium_at}
use Rattle.scheme.specs.Accepted.{SizeFits, StartFits, HorizonFits, RulesFit, BandsFit, SumsFit, PremiumsFit}
use Rattle.scheme.specs.FirstCause.{◌when◌, first_of, Line, tests, FirstFails}

-- x is not one of 1 to max.
abbrev pub outside : ℕ → ℕ → Bool
outside max x = eqb x 0 || ltb max x

-- s or m out of range.
abbrev pub sizes_out : (s m : ℕ) → Bool
sizes_out s m = outside 32 s || outside 8 m

-- Cause 3 of s classes and m columns.
abbrev pub sizes_cause : (s m : ℕ) → ℕ
sizes_cause s m = 3 when sizes_out s m

-- Cause 3: those of the scheme.
unfoldable pub size_out : Scheme → Bool
size_out s = sizes_out s.classes s.columns

-- Cause 5: start 0 or above s.
unfoldable pub start_out : Scheme → Bool
start_out s = outside s.classes s.start

-- Cause 6: horizon above 100.
unfoldable pub horizon_out : Scheme → Bool
horizon_out s = ltb 100 s.horizon

-- Cause 7: a rule outside 1 to s.
unfoldable pub rule_out : Scheme → Bool
rule_out s = any_below s.classes (λ i. any_below (cell_count s) (λ k. outside s.classes (rule_at s i k)))

-- Band lower above upper, or upper above ONE.
abbrev pub band_test : ℕ → ℕ → Bool
band_test lower upper = ltb upper lower || ltb ONE upper

-- Cause 8: of some class and column.
unfoldable pub band_out : Scheme → Bool
band_out s = any_below s.classes (λ i. any_below (cell_count s) (λ k. band_test (lower_at s i k) (upper_at s i k)))

-- Cause 9: lowers sum above ONE, or uppers below.
unfoldable pub sum_out : Scheme → Bool
sum_out s =
    any_below s.classes (λ i. ltb ONE (sum_to (cell_count s) (lower_at s i)) || ltb (sum_to (cell_count s) (upper_at s i)) ONE)

-- Cause 10: a premium above 10,000,000.
unfoldable pub premium_out : Scheme → Bool
premium_out s = any_below s.classes (λ i. ltb 10000000 (premium_at s i))

-- The table's lines for a scheme by itself, in the order of their tests.
abbrev pub scheme_table : Scheme → List Line
scheme_table s =
    record { number = 3; applies = size_out s; Fits = SizeFits s }
    ∷ record { number = 5; applies = start_out s; Fits = StartFits s }
    ∷ record { number = 6; applies = horizon_out s; Fits = HorizonFits s }
    ∷ record { number = 7; applies = rule_out s; Fits = RulesFit s }
    ∷ record { number = 8; applies = band_out s; Fits = BandsFit s }
    ∷ record { number = 9; applies = sum_out s; Fits = SumsFit s }
    ∷ record { number = 10; applies = premium_out s; Fits = PremiumsFit s }
    ∷ []

-- The first cause that applies to the scheme by itself, or 0.
unfoldable pub cause_of : Scheme → ℕ
cause_of s = first_of (tests (scheme_table s))

-- A scheme with this cause: it is the first that applies.
abbrev pub Refused : Scheme → ℕ → Type 1
Refused s number = FirstFails (scheme_table s) number

-- Cause 11: queried class 0 or above s.
abbrev pub class_cause : Scheme → ℕ → ℕ
class_cause s class = 11 when outside s.classes class

-- Cause 12: queried year above the horizon.
abbrev pub year_cause : Scheme → ℕ → ℕ
year_cause s year = 12 when ltb s.horizon year

-- Cause 13: a lent slice that is not of the size asked for.
abbrev pub slice_cause : (size given : ℕ) → ℕ
slice_cause size given = 13 when not (eqb given size)

-- Cause 13 of two slices that are to have one size.
abbrev pub slices_cause : (size one other : ℕ) → ℕ
slices_cause size one other = first_of (slice_cause size one ∷ slice_cause size other ∷ [])
