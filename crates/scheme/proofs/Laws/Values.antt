-- Schemes with the same values have the same causes and interval rows, and a scheme has the same values as itself with 0 beyond s and m.
use Rattle.std.specs.Prelude.{ℕ, min, ◌-◌, ◌<◌, ◌≡◌, refl, Bool, true, false, ◌||◌, eqb}
use Rattle.std.proofs.Math.Path.{ap, ap₂}
use Rattle.std.proofs.Common.{sym, ◌∙◌, arith}
use Rattle.std.proofs.Math.Dec.{ltb}
use Rattle.setchain.specs.Sums.{sum_to, only_if}
use Rattle.setchain.specs.Rows.{ONE}
use Rattle.setchain.proofs.Laws.Sums.{sum_to_eq}
use Rattle.setchain.proofs.Laws.Tests.{any_eq}
use Rattle.scheme.specs.declared.Scheme.{Scheme}
use Rattle.scheme.specs.Access.{cell_count, rule_at, lower_at, upper_at, premium_at}
use Rattle.scheme.specs.Accepted.{SizeFits}
use Rattle.scheme.specs.Cause.{outside, band_test, size_out, start_out, horizon_out, rule_out, band_out, sum_out, premium_out, cause_of, class_cause, year_cause}
use Rattle.scheme.specs.FirstCause.{◌when◌, or_else}
use Rattle.scheme.specs.Rows.{chain_of}
use Rattle.scheme.specs.Stored.{scheme_of, cleared}
use Rattle.scheme.specs.Values.{SameButBands, SameValues}
use Rattle.scheme.proofs.Laws.FirstCause.{by_cause}
use Rattle.scheme.proofs.Laws.Judged.{size_tells}
use Rattle.scheme.proofs.Laws.Stored.{stored_at, rule_stored, lower_made, upper_made}

-- Sums over as many cells.
cells_eq : {n n' : ℕ} → n ≡ n' → (f g : ℕ → ℕ) → ((k : ℕ) → k < n → f k ≡ g k) → sum_to n f ≡ sum_to n' g
cells_eq {n} e f g h = sum_to_eq n f g h ∙ ap (λ x. sum_to x g) e

-- A scheme has its own values.
pub same_values : (s : Scheme) → SameValues s s
same_values s =
    record {
      others = record { classes = refl; columns = refl; start = refl; horizon = refl; rules = λ i k l g. refl; premiums = λ i l. refl };
      lowers = λ i k l g. refl;
      uppers = λ i k l g. refl;
    }

module _ {s s' : Scheme} (v : SameButBands s s') where
  others_back : SameButBands s' s
  others_back =
      record {
        classes = sym v.classes;
        columns = sym v.columns;
        start = sym v.start;
        horizon = sym v.horizon;
        rules = λ i k l g. sym (v.rules i k (omega (arith, v.classes)) (omega (arith, v.columns)));
        premiums = λ i l. sym (v.premiums i (omega (arith, v.classes)));
      }

  -- The outcome of each test that looks at no band.
  size_same : size_out s ≡ size_out s'
  unfolding size_out
  size_same = ap₂ (λ n m. outside 32 n || outside 8 m) v.classes v.columns

  start_same : start_out s ≡ start_out s'
  unfolding start_out
  start_same = ap₂ outside v.classes v.start

  horizon_same : horizon_out s ≡ horizon_out s'
  unfolding horizon_out
  horizon_same = ap (ltb 100) v.horizon

  rules_same : rule_out s ≡ rule_out s'
  unfolding rule_out
  rules_same =
      any_eq v.classes _ _ (λ i l. any_eq v.columns _ _ (λ k g. ap₂ outside v.classes (v.rules i k l g)))

  pub premiums_same : premium_out s ≡ premium_out s'
  unfolding premium_out
  premiums_same = any_eq v.classes _ _ (λ i l. ap (ltb 10000000) (v.premiums i l))

  pub class_same : (class : ℕ) → class_cause s class ≡ class_cause s' class
  class_same class = ap (λ n. 11 when outside n class) v.classes

  pub year_same : (year : ℕ) → year_cause s year ≡ year_cause s' year
  year_same year = ap (λ h. 12 when ltb h year) v.horizon

-- The same first cause, and the same values but for the bands where there is none: all that a cause looks at which is tested after the scheme's own.
pub record SameCause (s s' : Scheme) : Type 0 where
  pub cause : cause_of s ≡ cause_of s'
  pub others : cause_of s ≡ 0 → SameButBands s s'

-- A cause that is tested after the scheme's own.
pub next_same : {s s' : Scheme} → SameCause s s' → {n n' : ℕ} → (SameButBands s s' → n ≡ n') → or_else (cause_of s) n ≡ or_else (cause_of s') n'
next_same w e = by_cause w.cause (λ z. e (w.others z)) w.cause

module _ {s s' : Scheme} (v : SameValues s s') where
  abbrev others : SameButBands s s'
  others = v.others

  pub same_back : SameValues s' s
  same_back =
      record {
        others = others_back others;
        lowers = λ i k l g. sym (v.lowers i k (omega (arith, others.classes)) (omega (arith, others.columns)));
        uppers = λ i k l g. sym (v.uppers i k (omega (arith, others.classes)) (omega (arith, others.columns)));
      }

  bands_same : band_out s ≡ band_out s'
  unfolding band_out
  bands_same =
      any_eq others.classes _ _ (λ i l. any_eq others.columns _ _ (λ k g. ap₂ band_test (v.lowers i k l g) (v.uppers i k l g)))

  sums_same : sum_out s ≡ sum_out s'
  unfolding sum_out
  sums_same =
      any_eq others.classes _ _
      (λ i l.
      ap₂ (λ x y. ltb ONE x || ltb y ONE)
      (cells_eq others.columns (lower_at s i) (lower_at s' i) (λ k g. v.lowers i k l g))
      (cells_eq others.columns (upper_at s i) (upper_at s' i) (λ k g. v.uppers i k l g)))

  pub cause_same : cause_of s ≡ cause_of s'
  unfolding cause_of
  cause_same = rw (size_same others, start_same others, horizon_same others, rules_same others, bands_same, sums_same, premiums_same others)

  -- The interval row of each class, at every class.
  module _ (i : ℕ) (l : i < s.classes) where
    into_same : (band band' : ℕ → ℕ) → ((k : ℕ) → k < cell_count s → band k ≡ band' k) → (j : ℕ)
        → sum_to (cell_count s) (λ k. only_if (eqb (rule_at s i k - 1) j) (band k)) ≡ sum_to (cell_count s') (λ k. only_if (eqb (rule_at s' i k - 1) j) (band' k))
    into_same band band' same j =
        cells_eq others.columns _ _ (λ k g. ap₂ (λ rule end. only_if (eqb (rule - 1) j) end) (others.rules i k l g) (same k g))

    pub lower_same : (j : ℕ) → ((chain_of s).row i).lower j ≡ ((chain_of s').row i).lower j
    lower_same = into_same (lower_at s i) (lower_at s' i) (λ k g. v.lowers i k l g)

    pub upper_same : (j : ℕ) → ((chain_of s).row i).upper j ≡ ((chain_of s').row i).upper j
    upper_same j = ap (min ONE) (into_same (upper_at s i) (upper_at s' i) (λ k g. v.uppers i k l g) j)

    pub row_same : (chain_of s).row i ≡ (chain_of s').row i
    row_same = λ t. record { lower = λ j. lower_same j t; upper = λ j. upper_same j t }

-- A scheme whose size fits has the same values with 0 beyond s and m.
pub cleared_values : (s : Scheme) → SizeFits s → SameValues s (cleared s)
unfolding scheme_of
cleared_values s h =
    record {
      others =
          record {
            classes = refl;
            columns = refl;
            start = refl;
            horizon = refl;
            rules = λ i k l g. sym (rule_stored s.classes s.columns (rule_at s) i k (omega arith) (omega arith) l g);
            premiums = λ i l. sym (stored_at 32 s.classes (premium_at s) i (omega arith) l);
          };
      lowers = λ i k l g. sym (lower_made s.classes s.columns s.start s.horizon (rule_at s) (lower_at s) (upper_at s) (premium_at s) i k h.columns g);
      uppers = λ i k l g. sym (upper_made s.classes s.columns s.start s.horizon (rule_at s) (lower_at s) (upper_at s) (premium_at s) i k h.columns g);
    }

-- A size out of range is cause 3, whatever else holds.
pub size_first : (s : Scheme) → size_out s ≡ true → cause_of s ≡ 3
unfolding cause_of
size_first s e = rw e

size_cleared : (s : Scheme) → size_out s ≡ true → size_out (cleared s) ≡ true
unfolding size_out scheme_of
size_cleared s e = e

-- What no operation tells apart: the same values, or two sizes out of range.
pub data Alike (s s' : Scheme) : Type 0 where
  same : SameValues s s' → Alike s s'
  sizes_out : size_out s ≡ true → size_out s' ≡ true → Alike s s'

module _ {s s' : Scheme} where
  pub alike_cause : Alike s s' → cause_of s ≡ cause_of s'
  alike_cause (same v) = cause_same v
  alike_cause (sizes_out o o') = size_first s o ∙ sym (size_first s' o')

  pub alike_values : Alike s s' → cause_of s ≡ 0 → SameValues s s'
  alike_values (same v) z = v
  alike_values (sizes_out o o') z = let e = size_first s o in absurd (omega arith)

  pub alike_same : Alike s s' → SameCause s s'
  alike_same w = record { cause = alike_cause w; others = λ z. (alike_values w z).others }

  pub alike_back : Alike s s' → Alike s' s
  alike_back (same v) = same (same_back v)
  alike_back (sizes_out o o') = sizes_out o' o

pub cleared_alike : (s : Scheme) → Alike s (cleared s)
cleared_alike s = by (size_out s) refl
  where
    by : (b : Bool) → size_out s ≡ b → Alike s (cleared s)
    by true e = sizes_out e (size_cleared s e)
    by false e = same (cleared_values s ((size_tells s).fits e))
