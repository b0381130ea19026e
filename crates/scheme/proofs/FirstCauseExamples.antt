-- The first cause, computed, and what a table of two lines allows and forbids.
use Rattle.std.specs.Prelude.{ℕ, ◌≡◌, refl, true, false, List, [], ◌∷◌}
use Rattle.scheme.specs.FirstCause.{◌when◌, first_of, Line, tests, AllFit, FirstFails}

-- None, a cause behind one that does not apply, the first of two that apply, and one after both.
pub record FirstCauses : Type 0 where
  pub none : first_of [] ≡ 0
  pub none_applies : first_of (3 when false ∷ 5 when false ∷ []) ≡ 0
  pub second : first_of (3 when false ∷ 5 when true ∷ []) ≡ 5
  pub first : first_of (3 when true ∷ 5 when true ∷ []) ≡ 3
  pub last : first_of (3 when false ∷ 5 when false ∷ 2 when true ∷ []) ≡ 2

pub first_causes : FirstCauses
first_causes = record { none = refl; none_applies = refl; second = refl; first = refl; last = refl }

-- A table whose first line fits, and whose second does not.
abbrev table : List Line
table = record { number = 9; applies = false; Fits = Unit {0} } ∷ record { number = 4; applies = true; Fits = ⊥ } ∷ []

-- The second line's number is its first cause, and no other number; not everything fits.
pub record TableOfTwo : Type 1 where
  pub number : first_of (tests table) ≡ 4
  pub fails : FirstFails table 4
  pub only : {n : ℕ} → FirstFails table n → n ≡ 4
  pub not_all : AllFit table → ⊥

pub table_of_two : TableOfTwo
table_of_two = record { number = refl; fails = FirstFails.later tt (FirstFails.here (λ h. h)); only = only; not_all = λ all. all.1.0 }
  where
    only : {n : ℕ} → FirstFails table n → n ≡ 4
    only (FirstFails.here h) = absurd (h tt)
    only (FirstFails.later h (FirstFails.here k)) = refl
    only (FirstFails.later h (FirstFails.later k rest)) = absurd k
