-- A slice filled from another list, place by place.
-- Assumes nothing.
use Rattle.std.specs.Prelude.{ℕ, ◌≤◌, ◌≡◌, refl, cond, List, length, get_or}
use Rattle.std.proofs.Common.{ap, sym, ◌∙◌, below_none, eq-eqb, ne_eqb}
use Rattle.scheme.proofs.Laws.Tab.{as_tab}
use Rattle.scheme.proofs.Laws.Filled.{Filled, fill_all}
use Rattle.rows.specs.Rows.{copied_into}

-- Nothing of it is copied yet.
pub copy_none : (n : ℕ) (f : ℕ → ℕ) (a : List ℕ) → length a ≡ n → Filled n f 0 a
copy_none n f a e = record { long = e; done = below_none _ }

-- All of it is.
pub copy_all : (n : ℕ) (from : List ℕ) (i : ℕ) (a : List ℕ) → length from ≡ n → n ≤ i → Filled n (λ k. get_or from k 0) i a → a ≡ from
copy_all n from i a e h r = fill_all n (λ k. get_or from k 0) i a h r ∙ sym (as_tab 0 from n (λ k. get_or from k 0) e (λ k l. refl))

-- A row copied into a slice of its length, and into one of another length.
module _ (row before : List ℕ) where
  pub row_copied : length before ≡ length row → copied_into row before ≡ row
  row_copied e = ap (λ b. cond b row before) (eq-eqb (length before) (length row) e)

  pub row_left : (length before ≡ length row → ⊥) → copied_into row before ≡ before
  row_left h = ap (λ b. cond b row before) (ne_eqb (length before) (length row) h)
