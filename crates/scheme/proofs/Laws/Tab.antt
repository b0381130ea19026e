-- Laws of lists written by a rule.
use Prim.Native.Nat.{ℕ, zero, suc, ◌≤◌, ◌<◌}
use Rattle.std.specs.Prelude.{◌≡◌, List, length, get_or}
use Rattle.std.proofs.Math.Path.{refl, ap}
use Rattle.std.proofs.Common.{sym, ◌∙◌, subst₂, ext_get_or, arith, not-suc-le-zero, le_of_suc-le-suc}
use Rattle.std.proofs.Math.ListN.{get_or-eq_default}
use Rattle.std.proofs.Math.Decide.{dec_lt}
use Rattle.scheme.specs.Tables.{tab}

module _ {ℓ} {A : Type ℓ} where
  pub length_tab : (n : ℕ) (f : ℕ → A) → length (tab n f) ≡ n
  unfolding tab
  length_tab zero f = refl
  length_tab (suc n) f = ap suc (length_tab n (λ k. f (suc k)))

  pub get_d_tab : (n : ℕ) (f : ℕ → A) (i : ℕ) (d : A) → i < n → get_or (tab n f) i d ≡ f i
  unfolding tab
  get_d_tab zero f i d h = absurd (not-suc-le-zero h)
  get_d_tab (suc n) f zero d h = refl
  get_d_tab (suc n) f (suc i) d h = get_d_tab n (λ k. f (suc k)) i d (le_of_suc-le-suc h)

  -- A list is the rule that gives its elements.
  pub as_tab : (d : A) (l : List A) (n : ℕ) (f : ℕ → A) → length l ≡ n → ((i : ℕ) → i < n → get_or l i d ≡ f i) → l ≡ tab n f
  as_tab d l n f e h =
      ext_get_or d l (tab n f) (e ∙ sym (length_tab n f))
      (λ i g. let k : i < n = rw (← e) g in h i k ∙ sym (get_d_tab n f i d k))

  -- Equal at each place.
  pub tab_eq : (d : A) (n : ℕ) (f g : ℕ → A) → ((i : ℕ) → i < n → f i ≡ g i) → tab n f ≡ tab n g
  tab_eq d n f g h = as_tab d (tab n f) n g (length_tab n f) (λ i l. get_d_tab n f i d l ∙ h i l)

-- Related at each place, and so are the defaults past the end.
pub tab_related : (R : ℕ → ℕ → Type 0) → R 0 0 → {n n' : ℕ} → n ≡ n' → (f g : ℕ → ℕ) → ((i : ℕ) → i < n → R (f i) (g i)) → (i : ℕ)
    → R (get_or (tab n f) i 0) (get_or (tab n' g) i 0)
tab_related R none {n} {n'} e f g h i = by (dec_lt i n)
  where
    past : (n : ℕ) (f : ℕ → ℕ) → n ≤ i → 0 ≡ get_or (tab n f) i 0
    past n f l = sym (get_or-eq_default (tab n f) 0 {n = i} (omega (arith, length_tab n f)))

    by : Dec (i < n) → R (get_or (tab n f) i 0) (get_or (tab n' g) i 0)
    by (yes l) = subst₂ R (sym (get_d_tab n f i 0 l)) (sym (get_d_tab n' g i 0 (omega arith))) (h i l)
    by (no l) = subst₂ R (past n f (omega arith)) (past n' g (omega arith)) none
