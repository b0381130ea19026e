-- Laws of the rows that the code sums by target: one cell added, and one turn of the loop.
use Prim.Native.Nat.{ℕ, suc, min, ◌+◌, ◌-◌, ◌≤◌, ◌<◌}
use Rattle.std.specs.Prelude.{◌≡◌, List, eqb, set, replicate}
use Rattle.std.proofs.Math.Path.{refl, ap, ap₂}
use Rattle.std.proofs.Common.{sym, ◌∙◌, length-set, get_or-set_same, get_or-set_other, eq-eqb, ne_eqb}
use Rattle.std.proofs.Math.ListN.{length, get_or, length-replicate, get_or-replicate, get_or-eq_default}
use Rattle.std.proofs.Math.Decide.{ℕ_discrete, dec_lt}
use native.Mathlib.Omega.{arith}
use Rattle.setchain.specs.Sums.{sum_to, only_if}
use Rattle.setchain.specs.Rows.{ONE}
use Rattle.setchain.proofs.Laws.Sums.{only_if_true, only_if_false, total_more}
use Rattle.scheme.specs.Tables.{tab}
use Rattle.scheme.specs.SumByTarget.{sum_by_target, Capped, added_to_target}
use Rattle.scheme.proofs.Laws.Tab.{length_tab, get_d_tab, as_tab, tab_eq}

-- A rule that leads to none of the entries leaves them.
pub added_none : (l : List ℕ) (rule end : ℕ) → Capped l → ((j : ℕ) → j < length l → rule ≡ suc j → ⊥) → l ≡ added_to_target l rule end
added_none l rule end capped away =
    as_tab 0 l (length l) (λ j. min ONE (get_or l j 0 + only_if (eqb rule (suc j)) end)) refl
    (λ j g. omega (arith, only_if_false (eqb rule (suc j)) end (ne_eqb rule (suc j) (away j g)), capped j))

-- A rule that leads to one of them changes that one.
pub added_set : (l : List ℕ) (rule end : ℕ) → Capped l → 1 ≤ rule → rule ≤ length l
    → set l (rule - 1) (min ONE (get_or l (rule - 1) 0 + end)) ≡ added_to_target l rule end
added_set l rule end capped low high =
    as_tab 0 (set l (rule - 1) raised_to) (length l) (λ j. min ONE (get_or l j 0 + only_if (eqb rule (suc j)) end))
    (length-set l (rule - 1) raised_to)
    (λ j g. at j (ℕ_discrete j (rule - 1)))
  where
    raised_to : ℕ
    raised_to = min ONE (get_or l (rule - 1) 0 + end)

    at : (j : ℕ) → Dec (j ≡ rule - 1) → get_or (set l (rule - 1) raised_to) j 0 ≡ min ONE (get_or l j 0 + only_if (eqb rule (suc j)) end)
    at j (yes e) =
        ap (λ i. get_or (set l (rule - 1) raised_to) i 0) e
        ∙ get_or-set_same l (rule - 1) raised_to 0 (omega arith)
        ∙ ap₂ (λ x y. min ONE (get_or l x 0 + y)) (sym e) (sym (only_if_true (eqb rule (suc j)) end (eq-eqb rule (suc j) (omega arith))))
    at j (no d) =
        get_or-set_other l (rule - 1) j raised_to 0 d
        ∙ omega (arith, only_if_false (eqb rule (suc j)) end (ne_eqb rule (suc j) (λ e. d (omega arith))), capped j)

module _ (n : ℕ) (rules band : List ℕ) where
  -- The entries after the first k cells.
  unfoldable pub summed_to : ℕ → List ℕ
  summed_to k = tab n (λ j. min ONE (sum_to k (λ c. only_if (eqb (get_or rules c 0) (suc j)) (get_or band c 0))))

  pub summed_start : replicate n 0 ≡ summed_to 0
  unfolding summed_to sum_to
  summed_start = as_tab 0 (replicate n 0) n _ (length-replicate n 0) (λ j g. get_or-replicate n j 0 0 g)

  pub summed_length : (k : ℕ) → length (summed_to k) ≡ n
  unfolding summed_to
  summed_length k = length_tab n _

  pub summed_capped : (k : ℕ) → Capped (summed_to k)
  unfolding summed_to
  summed_capped k j = by (dec_lt j n)
    where
      by : Dec (j < n) → get_or (summed_to k) j 0 ≤ ONE
      by (yes l) = omega (arith, get_d_tab n (λ j. min ONE (sum_to k (λ c. only_if (eqb (get_or rules c 0) (suc j)) (get_or band c 0)))) j 0 l)
      by (no h) = omega (arith, get_or-eq_default (summed_to k) 0 {n = j} (omega (arith, summed_length k)))

  pub summed_more : (k : ℕ) → added_to_target (summed_to k) (get_or rules k 0) (get_or band k 0) ≡ summed_to (k + 1)
  unfolding summed_to
  summed_more k =
      ap (λ m. tab m (λ j. min ONE (get_or (summed_to k) j 0 + only_if (eqb (get_or rules k 0) (suc j)) (get_or band k 0)))) (summed_length k)
      ∙ tab_eq 0 n (λ j. min ONE (get_or (summed_to k) j 0 + only_if (eqb (get_or rules k 0) (suc j)) (get_or band k 0)))
      (λ j. min ONE (sum_to (k + 1) (term j)))
      (λ j l.
      omega (
        arith,
        get_d_tab n (λ j. min ONE (sum_to k (term j))) j 0 l,
        total_more k (sum_to k (term j)) (term j k) (term j) refl refl,
      ))
    where
      term : ℕ → ℕ → ℕ
      term j c = only_if (eqb (get_or rules c 0) (suc j)) (get_or band c 0)

-- The loop over the cells: where it begins, one turn more, and its end.
module _ (rules band : List ℕ) where
  pub loop_begins : (n : ℕ) (l : List ℕ) → l ≡ replicate n 0 → l ≡ summed_to (length l) rules band 0
  loop_begins n l e =
      e ∙ summed_start n rules band ∙ ap (λ m. summed_to m rules band 0) (sym (length-replicate n 0) ∙ ap length (sym e))

  pub loop_turn : (n k : ℕ) (l l' : List ℕ) → l ≡ summed_to n rules band k → l' ≡ added_to_target l (get_or rules k 0) (get_or band k 0)
      → l' ≡ summed_to n rules band (k + 1)
  loop_turn n k l l' e h = h ∙ ap (λ x. added_to_target x (get_or rules k 0) (get_or band k 0)) e ∙ summed_more n rules band k

  pub loop_capped : (n k : ℕ) (l : List ℕ) → l ≡ summed_to n rules band k → Capped l
  loop_capped n k l e j = rw e (summed_capped n rules band k j)

  pub loop_length : (n k : ℕ) (l : List ℕ) → l ≡ summed_to n rules band k → length l ≡ n
  loop_length n k l e = ap length e ∙ summed_length n rules band k

  -- m is the length that the loop began with.
  pub loop_ends : (m k : ℕ) (l₀ l : List ℕ) → l₀ ≡ replicate m 0 → l ≡ summed_to (length l₀) rules band k → k ≡ min (length rules) (length band)
      → (length l ≡ m) × (l ≡ tab m (sum_by_target rules band))
  unfolding summed_to
  loop_ends m k l₀ l e h end =
      let size : length l₀ ≡ m = ap length e ∙ length-replicate m 0 in
      (loop_length (length l₀) k l h ∙ size, h ∙ ap₂ (λ n c. summed_to n rules band c) size end)
