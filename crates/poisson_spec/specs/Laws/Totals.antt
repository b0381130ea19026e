-- The values of all columns but the last, summed: no lower sum is above ONE, nor above an upper sum at the same or a smaller frequency.
-- Computed once over the table, with a running minimum, and carried to each pair of frequencies.
-- Assumes nothing.
use Rattle.std.specs.Prelude.{ℕ, zero, suc, min, ◌+◌, ◌≤◌, ◌<◌, ◌≡◌, refl, Bool, true, false, ◌&&◌, List, [], ◌∷◌, T, leb, length}
use Rattle.std.proofs.Common.{sym, subst, subst₂, leb→le, arith, add-zero, zero-add, add-suc, suc-add, le_of_suc-le-suc, not-suc-le-zero}
use Rattle.setchain.specs.Sums.{at, sum_to}
use Rattle.setchain.specs.Tests.{any_below, all_below}
use Rattle.setchain.specs.Rows.{ONE}
use Rattle.setchain.proofs.Laws.Tests.{both_pass, all_true}
use Rattle.poisson_spec.specs.Exponentials.{exponentials, entry_at}
use Rattle.poisson_spec.specs.Values.{start_from, value_from, value}
use Rattle.poisson_spec.specs.Laws.Table.{size}

-- By place and entry, a low figure that is never above a bound, nor above a high figure at the same place or before it.
module _ (low high : (place entry : ℕ) → ℕ) where
  abbrev never_above : (least i : ℕ) → List ℕ → Bool
  never_above least i [] = true
  never_above least i (x ∷ xs) =
      let least' : ℕ = min least (high i x) in
      leb (low i x) least' && never_above least' (suc i) xs

  module _ (least i x : ℕ) (xs : List ℕ) (t : T (never_above least i (x ∷ xs))) where
    here_below : low i x ≤ min least (high i x)
    here_below = leb→le (low i x) (min least (high i x)) (both_pass (leb (low i x) (min least (high i x))) (never_above (min least (high i x)) (suc i) xs) t).0

    rest_below : T (never_above (min least (high i x)) (suc i) xs)
    rest_below = (both_pass (leb (low i x) (min least (high i x))) (never_above (min least (high i x)) (suc i) xs) t).1

  below_least : (least i : ℕ) (xs : List ℕ) → T (never_above least i xs) → (k : ℕ) → k < length xs → low (i + k) (at xs k) ≤ least
  below_least least i [] t k h = absurd (not-suc-le-zero h)
  below_least least i (x ∷ xs) t zero h = rw (add-zero i) (omega (arith, here_below least i x xs t))
  below_least least i (x ∷ xs) t (suc k) h =
      let rest = below_least (min least (high i x)) (suc i) xs (rest_below least i x xs t) k (le_of_suc-le-suc h) in
      rw (add-suc i k, ← suc-add i k) (omega (arith, rest))

  below_high : (least i : ℕ) (xs : List ℕ) → T (never_above least i xs) → (j k : ℕ) → j ≤ k → k < length xs → low (i + k) (at xs k) ≤ high (i + j) (at xs j)
  below_high least i [] t j k l h = absurd (not-suc-le-zero h)
  below_high least i (x ∷ xs) t zero zero l h = rw (add-zero i) (omega (arith, here_below least i x xs t))
  below_high least i (x ∷ xs) t zero (suc k) l h =
      let rest = below_least (min least (high i x)) (suc i) xs (rest_below least i x xs t) k (le_of_suc-le-suc h) in
      rw (add-zero i, add-suc i k, ← suc-add i k) (omega (arith, rest))
  below_high least i (x ∷ xs) t (suc j) zero l h = absurd (omega arith)
  below_high least i (x ∷ xs) t (suc j) (suc k) l h =
      rw (add-suc i k, ← suc-add i k, add-suc i j, ← suc-add i j)
      (below_high (min least (high i x)) (suc i) xs (rest_below least i x xs t) j k (le_of_suc-le-suc l) (le_of_suc-le-suc h))

-- The sum of the values of so many columns, from an entry.
abbrev total_of : (high : Bool) (count place entry : ℕ) → ℕ
total_of high count place entry = sum_to count (value_from high place (start_from high entry))

-- For 1 to 7 columns.
totals_pass : all_below 7 (λ c. never_above (total_of false (suc c)) (total_of true (suc c)) ONE 0 exponentials) ≡ true
unfolding exponentials any_below sum_to value_from
totals_pass = refl

-- The sums of as many values as there are columns but the last.
module _ (c : ℕ) (few : c < 7) where
  passes : T (never_above (total_of false (suc c)) (total_of true (suc c)) ONE 0 exponentials)
  passes = subst T (sym (all_true 7 (λ c. never_above (total_of false (suc c)) (total_of true (suc c)) ONE 0 exponentials) totals_pass c few)) tt

  pub total_most : (f : ℕ) → f ≤ 1000 → sum_to (suc c) (value false f) ≤ ONE
  total_most f small =
      subst (λ g. total_of false (suc c) g (entry_at f) ≤ ONE) (zero-add f)
      (below_least (total_of false (suc c)) (total_of true (suc c)) ONE 0 exponentials passes f (omega (arith, size)))

  pub total_below : (f g : ℕ) → f ≤ g → g ≤ 1000 → sum_to (suc c) (value false g) ≤ sum_to (suc c) (value true f)
  total_below f g l small =
      subst₂ (λ g' f'. total_of false (suc c) g' (entry_at g) ≤ total_of true (suc c) f' (entry_at f)) (zero-add g) (zero-add f)
      (below_high (total_of false (suc c)) (total_of true (suc c)) ONE 0 exponentials passes f g l (omega (arith, size)))
