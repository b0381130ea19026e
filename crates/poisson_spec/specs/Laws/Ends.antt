-- The ends of two frequencies: in order, at most ONE, and with sums that enclose ONE.
-- Assumes nothing.
use Rattle.std.specs.Prelude.{ℕ, zero, suc, ◌+◌, ◌-◌, ◌≤◌, ◌<◌, ◌≡◌, refl, Bool, true, false}
use Rattle.std.proofs.Common.{ap, sym, ◌∙◌, subst, subst₂, ⊎_elim, arith, le_refl, le_trans, eq-or-lt_of_le, le_of_suc-le-suc, ne_eqb}
use Rattle.setchain.specs.Sums.{sum_to}
use Rattle.setchain.specs.Rows.{ONE}
use Rattle.setchain.proofs.Laws.Sums.{sum_to_le}
use Rattle.poisson_spec.specs.Values.{value}
use Rattle.poisson_spec.specs.Bands.{end_of}
use Rattle.poisson_spec.specs.Laws.Values.{value_most, low_high, claimed_by, free_by, used_by, outward}
use Rattle.poisson_spec.specs.Laws.Totals.{total_most, total_below}
use Rattle.poisson_spec.specs.Laws.Answer.{end_value, end_last}

sum_to_last : (n : ℕ) (f : ℕ → ℕ) → sum_to (suc n) f ≡ sum_to n f + f n
unfolding sum_to
sum_to_last n f = refl

-- Two frequencies in order, and c + 2 columns, 2 to 8.
module _ (first second c : ℕ) (ordered : first ≤ second) (small : second ≤ 1000) (few : c < 7) where
  -- The end of column k.
  abbrev pub end_by : (high : Bool) (k : ℕ) → ℕ
  end_by high k = end_of high (claimed_by high first second) (free_by high first second) (suc (suc c)) k

  -- Of each column before the last, a value.
  by_value : (high : Bool) (k : ℕ) → k < suc c → end_by high k ≡ value high (used_by high first second k) k
  by_value high k l = end_value high (claimed_by high first second) (free_by high first second) (suc (suc c)) k (omega arith)

  lower_most : (f k : ℕ) → first ≤ f → f ≤ second → k < suc c → end_by false k ≤ value false f k
  lower_most f k l h before = subst (λ x. x ≤ value false f k) (sym (by_value false k before)) (outward false first second f k l h small)

  upper_least : (f k : ℕ) → first ≤ f → f ≤ second → k < suc c → value true f k ≤ end_by true k
  upper_least f k l h before = subst (λ x. value true f k ≤ x) (sym (by_value true k before)) (outward true first second f k l h small)

  -- Of the last, what the others leave.
  before_last : suc (suc c) - 1 ≡ suc c
  before_last = omega arith

  last_lower : (k : ℕ) → k ≡ suc c → end_by false k ≡ ONE - sum_to (suc c) (value true first)
  last_lower k e = end_last false first second (suc (suc c)) k (ap suc e) ∙ rw before_last

  last_upper : (k : ℕ) → k ≡ suc c → end_by true k ≡ ONE - sum_to (suc c) (value false second)
  last_upper k e = end_last true second first (suc (suc c)) k (ap suc e) ∙ rw before_last

  pub in_order : (k : ℕ) → k < suc (suc c) → end_by false k ≤ end_by true k
  in_order k l =
      ⊎_elim (λ e. subst₂ ◌≤◌ (sym (last_lower k e)) (sym (last_upper k e)) (omega (arith, total_below c few first second ordered small)))
      (λ before.
      le_trans (lower_most first k (le_refl first) ordered before)
      (le_trans (low_high first (omega arith) k) (upper_least first k (le_refl first) ordered before)))
      (eq-or-lt_of_le (le_of_suc-le-suc l))

  pub capped : (k : ℕ) → k < suc (suc c) → end_by true k ≤ ONE
  capped k l =
      ⊎_elim (λ e. subst (λ x. x ≤ ONE) (sym (last_upper k e)) (omega arith))
      (λ before. subst (λ x. x ≤ ONE) (sym (by_value true k before)) (value_most (used_by true first second k) (used k) true k))
      (eq-or-lt_of_le (le_of_suc-le-suc l))
    where
      used : (k : ℕ) → used_by true first second k ≤ 1000
      used zero = omega arith
      used (suc k) = rw (ne_eqb (suc k) 0 (λ e. omega arith)) small

  -- Lower values sum to no more than upper ones.
  totals : (f : ℕ) → f ≤ 1000 → sum_to (suc c) (value false f) ≤ sum_to (suc c) (value true f)
  totals f l = sum_to_le (suc c) (value false f) (value true f) (λ k h. low_high f l k)

  pub lowers_sum : sum_to (suc (suc c)) (end_by false) ≤ ONE
  lowers_sum =
      let before = sum_to_le (suc c) (end_by false) (value false first) (λ k l. lower_most first k (le_refl first) ordered l) in
      omega (arith, sum_to_last (suc c) (end_by false), last_lower (suc c) refl, before, totals first (omega arith), total_most c few first (omega arith))

  pub uppers_sum : ONE ≤ sum_to (suc (suc c)) (end_by true)
  uppers_sum =
      let before = sum_to_le (suc c) (value true second) (end_by true) (λ k l. upper_least second k ordered (le_refl second) l) in
      omega (arith, sum_to_last (suc c) (end_by true), last_upper (suc c) refl, before, totals second small)
