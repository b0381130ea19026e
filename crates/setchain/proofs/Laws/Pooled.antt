-- Pooled figures of one list of picks: between and near, as the figures of every state are; one chamber alone, and counts in proportion.
use Rattle.std.specs.Prelude.{ℕ, zero, suc, ◌*◌, ◌≤◌, ◌<◌, ◌≡◌, refl, Bool, true, false, eqb}
use Rattle.std.proofs.Common.{ap, ap₂, sym, ◌∙◌, subst, ⊎_elim, arith, eq-eqb, ne_eqb, le_refl, not-suc-le-zero, eq-or-lt_of_le, le_of_suc-le-suc, mul-one, one-mul, mul-pos, mul-lt-mul_of_pos_right, lt_of_mul-lt-mul_right}
use Rattle.std.proofs.Math.Nat.{le_step}
use Rattle.setchain.specs.Sums.{sum_to, only_if, dot}
use Rattle.setchain.specs.Fractions.{Fraction, whole, ◌⊕◌, ◌⊗◌, ◌≼◌, ◌≈◌, Proper, sum_fractions}
use Rattle.setchain.specs.Rounding.{rounded}
use Rattle.setchain.specs.Promise.{Between, NoFurther, Nearer, with_rounding}
use Rattle.setchain.specs.Pooled.{pooled_figure, exact_pooled}
use Rattle.setchain.proofs.Laws.Sums.{below_pred, only_if_true, only_if_false, only_if_times, sum_to_eq, sum_to_scale, sum_to_point}
use Rattle.setchain.proofs.Laws.Rounding.{rounded_proportion}
use Rattle.setchain.proofs.Laws.Fractions.{proper_sum, same_trans, add_same, distribute, sum_same, BoundOf, bound_trans, bound_same, bound_mul, bound_sum, sum_add, sum_whole, weigh_right}
use Rattle.setchain.proofs.Laws.Wholes.{rounded_between, rounded_near}

-- The same distance, written otherwise.
nearer_distance : (d d' : Fraction) → Proper d' → d ≈ d' → (bound : ℕ) (x : Fraction) → Nearer d bound x → Nearer d' bound x
nearer_distance d d' p e bound x h =
    record {
      under = lt_of_mul-lt-mul_right d.den (omega (arith, mul-lt-mul_of_pos_right h.under p, ap (λ v. v * x.den) e));
      over = lt_of_mul-lt-mul_right d.den (omega (arith, mul-lt-mul_of_pos_right h.over p, ap (λ v. v * x.den) e));
    }

module _ (n : ℕ) (count : ℕ → ℕ) where
  -- Count times f, summed.
  abbrev counted : (ℕ → Fraction) → Fraction
  counted f = sum_fractions n (λ i. whole (count i) ⊗ f i)

  proper_counted : (f : ℕ → Fraction) → ((i : ℕ) → i < n → Proper (f i)) → Proper (counted f)
  proper_counted f p = proper_sum n (λ i. whole (count i) ⊗ f i) (λ i l. mul-pos (le_refl 1) (p i l))

  -- The exact pooled figure is a fraction proper.
  pub proper_pooled : 1 ≤ sum_to n count → (x : ℕ → Fraction) → ((i : ℕ) → i < n → Proper (x i)) → Proper (exact_pooled n count x)
  proper_pooled some x p = mul-pos (proper_counted x p) some

  counted_bound : (high : Bool) (f g : ℕ → Fraction) → ((i : ℕ) → i < n → BoundOf high (f i) (g i)) → BoundOf high (counted f) (counted g)
  counted_bound high f g h =
      bound_sum high n (λ i. whole (count i) ⊗ f i) (λ i. whole (count i) ⊗ g i) (λ i l. bound_mul high (whole (count i)) (f i) (g i) (h i l))

  -- Every value moved by d: d for each chamber.
  abbrev further : ℕ → Fraction
  further d = whole (sum_to n count * d)

  counted_moved : (f : ℕ → Fraction) (d : ℕ) → counted (λ i. f i ⊕ whole d) ≈ counted f ⊕ further d
  counted_moved f d =
      subst (λ y. counted (λ i. f i ⊕ whole d) ≈ y)
      (sum_add n (λ i. whole (count i) ⊗ f i) (λ i. whole (count i * d))
      ∙ ap (λ y. counted f ⊕ y) (sum_whole n (λ i. count i * d) ∙ ap whole (sum_to_scale n count d)))
      (sum_same n (λ i. whole (count i) ⊗ (f i ⊕ whole d)) (λ i. whole (count i) ⊗ f i ⊕ whole (count i * d)) (λ i l. distribute (whole (count i)) (f i) (whole d)))

  -- Figures in a unit m whose bounds are whole numbers: the exact pooled figure in the unit m times the sum of the counts.
  module _ (m : ℕ) (x : ℕ → Fraction) (proper : (i : ℕ) → i < n → Proper (x i)) where
    abbrev in_unit : ℕ → Fraction
    in_unit i = x i ⊗ whole m

    abbrev pooled_in_unit : Fraction
    pooled_in_unit = exact_pooled n count x ⊗ whole (m * sum_to n count)

    proper_units : Proper (counted in_unit)
    proper_units = proper_counted in_unit (λ i l. mul-pos (proper i l) (le_refl 1))

    in_units : counted in_unit ≈ pooled_in_unit
    in_units = omega (arith, ap (λ v. v * sum_to n count) (weigh_right n (λ i. whole (count i)) x (whole m) (le_refl 1) (λ i l. le_refl 1) proper))

    pooled_bound : (high : Bool) (bound : ℕ → ℕ) → ((i : ℕ) → i < n → BoundOf high (whole (bound i)) (in_unit i)) → BoundOf high (whole (dot n count bound)) pooled_in_unit
    pooled_bound high bound h =
        bound_trans high (whole (dot n count bound)) (counted in_unit) pooled_in_unit proper_units
        (subst (λ b. BoundOf high b (counted in_unit)) (sum_whole n (λ i. count i * bound i)) (counted_bound high (λ i. whole (bound i)) in_unit h))
        (bound_same high (counted in_unit) pooled_in_unit in_units)

    -- Near every state's bound by the same d: near the sum of count times bound by d for each chamber.
    module _ (d : ℕ) (bound : ℕ → ℕ) where
      abbrev bound_moved : ℕ → Fraction
      bound_moved i = whole (bound i) ⊕ whole d

      abbrev exact_moved : ℕ → Fraction
      exact_moved i = in_unit i ⊕ whole d

      wholes : counted (λ i. whole (bound i)) ≡ whole (dot n count bound)
      wholes = sum_whole n (λ i. count i * bound i)

      pooled_near : ((i : ℕ) → i < n → NoFurther (whole d) (bound i) (in_unit i)) → NoFurther (further d) (dot n count bound) pooled_in_unit
      pooled_near h =
          record {
            under =
                bound_trans false pooled_in_unit (counted in_unit) (whole (dot n count bound) ⊕ further d) proper_units
                (bound_same false pooled_in_unit (counted in_unit) (sym in_units))
                (bound_trans false (counted in_unit) (counted bound_moved) (whole (dot n count bound) ⊕ further d) (proper_counted bound_moved (λ i l. le_refl 1))
                (counted_bound false in_unit bound_moved (λ i l. (h i l).under))
                (bound_same false (counted bound_moved) (whole (dot n count bound) ⊕ further d)
                (subst (λ y. counted bound_moved ≈ y ⊕ further d) wholes (counted_moved (λ i. whole (bound i)) d))));
            over =
                bound_trans false (whole (dot n count bound)) (counted exact_moved) (pooled_in_unit ⊕ further d) proper_moved
                (subst (λ y. y ≼ counted exact_moved) wholes (counted_bound false (λ i. whole (bound i)) exact_moved (λ i l. (h i l).over)))
                (bound_same false (counted exact_moved) (pooled_in_unit ⊕ further d)
                (same_trans (counted exact_moved) (counted in_unit ⊕ further d) (pooled_in_unit ⊕ further d) (mul-pos proper_units (le_refl 1))
                (counted_moved in_unit d) (add_same (counted in_unit) pooled_in_unit (further d) (further d) in_units refl)));
          }
        where
          proper_moved : Proper (counted exact_moved)
          proper_moved = proper_counted exact_moved (λ i l. mul-pos (mul-pos (proper i l) (le_refl 1)) (le_refl 1))

    -- Rounded outward, once: between and near as the exact pooled figure is.
    module _ (some : 1 ≤ sum_to n count) (positive : 1 ≤ m) where
      units_positive : 1 ≤ m * sum_to n count
      units_positive = mul-pos positive some

      pub pooled_between : (low high : ℕ → ℕ) → ((i : ℕ) → i < n → Between (low i) (high i) (in_unit i))
          → Between (pooled_figure false m n count low) (pooled_figure true m n count high) (exact_pooled n count x)
      pooled_between low high h =
          rounded_between (m * sum_to n count) units_positive (exact_pooled n count x) (proper_pooled some x proper) (dot n count low) (dot n count high)
          (record { least = pooled_bound false low (λ i l. (h i l).least); most = pooled_bound true high (λ i l. (h i l).most) })

      pub pooled_nearer : (side : Bool) (d : ℕ) (bound : ℕ → ℕ) → ((i : ℕ) → i < n → NoFurther (whole d) (bound i) (in_unit i))
          → Nearer (with_rounding m (whole d)) (pooled_figure side m n count bound) (exact_pooled n count x)
      pooled_nearer side d bound h =
          nearer_distance (with_rounding (m * sum_to n count) (further d)) (with_rounding m (whole d)) (omega (arith, positive)) (omega arith)
          (pooled_figure side m n count bound) (exact_pooled n count x)
          (rounded_near (m * sum_to n count) units_positive (exact_pooled n count x) (proper_pooled some x proper) side (further d) (le_refl 1) (dot n count bound) (pooled_near d bound h))

-- Counts and figures that agree below n pool alike.
pub pooled_agree : (high : Bool) (m n : ℕ) (count count' f f' : ℕ → ℕ) → ((j : ℕ) → j < n → count j ≡ count' j) → ((j : ℕ) → j < n → f j ≡ f' j)
    → pooled_figure high m n count f ≡ pooled_figure high m n count' f'
pooled_agree high m n count count' f f' counts figures =
    ap₂ (λ k x. rounded high (m * k) x) (sum_to_eq n count count' counts) (sum_to_eq n (λ j. count j * f j) (λ j. count' j * f' j) (λ j l. ap₂ ◌*◌ (counts j l) (figures j l)))

-- One chamber in state i, and none elsewhere.
module _ (n : ℕ) (count : ℕ → ℕ) (i : ℕ) (l : i < n) (alone : (j : ℕ) → j < n → count j ≡ only_if (eqb j i) 1) where
  pub one_count : sum_to n count ≡ 1
  one_count = sum_to_eq n count (λ j. only_if (eqb j i) 1) alone ∙ sum_to_point n (λ j. 1) i l

  one_figure : (f : ℕ → ℕ) → dot n count f ≡ f i
  one_figure f =
      sum_to_eq n (λ j. count j * f j) (λ j. only_if (eqb j i) (f j)) (λ j g. ap (λ k. k * f j) (alone j g) ∙ only_if_times (eqb j i) 1 (f j) ∙ ap (only_if (eqb j i)) (one-mul (f j)))
      ∙ sum_to_point n f i l

  -- The pooled figure is that of its state, rounded.
  pub one_pooled : (high : Bool) (m : ℕ) (f : ℕ → ℕ) → pooled_figure high m n count f ≡ rounded high m (f i)
  one_pooled high m f = ap₂ (rounded high) (ap (λ k. m * k) one_count ∙ mul-one m) (one_figure f)

-- So is the exact pooled figure that of its state.
none_counted : (n : ℕ) (count : ℕ → ℕ) (x : ℕ → Fraction) → ((j : ℕ) → j < n → count j ≡ 0) → (sum_fractions n (λ j. whole (count j) ⊗ x j)).num ≡ 0
unfolding sum_fractions
none_counted zero count x h = refl
none_counted (suc n) count x h =
    let sum = sum_fractions n (λ j. whole (count j) ⊗ x j) in
    omega (arith, ap (λ k. k * (x n).den) (none_counted n count x (below_pred _ n h)), ap (λ k. k * ((x n).num * sum.den)) (h n (le_refl (suc n))))

one_counted : (n : ℕ) (count : ℕ → ℕ) (x : ℕ → Fraction) (i : ℕ) → i < n → ((j : ℕ) → j < n → count j ≡ only_if (eqb j i) 1) → sum_fractions n (λ j. whole (count j) ⊗ x j) ≈ x i
unfolding sum_fractions
one_counted zero count x i l alone = absurd (not-suc-le-zero l)
one_counted (suc n) count x i l alone = ⊎_elim last (λ g. before g (one_counted n count x i g (below_pred _ n alone))) (eq-or-lt_of_le (le_of_suc-le-suc l))
  where
    sum : Fraction
    sum = sum_fractions n (λ j. whole (count j) ⊗ x j)

    last : i ≡ n → sum ⊕ whole (count n) ⊗ x n ≈ x i
    last e =
        let others = none_counted n count x (λ j g. alone j (le_step g) ∙ only_if_false (eqb j i) 1 (ne_eqb j i (λ k. omega arith))) in
        let own = alone n (le_refl (suc n)) ∙ only_if_true (eqb n i) 1 (eq-eqb n i (sym e)) in
        subst (λ k. sum ⊕ whole (count n) ⊗ x n ≈ x k) (sym e)
        (omega (arith, ap (λ k. k * ((x n).den * (x n).den)) others, ap (λ k. k * ((x n).num * sum.den * (x n).den)) own))

    before : i < n → sum ≈ x i → sum ⊕ whole (count n) ⊗ x n ≈ x i
    before g e =
        let none = alone n (le_refl (suc n)) ∙ only_if_false (eqb n i) 1 (ne_eqb n i (λ k. omega arith)) in
        omega (arith, ap (λ k. k * (x n).den) e, ap (λ k. k * ((x n).num * sum.den * (x i).den)) none)

pub one_exact : (n : ℕ) (count : ℕ → ℕ) (x : ℕ → Fraction) (i : ℕ) → i < n → ((j : ℕ) → j < n → count j ≡ only_if (eqb j i) 1) → exact_pooled n count x ≈ x i
one_exact n count x i l alone =
    let sum = sum_fractions n (λ j. whole (count j) ⊗ x j) in
    omega (arith, one_counted n count x i l alone, ap (λ k. (x i).num * (sum.den * k)) (one_count n count i l alone))

-- Counts in proportion pool alike.
pub proportion_pooled : (high : Bool) (m n : ℕ) (count count' f : ℕ → ℕ) (k : ℕ) → 1 ≤ k → 1 ≤ m * sum_to n count → ((j : ℕ) → j < n → count' j ≡ count j * k)
    → pooled_figure high m n count' f ≡ pooled_figure high m n count f
proportion_pooled high m n count count' f k times some each =
    ap₂ (rounded high) counts sums ∙ rounded_proportion high (m * sum_to n count) (dot n count f) k some times
  where
    counts : m * sum_to n count' ≡ m * sum_to n count * k
    counts = let e : sum_to n count' ≡ sum_to n count * k = sum_to_eq n count' (λ j. count j * k) each ∙ sum_to_scale n count k in omega (arith, ap (λ v. m * v) e)

    sums : dot n count' f ≡ dot n count f * k
    sums =
        sum_to_eq n (λ j. count' j * f j) (λ j. count j * f j * k) (λ j g. omega (arith, ap (λ v. v * f j) (each j g)))
        ∙ sum_to_scale n (λ j. count j * f j) k
