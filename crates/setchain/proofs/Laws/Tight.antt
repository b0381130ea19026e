-- The ends of a tight row are the entries of the extreme rows for a payoff of 1 in one state.
use Rattle.std.specs.Prelude.{ℕ, min, max, ◌+◌, ◌-◌, ◌*◌, ◌≤◌, ◌<◌, ◌≡◌, refl, Bool, not, eqb, ltb}
use Rattle.std.proofs.Math.Path.{ap}
use Rattle.std.proofs.Common.{ap₂, sym, ◌∙◌, subst₂, eq-eqb, ne_eqb, lt-ltb, le-ltb}
use Rattle.std.proofs.Math.Bool.{true, false}
use Rattle.std.proofs.Math.Decide.{ℕ_discrete}
use native.Mathlib.Omega.{arith}
use Rattle.setchain.specs.Sums.{sum_to, only_if, dot}
use Rattle.setchain.specs.Rows.{ONE, IntervalRow, SoundRow, Covers, of_parts}
use Rattle.setchain.specs.Step.{NotAfter, capacity, before, capacity_before, fill_row, extreme_row, Parts}
use Rattle.setchain.specs.Tight.{sum_others, tight_row, end_of, ExtremeEntry}
use Rattle.setchain.proofs.Laws.Sums.{only_if_true, only_if_false, sum_to_eq, sum_to_le, sum_to_add, sum_to_zero, sum_to_point}
use Rattle.setchain.proofs.Laws.NotAfter.{not_after_cancel}
use Rattle.setchain.proofs.Laws.Agreeing.{Agree}
use Rattle.setchain.proofs.Laws.Order.{before_strict, before_ahead}
use Rattle.setchain.proofs.Laws.Certificate.{certified}
use Rattle.setchain.proofs.Laws.Step.{capacities, extreme_parts, extreme_certificate}

-- A number counts where a test passes or where it fails.
only_either : (b : Bool) (x : ℕ) → only_if (not b) x + only_if b x ≡ x
unfolding only_if
only_either true x = omega arith
only_either false x = omega arith

only_times : (b : Bool) (x : ℕ) → x * only_if b 1 ≡ only_if b x
unfolding only_if
only_times true x = omega arith
only_times false x = omega arith

-- All states are state j and the others.
pub others_and_own : (n : ℕ) (f : ℕ → ℕ) (j : ℕ) → j < n → sum_others n f j + f j ≡ sum_to n f
others_and_own n f j l =
    omega (
      arith,
      sum_to_point n f j l,
      sum_to_add n (λ k. only_if (not (eqb k j)) (f k)) (λ k. only_if (eqb k j) (f k)),
      sum_to_eq n (λ k. only_if (not (eqb k j)) (f k) + only_if (eqb k j) (f k)) f (λ k m. only_either (eqb k j) (f k)),
    )

-- A tight row's entries within n, and from n on.
module _ (n : ℕ) (r : IntervalRow) (j : ℕ) where
  pub tight_lower : j < n → (tight_row n r).lower j ≡ max (r.lower j) (ONE - sum_others n r.upper j)
  tight_lower l = only_if_true (ltb j n) _ (lt-ltb j n l)

  pub tight_upper : j < n → (tight_row n r).upper j ≡ min (r.upper j) (ONE - sum_others n r.lower j)
  tight_upper l = only_if_true (ltb j n) _ (lt-ltb j n l)

  pub tight_beyond : (high : Bool) → n ≤ j → end_of high (tight_row n r) j ≡ 0
  tight_beyond false g = only_if_false (ltb j n) _ (le-ltb j n g)
  tight_beyond true g = only_if_false (ltb j n) _ (le-ltb j n g)

-- Rows with the same entries below n have the same tight rows there.
pub tight_agrees : {n : ℕ} {r q : IntervalRow} → Agree n r q → Agree n (tight_row n r) (tight_row n q)
tight_agrees {n} {r} {q} same =
    record {
      lower = λ j l. ap₂ (λ x y. only_if (ltb j n) (max x (ONE - y))) (same.lower j l) (others j r.upper q.upper same.upper);
      upper = λ j l. ap₂ (λ x y. only_if (ltb j n) (min x (ONE - y))) (same.upper j l) (others j r.lower q.lower same.lower);
    }
  where
    others : (j : ℕ) (f g : ℕ → ℕ) → ((k : ℕ) → k < n → f k ≡ g k) → sum_others n f j ≡ sum_others n g j
    others j f g h = sum_to_eq n (λ k. only_if (not (eqb k j)) (f k)) (λ k. only_if (not (eqb k j)) (g k)) (λ k m. ap (only_if (not (eqb k j))) (h k m))

-- A payoff of 1 in state j and 0 elsewhere: the sum of part times payoff is entry j.
unfoldable point : ℕ → ℕ → ℕ
point j k = only_if (eqb k j) 1

dot_point : (n : ℕ) (p : ℕ → ℕ) (j : ℕ) → j < n → dot n p (point j) ≡ p j
unfolding point
dot_point n p j l = sum_to_eq n (λ k. p k * only_if (eqb k j) 1) (λ k. only_if (eqb k j) (p k)) (λ k m. only_times (eqb k j) (p k)) ∙ sum_to_point n p j l

-- A low figure gives parts to all others before state j.
others_first : (j k : ℕ) → before false (point j) k j ≡ not (eqb k j)
unfolding point
others_first j k = by (ℕ_discrete k j)
  where
    by : Dec (k ≡ j) → before false (point j) k j ≡ not (eqb k j)
    by (yes e) = ap (λ x. before false (point j) x j) e ∙ (before_strict false (point j)).itself j ∙ ap not (sym (eq-eqb k j e))
    by (no d) =
        before_ahead false (point j) k j (omega (arith, only_if_false (eqb k j) 1 (ne_eqb k j d), only_if_true (eqb j j) 1 (eq-eqb j j refl)))
        ∙ ap not (sym (ne_eqb k j d))

-- A high figure gives none before it.
own_first : (j k : ℕ) → before true (point j) k j ≡ false
unfolding point
own_first j k = by (ℕ_discrete k j)
  where
    by : Dec (k ≡ j) → before true (point j) k j ≡ false
    by (yes e) = ap (λ x. before true (point j) x j) e ∙ (before_strict true (point j)).itself j
    by (no d) =
        (before_strict true (point j)).either k j d
        ∙ ap not (before_ahead true (point j) j k (omega (arith, only_if_false (eqb k j) 1 (ne_eqb k j d), only_if_true (eqb j j) 1 (eq-eqb j j refl))))

-- So the extreme rows for this payoff have the ends of the tight row at state j.
module _ (n : ℕ) (r : IntervalRow) (sound : SoundRow n r) (j : ℕ) (l : j < n) where
  all_others : capacity_before n r (before false (point j)) j ≡ sum_others n (capacity r) j
  unfolding capacity_before
  all_others =
      sum_to_eq n (λ k. only_if (before false (point j) k j) (capacity r k)) (λ k. only_if (not (eqb k j)) (capacity r k)) (λ k m. ap (λ b. only_if b (capacity r k)) (others_first j k))

  no_other : capacity_before n r (before true (point j)) j ≡ 0
  unfolding capacity_before
  no_other =
      sum_to_eq n (λ k. only_if (before true (point j) k j) (capacity r k)) (λ k. 0) (λ k m. only_if_false _ (capacity r k) (own_first j k))
      ∙ sum_to_zero n

  end_is : (high : Bool) → extreme_row high n r (point j) j ≡ end_of high (tight_row n r) j
  unfolding fill_row
  end_is false =
      omega (
        arith,
        all_others,
        capacities n r sound,
        sound.ordered j l,
        sound.lowers,
        sound.uppers,
        others_and_own n (capacity r) j l,
        others_and_own n r.upper j l,
        tight_lower n r j l,
      )
  end_is true =
      omega (
        arith,
        no_other,
        sound.ordered j l,
        sound.lowers,
        others_and_own n r.lower j l,
        tight_upper n r j l,
      )

  -- And no row inside goes past them.
  pub tight_ends : (high : Bool) → ExtremeEntry high n r j (end_of high (tight_row n r) j)
  tight_ends high =
      let p = extreme_row high n r (point j) in
      let inside = extreme_parts n r sound high (point j) in
      record {
        witness = of_parts p;
        inside = inside;
        reached = omega (arith, end_is high);
        extreme = λ q h.
            subst₂ (λ a b. NotAfter high (a * q.over) (b * ONE)) (dot_point n p j l ∙ end_is high) (dot_point n q.entry j l)
            (certified high n r (point j) p inside (extreme_certificate n r sound high (point j)) q h);
      }

-- A row inside one interval row that has its end, and does not go past the end of another.
reached_within : (high : Bool) {n : ℕ} {r : IntervalRow} {j : ℕ} (a b : ℕ) (e : ExtremeEntry high n r j b) → NotAfter high (a * e.witness.over) (e.witness.entry j * ONE)
    → NotAfter high (a * e.witness.over) (b * e.witness.over)
reached_within false a b e h = omega (arith, e.reached)
reached_within true a b e h = omega (arith, e.reached)

-- Where one row covers another, the ends that are reached inside it are no further in.
pub ends_inward : (high : Bool) {n : ℕ} {wide narrow : IntervalRow} {j : ℕ} (a b : ℕ) → Covers n wide narrow → ExtremeEntry high n wide j a → ExtremeEntry high n narrow j b
    → NotAfter high a b
ends_inward high a b covers x y =
    let w = y.witness in
    let inside = y.inside in
    not_after_cancel high a b w.over inside.positive (reached_within high a b y (x.extreme w (covers w inside)))

-- A row of whole parts inside, and no upper end above ONE, make an interval row sound.
pub parts_sound : (n : ℕ) (r : IntervalRow) (p : ℕ → ℕ) → Parts n r p → ((j : ℕ) → j < n → r.upper j ≤ ONE) → SoundRow n r
parts_sound n r p inside capped =
    record {
      ordered = λ j l. omega (arith, inside.above j l, inside.below j l);
      capped = capped;
      lowers = omega (arith, inside.sums, sum_to_le n r.lower p (λ j l. omega (arith, inside.above j l)));
      uppers = omega (arith, inside.sums, sum_to_le n p r.upper (λ j l. omega (arith, inside.below j l)));
    }
