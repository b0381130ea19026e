-- Laws of the values: none is above ONE, each bounds the exact probability, and they move with the frequency.
-- Assumes nothing.
use Prim.Native.Nat.{ℕ, zero, suc, ◌+◌, ◌-◌, ◌*◌, ◌^◌, ◌≤◌, ◌<◌}
use Rattle.std.specs.Prelude.{◌≡◌, Bool, cond}
use Rattle.std.proofs.Common.{ne_eqb, mul-le-mul, mul-le-mul_left, mul-le-mul_right, mul-one, mul_assoc, pow-suc}
use Rattle.std.proofs.Math.Bool.{true, false}
use native.Mathlib.Omega.{arith}
use Rattle.std.proofs.Math.Nat.{pow-zero}
use Rattle.setchain.specs.Rows.{ONE}
use Rattle.setchain.specs.Rounding.{rounded}
use Rattle.setchain.specs.Step.{NotAfter}
use Rattle.setchain.proofs.Laws.Rounding.{rounded_outward, rounded_at_most, rounded_inward}
use Rattle.poisson_spec.specs.Exponentials.{entry_at}
use Rattle.poisson_spec.specs.Values.{start_from, value_from, value}
use Rattle.poisson_spec.specs.Bands.{frequency_of}
use Rattle.poisson_spec.specs.Laws.Series.{over, over_zero, over_more, numerator, CutDown, numerator_zero}
use Rattle.poisson_spec.specs.Laws.Table.{entry_cut, beside, entry_zero, entry_below, entry_most}

rounded_rises : (high : Bool) (unit x y : ℕ) → x ≤ y → rounded high unit x ≤ rounded high unit y
rounded_rises false unit x y h = rounded_inward false unit x y h
rounded_rises true unit x y h = rounded_inward true unit y x h

-- Below ONE the upper values start from the entry plus 1.
pub start_next : (entry : ℕ) → entry < ONE → start_from true entry ≡ entry + 1
start_next entry h = omega arith

module _ (f : ℕ) (small : f ≤ 1000) where
  pub value_most : (high : Bool) (k : ℕ) → value high f k ≤ ONE
  unfolding value_from
  value_most false zero = entry_most f small
  value_most true zero = omega arith
  value_most high (suc k) = omega arith

  -- "never above ONE": no value is, so that none is held to it.
  pub value_next : (high : Bool) (k : ℕ) → value high f (suc k) ≡ rounded high (1000 * suc k) (value high f k * f)
  unfolding value_from
  value_next high k =
      let within : rounded high (1000 * suc k) (value high f k * f) ≤ value high f k =
      rounded_at_most (1000 * suc k) (omega arith) high (value high f k * f) (value high f k) (mul-le-mul_left (value high f k) (omega arith)) in
      omega (arith, value_most high k)

-- ONE times (plus − minus) / d has v for a lower bound, or, where high, for an upper one.
abbrev pub PartsBound : (high : Bool) (v plus minus d : ℕ) → Type 0
PartsBound high v plus minus d = NotAfter high (v * d + ONE * minus) (ONE * plus)

-- And whatever lies further out.
looser : (high : Bool) (v v' plus minus d : ℕ) → NotAfter high v v' → PartsBound high v' plus minus d → PartsBound high v plus minus d
looser false v v' plus minus d l h = omega (arith, mul-le-mul_right d l)
looser true v v' plus minus d l h = omega (arith, mul-le-mul_right d l)

-- So it has times f / c, with v times f / c rounded outward.
next_bound : (high : Bool) (v plus minus d f c : ℕ) → 1 ≤ c → PartsBound high v plus minus d → PartsBound high (rounded high c (v * f)) (plus * f) (minus * f) (d * c)
next_bound false v plus minus d f c positive h =
    omega (arith, mul-le-mul_right f h, mul-le-mul_right d (rounded_outward c positive false (v * f)))
next_bound true v plus minus d f c positive h =
    omega (arith, mul-le-mul_right f h, mul-le-mul_right d (rounded_outward c positive true (v * f)))

module _ (f n : ℕ) (small : f ≤ 1000) (cut : 19 ≤ n) where
  -- The start bounds the cut itself.
  start_bound : (high : Bool) → PartsBound high (value high f 0) (numerator 0 f n) (numerator 1 f n) (over n)
  unfolding value_from
  start_bound false = (entry_cut f n small cut).under
  start_bound true = by f small (entry_cut f n small cut)
    where
      by : (f : ℕ) → f ≤ 1000 → CutDown (entry_at f) f n → ONE * numerator 0 f n ≤ start_from true (entry_at f) * over n + ONE * numerator 1 f n
      by zero l down = rw (entry_zero, (numerator_zero n).0, (numerator_zero n).1) (omega arith)
      by (suc f) l down = rw (start_next (entry_at (suc f)) (entry_below f l)) (omega (arith, down.above))

  -- Each value bounds the cut times the term of its claims.
  pub value_bound : (high : Bool) (k : ℕ) → PartsBound high (value high f k) (numerator 0 f n * f ^ k) (numerator 1 f n * f ^ k) (over n * over k)
  value_bound high zero = simp (pow-zero, over_zero, mul-one) (start_bound high)
  value_bound high (suc k) =
      rw (value_next f small high k, pow-suc f k, over_more k, ← mul_assoc (numerator 0 f n) (f ^ k) f, ← mul_assoc (numerator 1 f n) (f ^ k) f, ← mul_assoc (over n) (over k) (1000 * suc k))
      (next_bound high (value high f k) (numerator 0 f n * f ^ k) (numerator 1 f n * f ^ k) (over n * over k) f (1000 * suc k) (omega arith) (value_bound high k))

-- The larger frequency has the smaller values for no claim, and the larger ones for every other number.
module _ (f g : ℕ) (l : f ≤ g) (small : g ≤ 1000) where
  pub none_falls : (high : Bool) → value high g 0 ≤ value high f 0
  unfolding value_from
  none_falls false = (beside f g l small).falls
  none_falls true = omega (arith, (beside f g l small).falls)

  -- The start times the frequency rises: at frequency 0 it is 0, and elsewhere the upper values start from the entry plus 1.
  first_rises : (high : Bool) → value high f 0 * f ≤ value high g 0 * g
  unfolding value_from
  first_rises false = (beside f g l small).rises
  first_rises true = by f g l small
    where
      by : (f g : ℕ) → f ≤ g → g ≤ 1000 → start_from true (entry_at f) * f ≤ start_from true (entry_at g) * g
      by zero g l small = omega arith
      by (suc f) zero l small = absurd (omega arith)
      by (suc f) (suc g) l small =
          rw (start_next (entry_at (suc f)) (entry_below f (omega arith)), start_next (entry_at (suc g)) (entry_below g small)) (beside (suc f) (suc g) l small).next_rises

  pub some_rises : (high : Bool) (k : ℕ) → value high f (suc k) ≤ value high g (suc k)
  some_rises high zero =
      rw (value_next f (omega arith) high 0, value_next g small high 0) (rounded_rises high 1000 (value high f 0 * f) (value high g 0 * g) (first_rises high))
  some_rises high (suc k) =
      rw (value_next f (omega arith) high (suc k), value_next g small high (suc k))
      (rounded_rises high (1000 * suc (suc k)) (value high f (suc k) * f) (value high g (suc k) * g) (mul-le-mul (some_rises high k) l))

-- No lower value exceeds the upper one.
pub low_high : (f : ℕ) → f ≤ 1000 → (k : ℕ) → value false f k ≤ value true f k
unfolding value_from
low_high f small zero = omega (arith, entry_most f small)
low_high f small (suc k) =
    let unit = 1000 * suc k in
    let low = value false f k * f in
    let high = value true f k * f in
    let rises = rounded_inward false unit low (high + (unit - 1)) (omega (arith, mul-le-mul_right f (low_high f small k))) in
    omega (arith, rises)

-- Of two frequencies in order, the one by which an end is formed from 1 claim on, and that for 0 claims.
abbrev pub claimed_by : (high : Bool) (first second : ℕ) → ℕ
claimed_by high first second = cond high second first

abbrev pub free_by : (high : Bool) (first second : ℕ) → ℕ
free_by high first second = cond high first second

-- The frequency by which the end of column k is formed.
abbrev pub used_by : (high : Bool) (first second k : ℕ) → ℕ
used_by high first second k = frequency_of (claimed_by high first second) (free_by high first second) k

-- It has the value furthest out, of all frequencies between the two.
pub outward : (high : Bool) (first second f k : ℕ) → first ≤ f → f ≤ second → second ≤ 1000
    → NotAfter high (value high (used_by high first second k) k) (value high f k)
outward false first second f zero l h small = none_falls f second h small false
outward true first second f zero l h small = none_falls first f l (omega arith) true
outward high first second f (suc k) l h small = rw (ne_eqb (suc k) 0 (λ e. omega arith)) (by high)
  where
    by : (high : Bool) → NotAfter high (value high (claimed_by high first second) (suc k)) (value high f (suc k))
    by false = some_rises first f l (omega arith) false k
    by true = some_rises f second h small true k

-- So its value bounds the exact probability at each of them.
pub end_bound : (high : Bool) (first second f n k : ℕ) → first ≤ f → f ≤ second → second ≤ 1000 → 19 ≤ n
    → PartsBound high (value high (used_by high first second k) k) (numerator 0 f n * f ^ k) (numerator 1 f n * f ^ k) (over n * over k)
end_bound high first second f n k l h small cut =
    looser high (value high (used_by high first second k) k) (value high f k) (numerator 0 f n * f ^ k) (numerator 1 f n * f ^ k) (over n * over k)
    (outward high first second f k l h small) (value_bound f n (omega arith) cut high k)
