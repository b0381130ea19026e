-- From whole numbers over one denominator to the exact probability as fractions.
-- Assumes nothing.
use Rattle.std.specs.Prelude.{ℕ, suc, ◌+◌, ◌*◌, ◌%◌, ◌^◌, ◌≤◌, ◌<◌, refl, Bool, true, false, cond, eqb}
use Rattle.std.proofs.Common.{ap, sym, arith, le_refl, mul-pos, mul-le-mul_right, lt_of_mul-lt-mul_right}
use Rattle.setchain.specs.Rows.{ONE}
use Rattle.setchain.specs.Fractions.{Fraction, whole, ◌⊕◌, ◌⊗◌, ◌≼◌, ◌≺◌, ◌≈◌, Proper}
use Rattle.setchain.proofs.Laws.Fractions.{add_same, mul_same, BoundOf, bound_same, bound_trans, proper_sum}
use Rattle.poisson_spec.specs.Series.{term, terms_of, added, taken, added_parts, taken_parts, Bounds, Exceeds}
use Rattle.poisson_spec.specs.Laws.Series.{over, over_positive, numerator, terms_over}
use Rattle.poisson_spec.specs.Laws.Values.{PartsBound}

-- The parts of the terms of one kind, over one denominator.
abbrev parts_over : (remainder f n k : ℕ) → Fraction
parts_over remainder f n k = record { num = numerator remainder f n; den = over n } ⊗ term f k ⊗ whole ONE

parts_same : (remainder f n k : ℕ) → terms_of remainder f n ⊗ term f k ⊗ whole ONE ≈ parts_over remainder f n k
parts_same remainder f n k =
    mul_same (terms_of remainder f n ⊗ term f k) (record { num = numerator remainder f n; den = over n } ⊗ term f k) (whole ONE)
    (mul_same (terms_of remainder f n) (record { num = numerator remainder f n; den = over n }) (term f k) (terms_over remainder f n))

-- No denominator is 0.
terms_proper : (remainder f n : ℕ) → Proper (terms_of remainder f n)
terms_proper remainder f n = proper_sum (suc n) (λ k. cond (eqb (k % 2) remainder) (term f k) (whole 0)) (λ k l. by k (eqb (k % 2) remainder))
  where
    by : (k : ℕ) (b : Bool) → Proper (cond b (term f k) (whole 0))
    by k true = over_positive k
    by k false = le_refl 1

parts_proper : (f k : ℕ) (x : Fraction) → Proper x → Proper (x ⊗ term f k ⊗ whole ONE)
parts_proper f k x p = mul-pos (mul-pos p (over_positive k)) (le_refl 1)

pub added_proper : (f n k : ℕ) → Proper (added_parts f n k)
added_proper f n k = parts_proper f k (added f n) (terms_proper 0 f n)

pub taken_proper : (f n k : ℕ) → Proper (taken_parts f n k)
taken_proper f n k = parts_proper f k (taken f n) (terms_proper 1 f n)

-- A bound over a common denominator is one of fractions.
as_fractions : (high : Bool) (x plus minus d : ℕ) → PartsBound high x plus minus d
    → BoundOf high (whole x ⊕ record { num = minus * ONE; den = d * 1 }) (record { num = plus * ONE; den = d * 1 })
as_fractions false x plus minus d h = omega (arith, mul-le-mul_right d h)
as_fractions true x plus minus d h = omega (arith, mul-le-mul_right d h)

-- And so is one that is not reached.
as_fractions_strict : (x plus minus d : ℕ) → 1 ≤ d → ONE * plus < x * d + ONE * minus
    → record { num = plus * ONE; den = d * 1 } ≺ whole x ⊕ record { num = minus * ONE; den = d * 1 }
as_fractions_strict x plus minus d positive h = omega (arith, mul-le-mul_right d h)

-- Fractions of the same value on either side of what is smaller.
less_same : (x x' y y' : Fraction) → Proper x' → Proper y' → x ≈ x' → y ≈ y' → x ≺ y → x' ≺ y'
less_same x x' y y' px py e g h =
    let left : x' ≺ y = lt_of_mul-lt-mul_right x.den (omega (arith, ap (λ v. v * y.den) e, mul-le-mul_right x'.den h)) in
    lt_of_mul-lt-mul_right y.den (omega (arith, ap (λ v. v * x'.den) g, mul-le-mul_right y'.den left))

left_proper : (x : ℕ) (y : Fraction) → Proper y → Proper (whole x ⊕ y)
left_proper x y p = mul-pos (le_refl 1) p

module _ (f n k : ℕ) where
  over_proper : (remainder : ℕ) → Proper (parts_over remainder f n k)
  over_proper remainder = parts_proper f k (record { num = numerator remainder f n; den = over n }) (over_positive n)

  left_same : (x : ℕ) → whole x ⊕ taken_parts f n k ≈ whole x ⊕ parts_over 1 f n k
  left_same x = add_same (whole x) (whole x) (taken_parts f n k) (parts_over 1 f n k) refl (parts_same 1 f n k)

  bounds_of : (high : Bool) (x : ℕ) → BoundOf high (whole x ⊕ taken_parts f n k) (added_parts f n k) → Bounds high f n k x
  bounds_of false x h = h
  bounds_of true x h = h

  -- x bounds the exact probability where it does so over one denominator.
  pub exact_bound : (high : Bool) (x : ℕ) → PartsBound high x (numerator 0 f n * f ^ k) (numerator 1 f n * f ^ k) (over n * over k) → Bounds high f n k x
  exact_bound high x h =
      bounds_of high x
      (bound_trans high (whole x ⊕ taken_parts f n k) (whole x ⊕ parts_over 1 f n k) (added_parts f n k) (left_proper x (parts_over 1 f n k) (over_proper 1))
      (bound_same high (whole x ⊕ taken_parts f n k) (whole x ⊕ parts_over 1 f n k) (left_same x))
      (bound_trans high (whole x ⊕ parts_over 1 f n k) (parts_over 0 f n k) (added_parts f n k) (over_proper 0)
      (as_fractions high x (numerator 0 f n * f ^ k) (numerator 1 f n * f ^ k) (over n * over k) h)
      (bound_same high (parts_over 0 f n k) (added_parts f n k) (sym (parts_same 0 f n k)))))

  -- x is more than the exact probability.
  pub exact_exceeds : (x : ℕ) → ONE * (numerator 0 f n * f ^ k) < x * (over n * over k) + ONE * (numerator 1 f n * f ^ k) → Exceeds f n k x
  exact_exceeds x h =
      less_same (parts_over 0 f n k) (added_parts f n k) (whole x ⊕ parts_over 1 f n k) (whole x ⊕ taken_parts f n k)
      (added_proper f n k) (left_proper x (taken_parts f n k) (taken_proper f n k)) (sym (parts_same 0 f n k)) (sym (left_same x))
      (as_fractions_strict x (numerator 0 f n * f ^ k) (numerator 1 f n * f ^ k) (over n * over k) (mul-pos (over_positive n) (over_positive k)) h)

-- What is at most a difference is smaller than what exceeds it.
pub between : (x y : ℕ) (a t : Fraction) → whole x ⊕ t ≼ a → a ≺ whole y ⊕ t → x < y
between x y a t h g = lt_of_mul-lt-mul_right (t.den * a.den) (omega arith)
