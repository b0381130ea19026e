-- The series over one denominator: whole numbers, by which cuts are compared with parts, computed, and carried from two cuts to all later ones.
-- Assumes nothing.
use Prim.Native.Nat.{ℕ, zero, suc, ◌+◌, ◌*◌, ◌%◌, ◌^◌, ◌≤◌, ◌<◌}
use Rattle.std.specs.Prelude.{◌≡◌, refl, Bool, true, false, cond, eqb}
use Rattle.std.proofs.Math.Path.{ap}
use Rattle.std.proofs.Common.{◌∙◌, subst, ⊎_elim, eq-eqb, ne_eqb, le_refl, eq-or-lt_of_le, le_of_suc-le-suc, not-suc-le-zero, mul-pos, mul-le-mul_left, mul-le-mul_right, lt_of_mul-lt-mul_right, pow-suc}
use native.Mathlib.Omega.{arith}
use Rattle.std.proofs.Math.Decide.{ℕ_discrete}
use Rattle.std.proofs.Math.Nat.{pow-zero}
use Rattle.setchain.specs.Sums.{only_if}
use Rattle.setchain.specs.Fractions.{Fraction, whole, ◌⊕◌, ◌≈◌, sum_fractions}
use Rattle.setchain.specs.Rows.{ONE}
use Rattle.setchain.proofs.Laws.Sums.{only_if_true, only_if_false, only_if_zero}
use Rattle.poisson_spec.specs.Series.{factorial, term, terms_of}

-- What all terms up to power n are brought over.
abbrev pub over : ℕ → ℕ
over n = 1000 ^ n * factorial n

pub over_zero : over 0 ≡ 1
unfolding factorial
over_zero = refl

pub over_more : (n : ℕ) → over (suc n) ≡ over n * (1000 * suc n)
unfolding factorial
over_more n = rw (pow-suc 1000 n) (omega arith)

pub over_positive : (n : ℕ) → 0 < over n
unfolding factorial
over_positive zero = le_refl 1
over_positive (suc n) = rw (over_more n) (mul-pos (over_positive n) (omega arith))

-- The numerator of the terms whose power leaves this remainder, one power more at a time.
unfoldable pub numerator : (remainder f n : ℕ) → ℕ
numerator remainder f zero = only_if (eqb (0 % 2) remainder) 1
numerator remainder f (suc n) = numerator remainder f n * (1000 * suc n) + only_if (eqb (suc n % 2) remainder) (f ^ suc n)

-- At frequency 0 the series is its first term.
pub numerator_zero : (n : ℕ) → (numerator 0 0 n ≡ over n) × (numerator 1 0 n ≡ 0)
unfolding numerator only_if factorial
numerator_zero zero = (refl, refl)
numerator_zero (suc n) =
    let none : 0 ^ suc n ≡ 0 = rw (pow-suc 0 n) (omega arith) in
    let before = numerator_zero n in
    rw (none, only_if_zero (eqb (suc n % 2) 0), only_if_zero (eqb (suc n % 2) 1), over_more n, before.0, before.1) (omega arith, omega arith)

-- A sum over d, and one more term over d × c where the test passes.
one_more : (b : Bool) (s : Fraction) (n d c x : ℕ) → s ≈ record { num = n; den = d }
    → s ⊕ cond b (record { num = x; den = d * c }) (whole 0) ≈ record { num = n * c + only_if b x; den = d * c }
unfolding only_if
one_more true s n d c x e = omega (arith, ap (λ v. v * (c * (d * c))) e)
one_more false s n d c x e = omega (arith, ap (λ v. v * c) e)

-- The terms over that denominator.
pub terms_over : (remainder f n : ℕ) → terms_of remainder f n ≈ record { num = numerator remainder f n; den = over n }
unfolding sum_fractions numerator only_if factorial
terms_over remainder f zero = none (eqb (0 % 2) remainder)
  where
    none : (b : Bool) → whole 0 ⊕ cond b (term f 0) (whole 0) ≈ record { num = only_if b 1; den = over 0 }
    none true = omega (arith, pow-zero f)
    none false = omega arith
terms_over remainder f (suc n) =
    rw (over_more n) (one_more (eqb (suc n % 2) remainder) (terms_of remainder f n) (numerator remainder f n) (over n) (1000 * suc n) (f ^ suc n) (terms_over remainder f n))

-- ONE times (plus − minus) / d, rounded down, is x.
pub record RoundedDown (x plus minus d : ℕ) : Type 0 where
  pub under : x * d + ONE * minus ≤ ONE * plus
  pub above : ONE * plus < (x + 1) * d + ONE * minus

-- A term is taken, and the next, no larger one added: from the two cuts before, what is rounded down stays.
taken_added : (x f plus minus d c c' power : ℕ) → 1 ≤ c → 1 ≤ c' → f ≤ c' → RoundedDown x plus minus d → RoundedDown x (plus * c) (minus * c + power) (d * c)
    → RoundedDown x (plus * c * c' + power * f) ((minus * c + power) * c') (d * c * c')
taken_added x f plus minus d c c' power positive positive' falls before now =
    record {
      under = omega (arith, mul-le-mul_right c' now.under);
      above = omega (arith, mul-le-mul_right (c * c') before.above, mul-pos positive positive', mul-le-mul_left power falls);
    }

-- A term is added, and the next one taken.
added_taken : (x f plus minus d c c' power : ℕ) → 1 ≤ c → 1 ≤ c' → f ≤ c' → RoundedDown x plus minus d → RoundedDown x (plus * c + power) (minus * c) (d * c)
    → RoundedDown x ((plus * c + power) * c') (minus * c * c' + power * f) (d * c * c')
added_taken x f plus minus d c c' power positive positive' falls before now =
    record {
      under = omega (arith, mul-le-mul_right (c * c') before.under, mul-le-mul_left power falls);
      above = omega (arith, mul-le-mul_right c' now.above);
    }

-- ONE times the cut after power n, rounded down, is x.
abbrev pub CutDown : (x f n : ℕ) → Type 0
CutDown x f n = RoundedDown x (numerator 0 f n) (numerator 1 f n) (over n)

module _ (remainder f n : ℕ) where
  -- The next power's term is of this kind, or of the other.
  grown : suc n % 2 ≡ remainder → numerator remainder f (suc n) ≡ numerator remainder f n * (1000 * suc n) + f ^ suc n
  unfolding numerator
  grown e = ap (λ b. numerator remainder f n * (1000 * suc n) + b) (only_if_true (eqb (suc n % 2) remainder) (f ^ suc n) (eq-eqb (suc n % 2) remainder e))

  kept : (suc n % 2 ≡ remainder → ⊥) → numerator remainder f (suc n) ≡ numerator remainder f n * (1000 * suc n)
  unfolding numerator
  kept h =
      ap (λ b. numerator remainder f n * (1000 * suc n) + b) (only_if_false (eqb (suc n % 2) remainder) (f ^ suc n) (ne_eqb (suc n % 2) remainder h)) ∙ omega arith

-- Terms fall, for frequencies up to 1: each cut lies between the two before it.
module _ (x f : ℕ) (small : f ≤ 1000) where
  two_later : (n : ℕ) → CutDown x f n → CutDown x f (suc n) → CutDown x f (suc (suc n))
  two_later n before now = by (ℕ_discrete (n % 2) 0)
    where
      by : Dec (n % 2 ≡ 0) → CutDown x f (suc (suc n))
      by (yes even) =
          rw (grown 0 f (suc n) (omega arith), kept 1 f (suc n) (λ e. omega arith), kept 0 f n (λ e. omega arith), grown 1 f n (omega arith), over_more (suc n), over_more n, pow-suc f (suc n))
          (taken_added x f (numerator 0 f n) (numerator 1 f n) (over n) (1000 * suc n) (1000 * suc (suc n)) (f ^ suc n) (omega arith) (omega arith) (omega arith) before
          (rw (kept 0 f n (λ e. omega arith), grown 1 f n (omega arith), over_more n) at now))
      by (no odd) =
          rw (kept 0 f (suc n) (λ e. omega arith), grown 1 f (suc n) (omega arith), grown 0 f n (omega arith), kept 1 f n (λ e. omega arith), over_more (suc n), over_more n, pow-suc f (suc n))
          (added_taken x f (numerator 0 f n) (numerator 1 f n) (over n) (1000 * suc n) (1000 * suc (suc n)) (f ^ suc n) (omega arith) (omega arith) (omega arith) before
          (rw (grown 0 f n (omega arith), kept 1 f n (λ e. omega arith), over_more n) at now))

  -- From two cuts one after the other to all later ones.
  later : (first : ℕ) → CutDown x f first → CutDown x f (suc first) → (n : ℕ) → first ≤ n → CutDown x f n × CutDown x f (suc n)
  later first now next zero l =
      ⊎_elim (λ e. subst (λ k. CutDown x f k × CutDown x f (suc k)) e (now, next)) (λ g. absurd (not-suc-le-zero g)) (eq-or-lt_of_le l)
  later first now next (suc n) l =
      ⊎_elim (λ e. subst (λ k. CutDown x f k × CutDown x f (suc k)) e (now, next))
      (λ g. let before = later first now next n (le_of_suc-le-suc g) in (before.1, two_later n before.0 before.1))
      (eq-or-lt_of_le l)

  -- The cut after an odd power is not below x, and that after the next is below x + 1: both are rounded down to x.
  odd_even : (n : ℕ) → suc n % 2 ≡ 0 → x * over n + ONE * numerator 1 f n ≤ ONE * numerator 0 f n
      → ONE * numerator 0 f (suc n) < (x + 1) * over (suc n) + ONE * numerator 1 f (suc n) → CutDown x f n × CutDown x f (suc n)
  odd_even n even under above =
      let c = 1000 * suc n in
      let over' : ONE * (numerator 0 f n * c + f ^ suc n) < (x + 1) * (over n * c) + ONE * (numerator 1 f n * c) =
      rw (grown 0 f n even, kept 1 f n (λ e. omega arith), over_more n) at above in (
        record { under = under; above = lt_of_mul-lt-mul_right (1000 * suc n) (omega arith) },
        rw (grown 0 f n even, kept 1 f n (λ e. omega arith), over_more n) (record { under = omega (arith, mul-le-mul_right (1000 * suc n) under); above = over' }),
      )

  -- Rounded down after every power from 19 on, by two tests.
  pub every_cut : x * over 19 + ONE * numerator 1 f 19 ≤ ONE * numerator 0 f 19 → ONE * numerator 0 f 20 < (x + 1) * over 20 + ONE * numerator 1 f 20
      → (n : ℕ) → 19 ≤ n → CutDown x f n
  every_cut under above n l = let both = odd_even 19 refl under above in (later 19 both.0 both.1 n l).0
