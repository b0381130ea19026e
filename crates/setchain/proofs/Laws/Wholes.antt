-- Figures in a unit, answered outward in wholes: they contain what they contained, and come nearer than a whole further.
use Rattle.std.specs.Prelude.{ℕ, ◌+◌, ◌*◌, ◌≤◌, ◌<◌, Bool, true, false, List}
use Rattle.std.proofs.Common.{arith, mul-pos, mul-le-mul_right, mul-lt-mul_of_pos_right, le_of_mul-le-mul_right}
use Rattle.setchain.specs.Fractions.{Fraction, whole, ◌⊗◌, Proper}
use Rattle.setchain.specs.Rows.{SetChain}
use Rattle.setchain.specs.Rounding.{rounded}
use Rattle.setchain.specs.Picks.{Matrix, PicksFor}
use Rattle.setchain.specs.Promise.{Between, NoFurther, Nearer, with_rounding, Closeness, Promise}
use Rattle.setchain.proofs.Laws.Rounding.{rounded_outward, rounded_loss}

-- Of one exact figure x, in a unit m.
module _ (m : ℕ) (positive : 1 ≤ m) (x : Fraction) (proper : Proper x) where
  pub rounded_between : (low high : ℕ) → Between low high (x ⊗ whole m) → Between (rounded false m low) (rounded true m high) x
  rounded_between low high h =
      record {
        least = le_of_mul-le-mul_right {k = m} (omega (arith, h.least, mul-le-mul_right x.den (rounded_outward m positive false low))) positive;
        most = le_of_mul-le-mul_right {k = m} (omega (arith, h.most, mul-le-mul_right x.den (rounded_outward m positive true high))) positive;
      }

  -- A whole that is less than a whole away from the bound.
  near_whole : (d : Fraction) → Proper d → (bound r : ℕ) → bound < r * m + m → r * m < bound + m → NoFurther d bound (x ⊗ whole m) → Nearer (with_rounding m d) r x
  near_whole d pd bound r above below h =
      let both : 0 < d.den * x.den = mul-pos pd proper in
      record {
        under = omega (arith, h.under, mul-lt-mul_of_pos_right above both);
        over = omega (arith, h.over, mul-lt-mul_of_pos_right below both);
      }

  pub rounded_near : (side : Bool) (d : Fraction) → Proper d → (bound : ℕ) → NoFurther d bound (x ⊗ whole m) → Nearer (with_rounding m d) (rounded side m bound) x
  rounded_near side d pd bound = let loss = rounded_loss m positive side bound in near_whole d pd bound (rounded side m bound) loss.0 loss.1

-- Figures kept to d in a unit m, and answered outward in wholes, are kept nearer than 1 and d / m for the exact figure itself, with the same picks.
module _ {c : SetChain} {t : ℕ} {exact : List Matrix → ℕ → Fraction} (m : ℕ) (positive : 1 ≤ m) (d : Fraction) (pd : Proper d)
    (proper : (ps : List Matrix) → PicksFor c t ps → (i : ℕ) → i < c.states → Proper (exact ps i)) where
  rounded_close : (side : Bool) {bound : ℕ → ℕ} → Closeness c t (NoFurther d) bound (λ ps i. exact ps i ⊗ whole m)
      → Closeness c t (Nearer (with_rounding m d)) (λ i. rounded side m (bound i)) exact
  rounded_close side {bound} s =
      record {
        picks = s.picks;
        made = s.made;
        close = λ i l. rounded_near m positive (exact s.picks i) (proper s.picks s.made i l) side d pd (bound i) (s.close i l);
      }

  pub rounded_promise : {low high : ℕ → ℕ} → Promise c t (NoFurther d) low high (λ ps i. exact ps i ⊗ whole m)
      → Promise c t (Nearer (with_rounding m d)) (λ i. rounded false m (low i)) (λ i. rounded true m (high i)) exact
  rounded_promise {low} {high} k =
      record {
        contains = λ ps picks i l. rounded_between m positive (exact ps i) (proper ps picks i l) (low i) (high i) (k.contains ps picks i l);
        low_close = rounded_close false k.low_close;
        high_close = rounded_close true k.high_close;
      }
