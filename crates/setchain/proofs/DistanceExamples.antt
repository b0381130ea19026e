-- How near counts as near, and what lies between, on small numbers (document 01, "Years"; document 02, item 6).
use Rattle.std.specs.Prelude.{ℕ, ◌*◌, ◌<◌, ◌≡◌, refl}
use Rattle.std.proofs.Common.{arith}
use Rattle.setchain.specs.Fractions.{Fraction, whole}
use Rattle.setchain.specs.Promise.{Between, NoFurther, Nearer, with_rounding, cent_and_tenths}

-- A numerator over a denominator.
abbrev pub fraction : ℕ → ℕ → Fraction
fraction a b = record { num = a; den = b }

-- The value of a fraction whose denominator is not 0.
pub record HasValue (x : Fraction) (num den : ℕ) : Type 0 where
  pub proper : 0 < x.den
  pub same : x.num * den ≡ num * x.den

-- "no further than t from it": 12 and 8 are near 10 for t = 2, and 13, 7 and what lies just past 12 and 8 are not.
pub record NearExamples : Type 0 where
  pub above : NoFurther (whole 2) 10 (whole 12)
  pub below : NoFurther (whole 2) 10 (whole 8)
  pub too_high : NoFurther (whole 2) 10 (whole 13) → ⊥
  pub too_low : NoFurther (whole 2) 10 (whole 7) → ⊥
  pub just_too_high : NoFurther (whole 2) 10 (fraction 1201 100) → ⊥
  pub just_too_low : NoFurther (whole 2) 10 (fraction 799 100) → ⊥

pub near_examples : NearExamples
near_examples =
    record {
      above = record { under = omega arith; over = omega arith };
      below = record { under = omega arith; over = omega arith };
      too_high = λ h. omega (arith, h.under);
      too_low = λ h. omega (arith, h.over);
      just_too_high = λ h. omega (arith, h.under);
      just_too_low = λ h. omega (arith, h.over);
    }

-- "less than one cent plus t tenths", for t = 2: 11 1/5 and 8 4/5 are that far from 10, no further and not nearer; what lies just inside is nearer.
pub record TenthsExamples : Type 0 where
  pub distance : (with_rounding 10 (whole 2) ≡ fraction 12 10) × (cent_and_tenths 2 ≡ fraction 12 10)
  pub above : NoFurther (cent_and_tenths 2) 10 (fraction 56 5)
  pub below : NoFurther (cent_and_tenths 2) 10 (fraction 44 5)
  pub too_high : NoFurther (cent_and_tenths 2) 10 (fraction 1121 100) → ⊥
  pub too_low : NoFurther (cent_and_tenths 2) 10 (fraction 879 100) → ⊥
  pub nearer_above : Nearer (cent_and_tenths 2) 10 (fraction 1119 100)
  pub nearer_below : Nearer (cent_and_tenths 2) 10 (fraction 881 100)
  pub edge_above : Nearer (cent_and_tenths 2) 10 (fraction 56 5) → ⊥
  pub edge_below : Nearer (cent_and_tenths 2) 10 (fraction 44 5) → ⊥

pub tenths_examples : TenthsExamples
tenths_examples =
    record {
      distance = (refl, refl);
      above = record { under = omega arith; over = omega arith };
      below = record { under = omega arith; over = omega arith };
      too_high = λ h. omega (arith, h.under);
      too_low = λ h. omega (arith, h.over);
      nearer_above = record { under = omega arith; over = omega arith };
      nearer_below = record { under = omega arith; over = omega arith };
      edge_above = λ h. omega (arith, h.under);
      edge_below = λ h. omega (arith, h.over);
    }

-- "low ≤ exact … ≤ high": both ends count as between, and nothing outside does.
pub record BetweenExamples : Type 0 where
  pub low : Between 8 12 (whole 8)
  pub high : Between 8 12 (fraction 24 2)
  pub too_low : Between 8 12 (fraction 799 100) → ⊥
  pub too_high : Between 8 12 (fraction 1201 100) → ⊥

pub between_examples : BetweenExamples
between_examples =
    record {
      low = record { least = omega arith; most = omega arith };
      high = record { least = omega arith; most = omega arith };
      too_low = λ h. omega (arith, h.least);
      too_high = λ h. omega (arith, h.most);
    }
