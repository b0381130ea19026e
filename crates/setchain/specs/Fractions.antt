-- Fractions as two whole numbers, added and multiplied by the school rules and compared multiplied out (document 01, "Years").
use Rattle.std.specs.Prelude.{ℕ, zero, suc, ◌+◌, ◌*◌, ◌≤◌, ◌<◌, ◌≡◌}

infixl 60 ◌⊕◌
infixl 70 ◌⊗◌
infixl 70 ◌divided_by◌
infix 40 ◌≼◌
infix 40 ◌≺◌
infix 40 ◌≈◌
-- Numerator and denominator.
pub record Fraction : Type 0 where
  pub num : ℕ
  pub den : ℕ

-- A whole number as a fraction.
abbrev pub whole : ℕ → Fraction
whole a = record { num = a; den = 1 }

-- The sum.
abbrev pub ◌⊕◌ : Fraction → Fraction → Fraction
x ⊕ y = record { num = x.num * y.den + y.num * x.den; den = x.den * y.den }

-- The product.
abbrev pub ◌⊗◌ : Fraction → Fraction → Fraction
x ⊗ y = record { num = x.num * y.num; den = x.den * y.den }

-- A whole number's part.
abbrev pub ◌divided_by◌ : Fraction → ℕ → Fraction
x divided_by k = record { num = x.num; den = x.den * k }

-- x is at most y, multiplied out.
abbrev pub ◌≼◌ : Fraction → Fraction → Type 0
x ≼ y = x.num * y.den ≤ y.num * x.den

-- x is smaller than y.
abbrev pub ◌≺◌ : Fraction → Fraction → Type 0
x ≺ y = x.num * y.den < y.num * x.den

-- The same value.
abbrev pub ◌≈◌ : Fraction → Fraction → Type 0
x ≈ y = x.num * y.den ≡ y.num * x.den

-- A fraction proper: its denominator is not 0.
abbrev pub Proper : Fraction → Type 0
Proper x = 0 < x.den

-- The sum of the fractions f at each index below n.
unfoldable pub sum_fractions : ℕ → (ℕ → Fraction) → Fraction
sum_fractions zero f = whole 0
sum_fractions (suc n) f = sum_fractions n f ⊕ f n
