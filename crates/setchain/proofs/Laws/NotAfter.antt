-- The order of two figures by the flag: not larger for low figures, not smaller for high ones.
use Rattle.std.specs.Prelude.{ℕ, ◌+◌, ◌*◌, ◌≤◌, ◌≡◌, Bool, true, false}
use Rattle.std.proofs.Common.{arith, le_antisymm, le_of_mul-le-mul_right}
use Rattle.setchain.specs.Step.{NotAfter}

pub not_after_same : (high : Bool) {a b : ℕ} → a ≡ b → NotAfter high a b
not_after_same false e = omega arith
not_after_same true e = omega arith

pub not_after_both : (high : Bool) {a b : ℕ} → NotAfter high a b → NotAfter high b a → a ≡ b
not_after_both false h k = le_antisymm h k
not_after_both true h k = le_antisymm k h

pub not_after_trans : (high : Bool) (a b c : ℕ) → NotAfter high a b → NotAfter high b c → NotAfter high a c
not_after_trans false a b c h k = omega arith
not_after_trans true a b c h k = omega arith

pub not_after_add : (high : Bool) (a b c d : ℕ) → NotAfter high a b → NotAfter high c d → NotAfter high (a + c) (b + d)
not_after_add false a b c d h k = omega arith
not_after_add true a b c d h k = omega arith

-- A common factor taken away.
pub not_after_cancel : (high : Bool) (a b m : ℕ) → 1 ≤ m → NotAfter high (a * m) (b * m) → NotAfter high a b
not_after_cancel false a b m p h = le_of_mul-le-mul_right {k = m} h p
not_after_cancel true a b m p h = le_of_mul-le-mul_right {k = m} h p
