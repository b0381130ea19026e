-- The rounding over no unit, of a low figure, and of a high one.
-- Assumes nothing.
use Prim.Native.Nat.{ℕ, ◌+◌, ◌-◌, ◌/◌, ◌%◌, ◌≤◌, ◌<◌}
use mathlib.Core.Path.{◌≡◌, refl, sym}
use mathlib.Core.Bool.{Bool, true, false, not, true≢false}
use native.Mathlib.Omega.{arith}
use native.Mathlib.Nat.{div-zero, mod-lt, mod-add-div', le-mul_of_pos_right, div-eq_of_lt-le}
use Rattle.setchain.specs.Rounding.{rounded}

pub rounded_none : (high : Bool) (unit x : ℕ) → unit ≡ 0 → rounded high unit x ≡ 0
rounded_none false unit x e = rw e (div-zero x)
rounded_none true unit x e = rw e (div-zero (x + (0 - 1)))

pub rounded_down : (high : Bool) (unit x : ℕ) → not high ≡ true → rounded high unit x ≡ x / unit
rounded_down false unit x e = refl
rounded_down true unit x e = absurd (true≢false (sym e))

-- Whole units, and a part of one more.
pub rounded_whole : (high : Bool) (unit x : ℕ) → not high ≡ false → 0 < unit → x % unit ≡ 0 → rounded high unit x ≡ x / unit
rounded_whole false unit x e l z = absurd (true≢false e)
rounded_whole true unit x e l z = div-eq_of_lt-le unit (omega (arith, mod-add-div' x unit)) (omega (arith, mod-add-div' x unit))

pub rounded_up : (high : Bool) (unit x : ℕ) → not high ≡ false → 0 < unit → (x % unit ≡ 0 → ⊥) → rounded high unit x ≡ x / unit + 1
rounded_up false unit x e l z = absurd (true≢false e)
rounded_up true unit x e l z = div-eq_of_lt-le unit (omega (arith, mod-add-div' x unit)) (omega (arith, mod-add-div' x unit, mod-lt x l))

-- A part of a unit counts at least 1, so that one more than the whole units is at most x.
pub up_fits : (unit x : ℕ) → 0 < unit → (x % unit ≡ 0 → ⊥) → x / unit + 1 ≤ x
up_fits unit x l z = omega (arith, mod-add-div' x unit, le-mul_of_pos_right (x / unit) l)
