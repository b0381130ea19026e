-- Rounding outward, over any unit: it stays on its side, loses less than a unit, and keeps the order.
use Rattle.std.specs.Prelude.{ℕ, zero, suc, ◌+◌, ◌-◌, ◌*◌, ◌/◌, ◌≤◌, ◌<◌, ◌≡◌, Bool, true, false}
use Rattle.std.proofs.Common.{sym, ◌∙◌, arith, le_of_eq, mul-pos, mul-le-mul_right, le_of_mul-le-mul_right, lt_of_mul-lt-mul_right, zero-lt-suc, div-mul-le_self}
use Rattle.std.proofs.Math.Nat.{div-zero, lt-div-mul-add}
use Rattle.setchain.specs.Rounding.{rounded}
use Rattle.setchain.specs.Step.{NotAfter}

-- Over a unit that is not 0.
module _ (unit : ℕ) (positive : 1 ≤ unit) where
  -- The rounded figure bounds x.
  pub rounded_outward : (high : Bool) (x : ℕ) → NotAfter high (rounded high unit x * unit) x
  rounded_outward false x = omega (arith, div-mul-le_self x unit)
  rounded_outward true x = omega (arith, lt-div-mul-add {a = x + (unit - 1)} positive)

  -- And lies less than a unit from it.
  pub rounded_loss : (high : Bool) (x : ℕ) → (x < rounded high unit x * unit + unit) × (rounded high unit x * unit < x + unit)
  rounded_loss false x = (omega (arith, lt-div-mul-add {a = x} positive), omega (arith, div-mul-le_self x unit))
  rounded_loss true x = (omega (arith, lt-div-mul-add {a = x + (unit - 1)} positive), omega (arith, div-mul-le_self (x + (unit - 1)) unit))

  -- It bounds what x itself bounds.
  pub rounded_bounds : (high : Bool) (x y m : ℕ) → NotAfter high (x * m) (y * unit) → NotAfter high (rounded high unit x * m) y
  rounded_bounds false x y m h = le_of_mul-le-mul_right {k = unit} (omega (arith, mul-le-mul_right m (rounded_outward false x))) positive
  rounded_bounds true x y m h = le_of_mul-le-mul_right {k = unit} (omega (arith, mul-le-mul_right m (rounded_outward true x))) positive

  pub rounded_at_most : (high : Bool) (x b : ℕ) → x ≤ b * unit → rounded high unit x ≤ b
  rounded_at_most high x b h = let less : rounded high unit x < b + 1 = lt_of_mul-lt-mul_right unit (omega (arith, (rounded_loss high x).1)) in omega arith

-- Wholes stay as they are.
pub rounded_one : (high : Bool) (x : ℕ) → rounded high 1 x ≡ x
rounded_one false x = omega arith
rounded_one true x = omega arith

div_le : (unit x y : ℕ) → x ≤ y → x / unit ≤ y / unit
div_le zero x y h = le_of_eq (div-zero x ∙ sym (div-zero y))
div_le (suc u) x y h =
    let less : x / suc u < y / suc u + 1 = lt_of_mul-lt-mul_right (suc u) (omega (arith, div-mul-le_self x (suc u), lt-div-mul-add {a = y} (zero-lt-suc u))) in
    omega arith

-- Rounding keeps the order, over any unit, 0 too.
pub rounded_inward : (high : Bool) (unit x y : ℕ) → NotAfter high x y → NotAfter high (rounded high unit x) (rounded high unit y)
rounded_inward false unit x y h = div_le unit x y h
rounded_inward true unit x y h = div_le unit (y + (unit - 1)) (x + (unit - 1)) (omega arith)

-- Only one number bounds x and lies less than a unit from it.
rounded_unique : (high : Bool) (unit x r : ℕ) → 1 ≤ unit → NotAfter high (r * unit) x → x < r * unit + unit → r * unit < x + unit → r ≡ rounded high unit x
rounded_unique high unit x r positive outward above below =
    let orders = by high outward (rounded_outward unit positive high x) in
    let less : r < rounded high unit x + 1 = lt_of_mul-lt-mul_right unit orders.0 in
    let more : rounded high unit x < r + 1 = lt_of_mul-lt-mul_right unit orders.1 in
    omega arith
  where
    by : (side : Bool) → NotAfter side (r * unit) x → NotAfter side (rounded high unit x * unit) x
        → (r * unit < (rounded high unit x + 1) * unit) × (rounded high unit x * unit < (r + 1) * unit)
    by false h k = let loss = rounded_loss unit positive high x in (omega (arith, loss), omega (arith, loss))
    by true h k = let loss = rounded_loss unit positive high x in (omega (arith, loss), omega (arith, loss))

-- Figure and unit in proportion round alike.
pub rounded_proportion : (high : Bool) (unit x k : ℕ) → 1 ≤ unit → 1 ≤ k → rounded high (unit * k) (x * k) ≡ rounded high unit x
rounded_proportion high unit x k positive times =
    let both : 1 ≤ unit * k = mul-pos positive times in
    let r = rounded high (unit * k) (x * k) in
    let loss = rounded_loss (unit * k) both high (x * k) in
    rounded_unique high unit x r positive (by high (rounded_outward (unit * k) both high (x * k)))
    (lt_of_mul-lt-mul_right k (omega (arith, loss.0))) (lt_of_mul-lt-mul_right k (omega (arith, loss.1)))
  where
    by : (side : Bool) → NotAfter side (rounded high (unit * k) (x * k) * (unit * k)) (x * k) → NotAfter side (rounded high (unit * k) (x * k) * unit) x
    by false h = le_of_mul-le-mul_right {k = k} (omega arith) times
    by true h = le_of_mul-le-mul_right {k = k} (omega arith) times
