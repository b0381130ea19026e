-- Rounding outward, away from what a figure bounds (document 01, "One year"): the step's unit is ONE.
use Rattle.std.specs.Prelude.{ℕ, ◌+◌, ◌-◌, ◌/◌, Bool, true, false}

-- x over a unit, rounded outward: down for a low figure, up for a high one.
abbrev pub rounded : (high : Bool) (unit x : ℕ) → ℕ
rounded false unit x = x / unit
rounded true unit x = (x + (unit - 1)) / unit
