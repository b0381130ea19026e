-- The one-year step (document 01, "One year"): the extreme rows and their figures as formulas, and document 01's own words for them.
-- One flag tells low from high: `high` is false for a low figure, true for a high one.
use Rattle.std.specs.Prelude.{ℕ, min, ◌+◌, ◌-◌, ◌≤◌, ◌≡◌, Bool, true, false, ◌&&◌, ◌||◌, eqb, ltb}
use Rattle.setchain.specs.Sums.{sum_to, only_if, dot}
use Rattle.setchain.specs.Rows.{ONE, IntervalRow, Inside, of_parts}
use Rattle.setchain.specs.Rounding.{rounded}

-- A is at least as extreme as b: not larger for a low figure, not smaller for a high one.
abbrev pub NotAfter : (high : Bool) → ℕ → ℕ → Type 0
NotAfter false a b = a ≤ b
NotAfter true a b = b ≤ a

-- How far the entry of state j may rise above its lower end.
abbrev pub capacity : IntervalRow → ℕ → ℕ
capacity r j = r.upper j - r.lower j

-- The parts that are left to give when each state has its lower entry.
abbrev pub slack : ℕ → IntervalRow → ℕ
slack n r = ONE - sum_to n r.lower

-- State k comes before state j where payoffs rise: its payoff is smaller, or is equal and k is the smaller number.
abbrev pub rising : (ℕ → ℕ) → ℕ → ℕ → Bool
rising f k j = ltb (f k) (f j) || eqb (f k) (f j) && ltb k j

-- The order in which states are given parts: payoffs rise for a low figure, and a high figure goes along the same order from its other end.
abbrev pub before : (high : Bool) → (ℕ → ℕ) → ℕ → ℕ → Bool
before false f k j = rising f k j
before true f k j = rising f j k

-- The capacity of the states that come before j.
unfoldable pub capacity_before : ℕ → IntervalRow → (order : ℕ → ℕ → Bool) → ℕ → ℕ
capacity_before n r order j = sum_to n (λ k. only_if (order k j) (capacity r k))

-- Each state's lower entry, and the slack given along an order, to each state as much as it has capacity for.
unfoldable pub fill_row : ℕ → IntervalRow → (order : ℕ → ℕ → Bool) → ℕ → ℕ
fill_row n r order j = r.lower j + min (capacity r j) (slack n r - capacity_before n r order j)

-- The row that is least, its slack given to small payoffs first; for high figures the row that is greatest, its slack given to large payoffs first.
abbrev pub extreme_row : (high : Bool) → ℕ → IntervalRow → (ℕ → ℕ) → ℕ → ℕ
extreme_row high n r f = fill_row n r (before high f)

-- The figure of the extreme row, low or high.
unfoldable pub step_figure : (high : Bool) → ℕ → IntervalRow → (ℕ → ℕ) → ℕ
step_figure high n r f = rounded high ONE (dot n (extreme_row high n r f) f)

-- The low figure.
abbrev pub low_step : ℕ → IntervalRow → (ℕ → ℕ) → ℕ
low_step = step_figure false

-- The high figure.
abbrev pub high_step : ℕ → IntervalRow → (ℕ → ℕ) → ℕ
high_step = step_figure true

-- p is a row of whole parts inside the interval that sums to ONE.
abbrev pub Parts : ℕ → IntervalRow → (ℕ → ℕ) → Type 0
Parts n r p = Inside n r (of_parts p)

-- "a row inside the interval that reaches its unrounded figure": the row p, over n states, for an interval row, a payoff f and a figure.
pub record Reaches (high : Bool) (n : ℕ) (r : IntervalRow) (f p : ℕ → ℕ) (figure : ℕ) : Type 0 where
  -- Whole parts inside the interval; "its parts sum to exactly ONE".
  pub inside : Parts n r p
  -- No row of whole parts inside the interval has a smaller sum of part times payoff (for a high figure: a greater).
  pub extreme : (q : ℕ → ℕ) → Parts n r q → NotAfter high (dot n p f) (dot n q f)
  -- The figure is this row's sum of part times payoff over ONE, rounded down (for a high figure: up).
  pub rounded : figure ≡ rounded high ONE (dot n p f)

-- "The low figure … is the least, over rows of whole parts inside its interval that sum to ONE, of (sum of part times payoff) / ONE, rounded down. The high figure is the greatest, rounded up."
pub record ExtremeFigure (high : Bool) (n : ℕ) (r : IntervalRow) (f : ℕ → ℕ) (figure : ℕ) : Type 0 where
  pub parts : ℕ → ℕ
  pub reached : Reaches high n r f parts figure
