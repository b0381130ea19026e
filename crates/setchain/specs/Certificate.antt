-- The threshold certificate: what makes a row of whole parts extreme, whatever way it was found.
use Rattle.std.specs.Prelude.{ℕ, ◌<◌, ◌≡◌, Bool, true, false}
use Rattle.setchain.specs.Rows.{IntervalRow}

-- The payoff a comes strictly before the payoff b: it is smaller, or, for a high figure, larger.
abbrev pub Ahead : (high : Bool) → ℕ → ℕ → Type 0
Ahead false a b = a < b
Ahead true a b = b < a

-- The row p gives states whose payoff comes before a threshold their upper entry, and those after it their lower entry.
pub record Certificate (high : Bool) (n : ℕ) (r : IntervalRow) (f p : ℕ → ℕ) : Type 0 where
  pub threshold : ℕ
  pub filled : (j : ℕ) → j < n → Ahead high (f j) threshold → p j ≡ r.upper j
  pub bare : (j : ℕ) → j < n → Ahead high threshold (f j) → p j ≡ r.lower j
