-- A list filled from the front by a rule, one store a turn: of any length, by any rule.
use Rattle.std.specs.Prelude.{ℕ, ◌<◌, ◌≡◌, List, length, get_or}

-- The list has n entries, and those below i are the rule's.
pub record Filled (n : ℕ) (f : ℕ → ℕ) (i : ℕ) (a : List ℕ) : Type 0 where
  pub long : length a ≡ n
  pub done : (k : ℕ) → k < i → get_or a k 0 ≡ f k
