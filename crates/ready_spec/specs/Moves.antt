-- The rule of the ready schemes (document 01, "Ready schemes").
use Rattle.std.specs.Prelude.{ℕ, min, max, ◌+◌, ◌-◌, ◌*◌, ◌≤◌, cond, eqb}

-- "Ready schemes": "the result is held to 1 to s".
abbrev pub held : ℕ → ℕ → ℕ
held s class = max 1 (min s class)

-- "Ready schemes": "k claims, k ≥ 1, raise the class by c × k − 1; none lowers it by 1".
abbrev pub moved_class : ℕ → ℕ → ℕ → ℕ → ℕ
moved_class s c class k = held s (cond (eqb k 0) (class - 1) (class + (c * k - 1)))

-- What the code's move is called with: classes, factor and claims of the ready schemes.
pub record Movable (s c class k : ℕ) : Type 0 where
  pub some_class : 1 ≤ s
  pub classes : s ≤ 24
  pub some_factor : 1 ≤ c
  pub factor : c ≤ 4
  pub positive : 1 ≤ class
  pub within : class ≤ s
  pub claims : k ≤ 4
