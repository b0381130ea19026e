-- Narrower bands move the row that is answered inward (document 02, items 1 and 2): lower ends no smaller, upper ends no larger.
use Rattle.std.specs.Prelude.{ℕ, ◌≤◌, ◌≡◌}
use Rattle.setchain.specs.Sums.{at}
use Rattle.scheme.specs.RowAnswer.{RowAnswer}

-- The same call is answered, each lower end no smaller and each upper end no larger.
pub record RowInward (wide narrow : RowAnswer) : Type 0 where
  pub number : wide.number ≡ narrow.number
  pub lower : (j : ℕ) → at wide.lower j ≤ at narrow.lower j
  pub upper : (j : ℕ) → at narrow.upper j ≤ at wide.upper j
