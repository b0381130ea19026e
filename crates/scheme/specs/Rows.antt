-- The interval rows of a scheme (document 01, "Interval rows").
use Rattle.std.specs.Prelude.{ℕ, ◌-◌}
use Rattle.setchain.specs.Rows.{SetChain}
use Rattle.setchain.specs.Cells.{Cells, row_of}
use Rattle.scheme.specs.declared.Scheme.{Scheme}
use Rattle.scheme.specs.Access.{cell_count, rule_at, lower_at, upper_at}

-- The cells of class i: where each column leads, and its band.
abbrev pub cells_of : Scheme → ℕ → Cells
cells_of s i = record { count = cell_count s; target = λ k. rule_at s i k - 1; lower = lower_at s i; upper = upper_at s i }

-- The set-chain of a scheme: a state for each class, and the interval row that its cells make.
abbrev pub chain_of : Scheme → SetChain
chain_of s = record { states = s.classes; row = λ i. row_of (cells_of s i) }
