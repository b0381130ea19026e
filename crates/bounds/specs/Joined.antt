-- The tables of the code as the one list that specs/Entries.antt speaks of.
use Rattle.std.specs.Prelude.{ℕ, List, ◌++◌}
use Rattle.bounds.specs.declared.entries.Entries.{Entries}

-- The states first, then the lower ends, the capacities and the counts.
abbrev pub joined : Entries → List ℕ
joined e = e.states ++ (e.lower_ends ++ (e.capacities ++ e.counts))
