-- `reading::rules` meets its contract: the rows of the classes passed are read at the head of the loop.
use Prim.Native.Nat.{◌+◌, ◌*◌}
use mathlib.Core.Path.{◌≡◌}
use lib.ListN.{get_or}
use Rattle.scheme.specs.Access.{CELL_PLACES}
use Rattle.scheme.specs.Tables.{tab}
use Rattle.scheme.specs.Stored.{rules_up_to}
use Rattle.record.proofs.reading.rules.Given as goal

abbrev pub invariant-loop-i : goal.invariant-loop-i
invariant-loop-i l = l.rules ≡ tab CELL_PLACES (rules_up_to l.i l.m (λ j k. get_or l.bytes (l.from + j * l.m + k) 0))
