-- `add_row` stores one entry in the list of each state that it leads to.
-- Assumes nothing.
use lib.ListN.{length}
use Rattle.setchain.specs.Rows.{lists_row}
use Rattle.bounds.specs.Joined.{joined}
use Rattle.bounds.proofs.AddRowLaws.{Adding}
use Rattle.bounds.proofs.entries.add_row.Given as goal

abbrev pub invariant-loop-j : goal.invariant-loop-j
invariant-loop-j l = Adding (length l.upper) (lists_row l.lower l.upper) l.i (joined l.initial.entries) (joined l.entries) (length l.yielded)
