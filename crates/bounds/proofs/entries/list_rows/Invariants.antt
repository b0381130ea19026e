-- `list_rows` lists each row in turn: the invariant says so of the rows passed.
-- Assumes nothing.
use Rattle.bounds.specs.Entries.{rules_chain}
use Rattle.bounds.proofs.ListRowsLaws.{Listing}
use Rattle.bounds.specs.Joined.{joined}
use Rattle.bounds.proofs.entries.list_rows.Given as goal

abbrev pub invariant-loop-i : goal.invariant-loop-i
invariant-loop-i l = Listing (rules_chain l.scheme.classes l.scheme.columns l.scheme.rules l.scheme.lowers l.scheme.uppers) (joined l.entries) l.slack l.i
