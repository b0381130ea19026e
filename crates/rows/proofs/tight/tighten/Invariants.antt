-- `tighten` meets its contract: after j turns the first j entries are tight, and the others as they were.
use Rattle.rows.specs.Laws.Tight.{Tightened}
use Rattle.rows.proofs.tight.tighten.Given as goal

abbrev pub invariant-loop-j : goal.invariant-loop-j
invariant-loop-j l = Tightened l.initial.lower l.initial.upper l.j l.lower l.upper
