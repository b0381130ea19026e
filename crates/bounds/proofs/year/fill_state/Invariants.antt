-- `fill_state` takes the entries in turn: what each row has left and its sum tell of those taken.
-- Assumes nothing.
use Rattle.bounds.proofs.FillStateLaws.{EntriesTaken}
use Rattle.bounds.specs.Joined.{joined}
use Rattle.bounds.proofs.year.fill_state.Given as goal

abbrev pub invariant-loop-e : goal.invariant-loop-e
invariant-loop-e l = EntriesTaken (joined l.entries) l.first l.end l.payoff l.initial.left l.initial.sums l.left l.sums l.e
