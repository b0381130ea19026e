-- `fill_slack` gives the slack along the order: the row with what is left sums to ONE, full where it passed and bare elsewhere.
-- Assumes nothing.
use Prim.Native.Nat.{◌-◌}
use lib.ListN.{length}
use Rattle.step.specs.Laws.Fill.{Filling}
use Rattle.order.specs.Order.{along}
use Rattle.step.proofs.fill.fill_slack.Given as goal

abbrev pub invariant-loop-slack : goal.invariant-loop-slack
invariant-loop-slack l = Filling l.initial.row l.upper (along l.high l.order) l.row l.slack l.k

abbrev pub decreases-loop-slack : goal.decreases-loop-slack
decreases-loop-slack l = length l.initial.row - l.k
