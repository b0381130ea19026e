-- `fill_states` fills the states in turn, along the order.
-- Assumes nothing.
use Rattle.bounds.proofs.YearLaws.{StatesFilled}
use Rattle.order.specs.Order.{along}
use Rattle.bounds.specs.Joined.{joined}
use Rattle.bounds.proofs.year.fill_states.Given as goal

abbrev pub invariant-loop-k : goal.invariant-loop-k
invariant-loop-k l = StatesFilled (joined l.entries) l.payoff (along l.high l.order) l.initial.left l.left l.sums l.k
