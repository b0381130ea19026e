-- `staying_rules` leads the rules of one class to itself: the invariant says so of the cells passed.
-- Assumes nothing.
use Rattle.scheme.specs.Access.{CELL_STRIDE}
use Rattle.order.proofs.Laws.Written.{Rewritten}
use Rattle.reached.specs.Staying.{staying_rule}
use Rattle.reached.proofs.staying_rules.Given as goal

abbrev pub invariant-loop-rule : goal.invariant-loop-rule
invariant-loop-rule l = Rewritten CELL_STRIDE (λ k. staying_rule l.classes l.class) l.initial.rule-items l.rule-items l.rule-index
