-- `ready::rules` meets its contract: the list is filled from the front by the rule.
-- Assumes nothing.
use Rattle.scheme.specs.Access.{CELL_PLACES}
use Rattle.scheme.specs.Stored.{rules_up_to}
use Rattle.ready_spec.specs.Scales.{classes_of}
use Rattle.ready_spec.specs.Ready.{ready_rule}
use Rattle.scheme.proofs.Laws.Filled.{Filled}
use Rattle.ready.proofs.rules.Given as goal

abbrev pub invariant-loop-place : goal.invariant-loop-place
invariant-loop-place l = Filled CELL_PLACES (rules_up_to (classes_of l.number) 5 (ready_rule l.number)) l.place l.rule-items
