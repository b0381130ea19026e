-- `ready::premiums` meets its contract: the list is filled from the front by the rule.
-- Assumes nothing.
use Rattle.scheme.specs.Stored.{up_to}
use Rattle.ready_spec.specs.Scales.{classes_of, premium_of}
use Rattle.scheme.proofs.Laws.Filled.{Filled}
use Rattle.ready.proofs.premiums.Given as goal

abbrev pub invariant-loop-i : goal.invariant-loop-i
invariant-loop-i l = Filled 32 (up_to (classes_of l.number) (premium_of l.number l.base)) l.i l.premium-items
