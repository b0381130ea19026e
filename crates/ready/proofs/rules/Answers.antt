-- `ready::rules` meets its contract: the list is filled from the front by the rule.
-- Assumes nothing.
use Rattle.scheme.specs.Access.{CELL_PLACES}
use Rattle.scheme.proofs.Laws.Filled.{fill_all}
use Rattle.ready.proofs.rules.Goals as goal

pub returns : goal.returns
returns c = fill_all CELL_PLACES _ _ _ c.loop-place-test.false c.loop-place.invariant
