-- `ready::premiums` meets its contract: the list is filled from the front by the rule.
-- Assumes nothing.
use Rattle.scheme.proofs.Laws.Filled.{fill_all}
use Rattle.ready.proofs.premiums.Goals as goal

pub returns : goal.returns
returns c = fill_all 32 _ _ _ c.loop-i-test.false c.loop-i.invariant
