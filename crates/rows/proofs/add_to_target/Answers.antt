-- `add_to_target` meets its contract: the rule leads to no entry, or to one.
use Rattle.std.proofs.Common.{rules}
use Rattle.rows.specs.Laws.AddToTarget.{added_none, added_set}
use Rattle.rows.proofs.add_to_target.Goals as goal

pub returns-then-contains : goal.returns-then-contains
returns-then-contains c = rw (c.min.ensures, c.from-class.ensures, c.from.ensures) (added_set _ _ _ c.requires (search rules) (search rules))

pub returns-else-contains : goal.returns-else-contains
returns-else-contains c = added_none _ _ _ c.requires (λ j g e. search rules)
