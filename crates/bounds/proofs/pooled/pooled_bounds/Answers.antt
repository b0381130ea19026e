-- `pooled_bounds` lists the scheme's entries and takes the low and the high pooled figure.
-- Assumes nothing.
use Rattle.bounds.proofs.ListSchemeLaws.{lists_empty}
use Rattle.bounds.proofs.pooled.pooled_bounds.Goals as goal

pub of-listed-requires : goal.of-listed-requires
of-listed-requires c = (c.requires.years.accepted, lists_empty)
