-- `start_bounds` lists the scheme's entries and takes the low and the high figure.
-- Assumes nothing.
use Rattle.bounds.proofs.ListSchemeLaws.{lists_empty}
use Rattle.bounds.proofs.series.start_bounds.Goals as goal

pub of-listed-requires : goal.of-listed-requires
of-listed-requires c = (c.requires.accepted, lists_empty)
