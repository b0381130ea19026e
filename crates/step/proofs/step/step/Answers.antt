-- `step` fills the row along the order, which makes it extreme, and takes its figure.
-- Assumes nothing.
use Rattle.step.specs.Laws.Extreme.{step_fills, stepped}
use Rattle.step.proofs.step.step.Goals as goal

pub fill-requires : goal.fill-requires
fill-requires c = step_fills c.requires

pub returns : goal.returns
returns c = stepped c.requires c.fill.ensures c.figure.ensures
