-- `tightened` meets its contract: it lends the fronts of both lists, and the rest is 0 as it was.
use Rattle.rows.specs.Laws.Tight.{fronts_tight}
use Rattle.rows.proofs.tight.tightened.Goals as goal

pub returns : goal.returns
returns c = rw c.from-n.ensures (fronts_tight c.requires (rw c.from-n.ensures at c.tighten.ensures))
