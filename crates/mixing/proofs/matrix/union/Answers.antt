-- `union` meets its contract: the first k rows.
use Rattle.mixing.specs.Laws.Bits.{union_none, union_more}
use Rattle.mixing.proofs.matrix.union.Goals as goal

pub loop-k-init : goal.loop-k-init
loop-k-init c = union_none _ _

pub loop-k-preserved : goal.loop-k-preserved
loop-k-preserved c = union_more c.loop-k.k _ c.loop-k.out _ _ c.loop-k.invariant c.row_if-out.ensures
