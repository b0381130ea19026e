-- `write_pooled` lists the scheme's entries and writes the slice class by class.
-- Assumes nothing.
use Rattle.order.proofs.Laws.Written.{Written}
use Rattle.bounds.proofs.PooledBoundsLaws.{pooled_of}
use Rattle.bounds.proofs.pooled.write_pooled.Given as goal

abbrev pub invariant-loop-j : goal.invariant-loop-j
invariant-loop-j l = Written l.fn.scheme.classes (pooled_of l.fn.scheme l.book l.high l.year) l.out l.j
