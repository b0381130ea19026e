-- `pool` sums class after class: the invariant says so of the classes passed.
-- Assumes nothing.
use lib.ListN.{length}
use Rattle.bounds.proofs.PooledLaws.{Weighed}
use Rattle.bounds.proofs.pooled.pool.Given as goal

abbrev pub invariant-loop-count : goal.invariant-loop-count
invariant-loop-count l = Weighed l.classes l.fn.book l.fn.figures (length l.yielded) l.sum l.chambers
