-- `fill` reads until the buffer is full or nothing more comes: each turn leaves less of the buffer free.
-- Assumes nothing.
use native.Mathlib.Omega.{arith}
use Rattle.console.proofs.ReadLaws.{read_more}
use Rattle.console.proofs.fill.Goals as goal

pub loop-done-preserved : goal.loop-done-preserved
loop-done-preserved c = read_more c.loop-done.invariant c.in-Ok.ensures.came (omega arith)
