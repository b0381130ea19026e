-- After k turns the first k of the list stand in the buffer, and the rest is as it was.
use Rattle.std.specs.Prelude.{◌≡◌}
use Rattle.std.proofs.Math.Seq.{paste}
use Rattle.joguyvi_rows.proofs.row_buffers.put_all.Given as goal

abbrev pub invariant-loop-k : goal.invariant-loop-k
invariant-loop-k g l = l.out ≡ paste l.initial.out 0 l.list l.k
