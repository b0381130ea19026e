-- `union` meets its contract: the first k rows.
use mathlib.Core.Path.{◌≡◌}
use Rattle.setchain.specs.Sums.{at}
use Rattle.mixing.specs.Bits.{union_of}
use Rattle.mixing.proofs.matrix.union.Given as goal

abbrev pub invariant-loop-k : goal.invariant-loop-k
invariant-loop-k l = l.out ≡ union_of l.k l.set (at l.rows)
