-- `reading::read_numbers` meets its contract: the numbers passed are read at the head of the loop.
use Prim.Native.Nat.{◌+◌, ◌*◌}
use lib.ListN.{length}
use Rattle.scheme.proofs.Laws.Filled.{Filled}
use Rattle.big_endian_spec.specs.Numbers.{be_at}
use Rattle.record.proofs.reading.read_numbers.Given as goal

abbrev pub invariant-loop-k : goal.invariant-loop-k
invariant-loop-k l = Filled (length l.initial.out) (λ j. be_at l.width l.bytes (l.from + j * l.stride)) l.k l.out
