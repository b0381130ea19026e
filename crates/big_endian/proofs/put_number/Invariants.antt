-- `put_number` meets its contract: nothing, or what is left to be put at the head of the loop makes what was to be put.
use mathlib.Core.Path.{◌≡◌}
use lib.Seq.{sets}
use Rattle.big_endian_spec.specs.Numbers.{be_bytes}
use Rattle.big_endian.proofs.put_number.Given as goal

abbrev pub invariant-loop-k : goal.invariant-loop-k
invariant-loop-k l = sets l.out l.at (be_bytes l.k l.rest) ≡ sets l.initial.out l.at (be_bytes l.width l.x)
