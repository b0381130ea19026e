-- `parts::premiums` meets its contract: the premiums passed stand at the head of the loop.
use mathlib.Core.Path.{◌≡◌}
use lib.ListN.{get_or}
use lib.Seq.{sets}
use Rattle.big_endian_spec.specs.Numbers.{be_bytes}
use Rattle.record_spec.specs.Joined.{joined}
use Rattle.record_write.proofs.parts.premiums.Given as goal

abbrev pub invariant-loop-j : goal.invariant-loop-j
invariant-loop-j l = l.out ≡ sets l.initial.out l.from (joined l.j (λ i. be_bytes l.width (get_or l.premiums i 0)))
