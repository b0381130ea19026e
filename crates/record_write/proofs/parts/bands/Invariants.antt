-- `parts::bands` meets its contract: the bands passed stand at the head of the loop.
use mathlib.Core.Path.{◌≡◌}
use lib.Seq.{sets}
use Rattle.scheme.specs.Access.{lower_at, upper_at}
use Rattle.record_spec.specs.Joined.{joined}
use Rattle.record_spec.specs.Bytes.{band_bytes}
use Rattle.record_write.proofs.parts.bands.Given as goal

abbrev pub invariant-loop-k : goal.invariant-loop-k
invariant-loop-k l = l.out ≡ sets l.initial.out l.from (joined l.k (λ j. band_bytes (lower_at l.scheme 0 j) (upper_at l.scheme 0 j)))
