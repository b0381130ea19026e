-- `number_at` meets its contract: 0, or the number of the bytes passed stands at the head of the loop.
use Prim.Native.Nat.{◌<◌, ◌^◌}
use mathlib.Core.Path.{◌≡◌}
use Rattle.big_endian_spec.specs.Numbers.{be_at}
use Rattle.big_endian.proofs.number_at.Given as goal

abbrev pub invariant-loop-byte : goal.invariant-loop-byte
invariant-loop-byte l = (l.number ≡ be_at l.byte-index l.bytes l.at) × (l.number < 256 ^ l.byte-index)
