-- `entries_above_zero` meets its contract: the bits of the entries passed, the last entry first.
use Rattle.std.proofs.Common.{◌-◌, length}
use Rattle.mixing.proofs.EntryLaws.{BitsFrom}
use Rattle.mixing.proofs.edges.entries_above_zero.Given as goal

abbrev pub invariant-loop-entry : goal.invariant-loop-entry
invariant-loop-entry l = BitsFrom l.entries (length l.entries - length l.yielded) l.bits
