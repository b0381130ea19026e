-- `fill` reads until the buffer is full or nothing more comes: each turn leaves less of the buffer free.
-- Assumes nothing.
use Prim.Native.Nat.{◌-◌}
use lib.ListN.{length}
use Rattle.console.specs.Input.{ReadInto}
use Rattle.console.proofs.fill.Given as goal

abbrev pub invariant-loop-done : goal.invariant-loop-done
invariant-loop-done l = ReadInto 0 l.initial.buffer l.buffer l.done

abbrev pub decreases-loop-done : goal.decreases-loop-done
decreases-loop-done l = length l.buffer - l.done
