-- `sum_by_target` meets its contract: after so many cells each entry is what those cells come to.
use Rattle.std.proofs.Common.{◌≡◌, length}
use Rattle.rows.specs.Laws.AddToTarget.{summed_to}
use Rattle.rows.proofs.sum_by_target.Given as goal

abbrev pub invariant-loop-rule : goal.invariant-loop-rule
invariant-loop-rule l = l.out ≡ summed_to (length l.initial.out) l.rules l.band (length l.yielded)
