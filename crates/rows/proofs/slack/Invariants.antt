-- `slack` takes each lower entry from what is left.
-- Assumes nothing.
use Rattle.std.proofs.Common.{◌≡◌, ◌-◌}
use Rattle.setchain.specs.Sums.{at, sum_to}
use Rattle.setchain.specs.Rows.{ONE}
use Rattle.rows.proofs.slack.Given as goal

abbrev pub invariant-loop-entry : goal.invariant-loop-entry
invariant-loop-entry l = l.left ≡ ONE - sum_to l.entry-index (at l.lower)
