-- `slack` takes each lower entry from what is left.
-- Assumes nothing.
use Rattle.std.proofs.Common.{arith}
use Rattle.setchain.specs.Sums.{at}
use Rattle.setchain.proofs.Laws.Sums.{total_start, sum_to_more}
use Rattle.rows.proofs.slack.Goals as goal

pub loop-entry-init : goal.loop-entry-init
loop-entry-init c = omega (arith, total_start (at c.args.lower.now))

pub loop-entry-preserved : goal.loop-entry-preserved
loop-entry-preserved c = omega (arith, sum_to_more (at c.args.lower.now) c.loop-entry.entry-index)
