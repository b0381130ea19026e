-- `entries` meets its contract.
use Rattle.std.proofs.Common.{arith}
use Rattle.rows.specs.Laws.Entries.{entries_joined}
use Rattle.rows.proofs.rows.entries.Goals as goal

pub returns : goal.returns
returns c = rw c.from-n.ensures (entries_joined _ _ c.args.classes _ (omega arith) (rw c.from-n.ensures at c.sum_by_target.ensures))
