-- `more` puts what one read brought behind the bytes that are there, and changes no other.
-- Assumes nothing.
use native.Mathlib.Omega.{arith}
use Rattle.console.proofs.ReadLaws.{read_copied}
use Rattle.console.proofs.more.Goals as goal

pub returns-clause-came : goal.returns-clause-came
returns-clause-came c = rw c.copy.ensures (read_copied c.args.buffer.now c.args.done _ c.min-count.result c.requires (omega arith))
