-- `entry` meets its contract: the table is that of specs/, entry by entry.
-- Assumes nothing.
use borrow.Author.Rules.{rules}
use Rattle.poisson_spec.specs.Exponentials.{exponentials}
use Rattle.poisson.proofs.table.entry.Goals as goal

pub returns : goal.returns
unfolding exponentials
returns c = search rules
