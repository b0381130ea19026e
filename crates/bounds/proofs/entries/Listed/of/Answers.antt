-- `of` lists the rows of the scheme's parts in use: they are the scheme's.
-- Assumes nothing.
use Rattle.std.proofs.Common.{rules}
use Rattle.bounds.proofs.ListSchemeLaws.{scheme_lists, scheme_listed}
use Rattle.bounds.proofs.entries.Listed.of.Goals as goal

pub list_rows-requires : goal.list_rows-requires
list_rows-requires c = scheme_lists c.args.scheme c.requires.0 (search rules) c.requires.1

pub invariant_of-result : goal.invariant_of-result
invariant_of-result c = record { lists = scheme_listed c.args.scheme c.requires.0 (search rules) c.list_rows.ensures }
