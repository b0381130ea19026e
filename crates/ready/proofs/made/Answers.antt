-- `ready::made` meets its contract: each field is what its definition says.
-- Assumes nothing.
use Rattle.scheme.specs.Tables.{tab}
use Rattle.scheme.specs.Stored.{up_to, scheme_of}
use Rattle.ready_spec.specs.Ready.{ready_scheme}
use Rattle.ready.proofs.made.Goals as goal

pub returns : goal.returns
unfolding ready_scheme scheme_of up_to tab
returns c = rw (c.classes_of-classes.ensures, c.rules-rules.ensures, c.premiums-premiums.ensures)
