-- `record_at` meets its contract: an empty part, or the front of what stands behind the length.
-- Assumes nothing.
use mathlib.Core.Path.{sym, ◌∙◌}
use Rattle.console.proofs.RecordLaws.{record_none, record_held}
use Rattle.console.proofs.record_at.Goals as goal

pub returns-then-not-holds : goal.returns-then-not-holds
returns-then-not-holds c = record_none _ _ (sym c.holds.ensures ∙ c.if-not-holds.true)

pub returns : goal.returns
returns c = record_held _ _ c.number_at-length.ensures c.front.ensures
