-- `pooled_share_sheet` answers by the definition, and leaves the slices alone where it declines.
-- Assumes nothing.
use Rattle.std.proofs.Common.{refl, ◌∙◌}
use Rattle.scheme.proofs.Laws.Number.{passed_on}
use Rattle.bounds_spec.specs.Pooled.{pooled_sheet_cause}
use Rattle.bounds.proofs.PooledBoundsLaws.{pooled_sheet_ready, pooled_sheet_written}
use Rattle.bounds.proofs.pooled_share_sheet.Goals as goal

pub returns-in_err-check_pooled_sheet-clause-answer : goal.returns-in_err-check_pooled_sheet-clause-answer
unfolding pooled_sheet_cause
returns-in_err-check_pooled_sheet-clause-answer c = passed_on _ _ c.from_residual.ensures ∙ c.in_err-check_pooled_sheet.ensures

pub write_pooled-requires : goal.write_pooled-requires
write_pooled-requires c = (pooled_sheet_ready c.args.scheme c.args.book c.args.year c.args.low.now c.args.high.now c.in_ok-check_pooled_sheet.ensures refl).0

pub write_pooled-requires-2 : goal.write_pooled-requires-2
write_pooled-requires-2 c = (pooled_sheet_ready c.args.scheme c.args.book c.args.year c.args.low.now c.args.high.now c.in_ok-check_pooled_sheet.ensures refl).1

pub returns-clause-answer : goal.returns-clause-answer
returns-clause-answer c =
    (pooled_sheet_written c.args.scheme c.args.book c.args.year c.args.low.now c.args.high.now c.in_ok-check_pooled_sheet.ensures refl
    c.write_pooled.ensures c.write_pooled-2.ensures).0

pub returns-clause-promise : goal.returns-clause-promise
returns-clause-promise c =
    (pooled_sheet_written c.args.scheme c.args.book c.args.year c.args.low.now c.args.high.now c.in_ok-check_pooled_sheet.ensures refl
    c.write_pooled.ensures c.write_pooled-2.ensures).1.1.1
