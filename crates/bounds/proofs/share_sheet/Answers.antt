-- `share_sheet` answers by the definition, and leaves the slices alone where it declines.
-- Assumes nothing.
use Rattle.std.proofs.Common.{refl, ◌∙◌}
use Rattle.scheme.proofs.Laws.Number.{passed_on}
use Rattle.bounds_spec.specs.Answers.{sheet_cause}
use Rattle.bounds.proofs.ShareSheetLaws.{sheet_ready, sheet_written}
use Rattle.bounds.proofs.share_sheet.Goals as goal

pub returns-in_err-check_sheet-clause-answer : goal.returns-in_err-check_sheet-clause-answer
unfolding sheet_cause
returns-in_err-check_sheet-clause-answer c = passed_on _ _ c.from_residual.ensures ∙ c.in_err-check_sheet.ensures

pub write_shares-requires : goal.write_shares-requires
write_shares-requires c = (sheet_ready c.args.scheme c.args.year c.args.low.now c.args.high.now c.in_ok-check_sheet.ensures refl).0

pub write_shares-requires-2 : goal.write_shares-requires-2
write_shares-requires-2 c = (sheet_ready c.args.scheme c.args.year c.args.low.now c.args.high.now c.in_ok-check_sheet.ensures refl).1

pub returns-clause-answer : goal.returns-clause-answer
returns-clause-answer c =
    (sheet_written c.args.scheme c.args.year c.args.low.now c.args.high.now c.in_ok-check_sheet.ensures refl
    c.write_shares.ensures c.write_shares-2.ensures).0

pub returns-clause-promise : goal.returns-clause-promise
returns-clause-promise c =
    (sheet_written c.args.scheme c.args.year c.args.low.now c.args.high.now c.in_ok-check_sheet.ensures refl
    c.write_shares.ensures c.write_shares-2.ensures).1.1.1
