-- `rule_row` meets its contract: the cause of reading, or the row that the record shows put into the buffer.
-- Assumes nothing.
use Rattle.std.proofs.Common.{sym}
use Rattle.scheme.proofs.Laws.Number.{cause_some, passed_on}
use Rattle.joguyvi_rows.proofs.LibLaws.{rule_row_stopped, rule_row_passed}
use Rattle.joguyvi_rows.proofs.row_buffers.rule_row.Goals as goal

pub returns-in_err-check : goal.returns-in_err-check
returns-in_err-check c =
    let a = c.args in
    rw (passed_on _ _ c.from_residual.ensures) (rule_row_stopped a.bytes.now a.class a.out.now c.in_err-check.ensures (cause_some _))

pub returns : goal.returns
returns c = rule_row_passed c.args.bytes.now c.args.class c.args.out.now (sym c.in_ok-check.ensures) c.rule_row.ensures c.put_part.ensures
