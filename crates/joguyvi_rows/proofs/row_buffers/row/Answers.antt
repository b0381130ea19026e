-- `row` meets its contract: the cause of reading, or the row put into its buffers.
-- Assumes nothing.
use Rattle.std.proofs.Common.{refl}
use Rattle.scheme.proofs.Laws.Number.{cause_some, passed_on}
use Rattle.joguyvi_rows.proofs.LibLaws.{row_stopped, row_passed}
use Rattle.joguyvi_rows.proofs.row_buffers.row.Goals as goal

pub returns-in_err-read : goal.returns-in_err-read
returns-in_err-read c =
    let a = c.args in
    rw (passed_on _ _ c.from_residual.ensures) (row_stopped a.bytes.now a.class a.lower.now a.upper.now c.in_err-read.ensures (cause_some _))

pub returns : goal.returns
returns c =
    let a = c.args in
    row_passed a.bytes.now a.class a.lower.now a.upper.now c.in_ok-read.ensures refl c.row.ensures c.put_row.ensures
