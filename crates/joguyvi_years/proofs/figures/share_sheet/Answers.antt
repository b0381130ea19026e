-- `share_sheet` meets its contract: the cause of reading, or what the share sheet answers and leaves.
-- Assumes nothing.
use Rattle.std.proofs.Common.{refl}
use Rattle.scheme.proofs.Laws.Number.{cause_some, passed_on}
use Rattle.joguyvi_years.proofs.LibLaws.{shares_stopped, shares_passed}
use Rattle.joguyvi_years.proofs.figures.share_sheet.Goals as goal

pub returns-in_err-read : goal.returns-in_err-read
returns-in_err-read c =
    let a = c.args in
    rw (passed_on _ _ c.from_residual.ensures) (shares_stopped a.bytes.now a.year a.low.now a.high.now c.in_err-read.ensures (cause_some _))

pub returns : goal.returns
returns c =
    let a = c.args in
    let w = c.share_sheet.ensures in
    shares_passed a.bytes.now a.year a.low.now a.high.now c.in_ok-read.ensures refl (w.answer, (w.lows, (w.highs, w.promise)))
