-- `total` meets its contract: the cause of reading, or the answer put into the buffer, with its promise.
-- Assumes nothing.
use Rattle.std.proofs.Common.{refl}
use Rattle.scheme.proofs.Laws.Number.{cause_some, passed_on}
use Rattle.joguyvi_years.proofs.LibLaws.{bounds_stopped, bounds_passed}
use Rattle.joguyvi_years.proofs.figures.total.Goals as goal

pub returns-in_err-read : goal.returns-in_err-read
returns-in_err-read c =
    rw (passed_on _ _ c.from_residual.ensures) (bounds_stopped c.args.bytes.now c.args.out.now c.in_err-read.ensures (cause_some _))

pub returns : goal.returns
returns c =
    bounds_passed c.args.bytes.now c.args.out.now c.in_ok-read.ensures refl (c.total.ensures.answer, c.total.ensures.promise) c.put_bounds.ensures
