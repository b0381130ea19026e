-- `bands` meets its contract: the cause of reading, or the bands put into their buffers.
-- Assumes nothing.
use Rattle.std.proofs.Common.{refl}
use Rattle.scheme.proofs.Laws.Judged.{accepted_cause}
use Rattle.scheme.proofs.Laws.Number.{cause_some, passed_on}
use Rattle.joguyvi_spec.proofs.Laws.Causes.{passed_scheme}
use Rattle.joguyvi_rows.proofs.LibLaws.{bands_stopped, bands_passed}
use Rattle.joguyvi_rows.proofs.row_buffers.bands.Goals as goal

pub returns-in_err-read : goal.returns-in_err-read
returns-in_err-read c =
    let a = c.args in
    rw (passed_on _ _ c.from_residual.ensures) (bands_stopped a.bytes.now a.lower.now a.upper.now c.in_err-read.ensures (cause_some _))

pub put_bands-requires : goal.put_bands-requires
put_bands-requires c = (accepted_cause _ (passed_scheme c.args.bytes.now c.in_ok-read.ensures refl)).size.columns

pub returns : goal.returns
returns c = bands_passed c.args.bytes.now c.args.lower.now c.args.upper.now c.in_ok-read.ensures refl c.put_bands.ensures
