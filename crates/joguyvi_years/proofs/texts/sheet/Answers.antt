-- `sheet` meets its contract: 13 for the buffer of the length or for want of space, or the text and its length.
-- Assumes nothing.
use Rattle.std.proofs.Common.{refl, ap, sym, ◌∙◌}
use Rattle.scheme.proofs.Laws.Cause.{slice_fits}
use Rattle.scheme.proofs.Laws.Number.{cause_some, passed_on}
use Rattle.record_spec.specs.Write.{write_number, written_length}
use Rattle.joguyvi_spec.proofs.Laws.Texts.{text_slice, text_declined, text_written}
use Rattle.joguyvi_years.proofs.LibLaws.{sheet_only, sheet_left, sheet_call}
use Rattle.joguyvi_years.proofs.texts.sheet.Goals as goal

pub returns-in_err-check_slice : goal.returns-in_err-check_slice
returns-in_err-check_slice c =
    let bytes = c.args.bytes.now in
    let out = c.args.out.now in
    rw (passed_on _ _ c.from_residual.ensures)
    (sheet_call bytes out (text_slice (sheet_only bytes out) (sheet_left bytes out) c.in_err-check_slice.ensures (cause_some _)))

pub returns-in_err-length : goal.returns-in_err-length
returns-in_err-length c =
    let bytes = c.args.bytes.now in
    let out = c.args.out.now in
    let w = c.in_err-length.ensures in
    rw (passed_on _ _ c.from_residual-in_err-length.ensures)
    (sheet_call bytes out (text_declined (sheet_only bytes out) (sheet_left bytes out) (ap write_number w.answer) (cause_some _) w.leaves))

pub returns : goal.returns
returns c =
    let bytes = c.args.bytes.now in
    let out = c.args.out.now in
    let w = c.in_ok-length.ensures in
    sheet_call bytes out
    (text_written (sheet_only bytes out) (sheet_left bytes out) (ap write_number w.answer) refl (slice_fits 1 _ (sym c.in_ok-check_slice.ensures))
    (ap written_length w.answer) w.leaves)
