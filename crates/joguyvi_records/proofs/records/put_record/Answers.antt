-- `put_record` meets its contract: 13 for the buffer of the length, the cause of writing, or the record and its length.
-- Assumes nothing.
use Rattle.std.proofs.Common.{refl, ap, sym, ◌∙◌}
use Rattle.scheme.proofs.Laws.Cause.{slice_fits}
use Rattle.scheme.proofs.Laws.Number.{cause_some, passed_on}
use Rattle.record_spec.specs.Write.{write_number, written_length}
use Rattle.joguyvi_spec.proofs.Laws.Texts.{text_slice, text_declined, text_written}
use Rattle.joguyvi_records.proofs.RecordsLaws.{write_only, write_left}
use Rattle.joguyvi_records.proofs.records.put_record.Goals as goal

pub returns-in_err-check_slice : goal.returns-in_err-check_slice
returns-in_err-check_slice c =
    let a = c.args in
    rw (passed_on _ _ c.from_residual.ensures)
    (text_slice (write_only a.scheme a.version a.out.now c.requires.0 c.requires.1) (write_left a.scheme a.version a.out.now) c.in_err-check_slice.ensures (cause_some _))

pub returns-in_err-length : goal.returns-in_err-length
returns-in_err-length c =
    let a = c.args in
    let w = c.in_err-length.ensures in
    rw (passed_on _ _ c.from_residual-in_err-length.ensures)
    (text_declined (write_only a.scheme a.version a.out.now c.requires.0 c.requires.1) (write_left a.scheme a.version a.out.now)
    (ap write_number w.answer) (cause_some _) w.leaves)

pub returns : goal.returns
returns c =
    let a = c.args in
    let w = c.in_ok-length.ensures in
    text_written (write_only a.scheme a.version a.out.now c.requires.0 c.requires.1) (write_left a.scheme a.version a.out.now)
    (ap write_number w.answer) refl (slice_fits 1 _ (sym c.in_ok-check_slice.ensures)) (ap written_length w.answer) w.leaves
