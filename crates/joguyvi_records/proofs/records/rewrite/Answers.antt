-- `rewrite` meets its contract: 1 for the version, the cause of reading, or the record written again.
-- Assumes nothing.
use Rattle.std.proofs.Common.{◌≡◌, refl, false, sym, ◌∙◌, arith}
use Rattle.scheme.proofs.Laws.Number.{cause_some, passed_on}
use Rattle.record_spec.specs.Layout.{other_version}
use Rattle.joguyvi_spec.proofs.Laws.Causes.{passed_scheme}
use Rattle.joguyvi_records.proofs.LibLaws.{rewrite_other, rewrite_stopped, rewrite_passed}
use Rattle.joguyvi_records.proofs.records.rewrite.Goals as goal

pub returns-in_err-read : goal.returns-in_err-read
returns-in_err-read c =
    let a = c.args in
    rw (passed_on _ _ c.from_residual.ensures)
    (rewrite_stopped a.bytes.now a.version a.out.now a.length.now (sym c.other_version.ensures ∙ c.if-other_version.false) c.in_err-read.ensures (cause_some _))

pub put_record-requires : goal.put_record-requires
put_record-requires c = (sym c.other_version.ensures ∙ c.if-other_version.false, passed_scheme c.args.bytes.now c.in_ok-read.ensures refl)

pub returns : goal.returns
returns c =
    let a = c.args in
    rewrite_passed a.bytes.now a.version a.out.now a.length.now (sym c.other_version.ensures ∙ c.if-other_version.false) c.in_ok-read.ensures
    (λ k. omega (arith, c.type_inv.bytes k)) refl c.put_record.ensures
