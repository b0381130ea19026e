-- `read` meets its contract: the frame's cause, the scheme's cause, or the scheme.
use Rattle.std.proofs.Common.{◌≡◌, refl, ap, sym, ◌∙◌}
use Rattle.scheme.specs.Cause.{cause_of}
use Rattle.scheme.proofs.Laws.Number.{cause_some, passed_whole}
use Rattle.record_spec.specs.Read.{read_answer_of, read_cause}
use Rattle.record_spec.proofs.Laws.Frame.{frame_clear}
use Rattle.record_spec.proofs.Laws.Read.{frame_first, scheme_next, answer_declined, answer_scheme}
use Rattle.record.proofs.read.Goals as goal

pub returns-in_err-check_frame : goal.returns-in_err-check_frame
returns-in_err-check_frame c =
    answer_declined _ (frame_first _ c.in_err-check_frame.ensures (cause_some _)) (cause_some _) (ap read_answer_of (passed_whole _ _ c.from_residual.ensures))

pub parsed-scheme-requires : goal.parsed-scheme-requires
parsed-scheme-requires c = frame_clear _ (sym c.in_ok-check_frame.ensures)

pub returns-in_err-check : goal.returns-in_err-check
returns-in_err-check c =
    answer_declined _ (scheme_next _ (sym c.in_ok-check_frame.ensures) (c.in_err-check.ensures ∙ ap cause_of c.parsed-scheme.ensures)) (cause_some _)
    (ap read_answer_of (passed_whole _ _ c.from_residual-in_err-check.ensures))

pub returns : goal.returns
returns c =
    let next : 0 ≡ read_cause c.args.bytes.now = scheme_next _ (sym c.in_ok-check_frame.ensures) (c.in_ok-check.ensures ∙ ap cause_of c.parsed-scheme.ensures) in
    rw c.parsed-scheme.ensures (answer_scheme _ next refl)
