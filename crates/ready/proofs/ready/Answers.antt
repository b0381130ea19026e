-- `ready::ready` meets its contract: with a cause the ready scheme is not offered, and without one it is made.
-- Assumes nothing.
use Rattle.std.proofs.Common.{ℕ, ◌≡◌, ap, sym, ◌∙◌}
use Rattle.scheme.specs.Stored.{no_scheme}
use Rattle.scheme.proofs.Laws.FirstCause.{cause_first, cause_second}
use Rattle.scheme.proofs.Laws.Number.{cause_some, passed_whole}
use Rattle.ready_spec.specs.Answer.{ReadyAnswer, ready_answer_of, ready_cause, ready_answer}
use Rattle.ready_spec.proofs.Laws.{answer_made, answer_declined}
use Rattle.ready.proofs.ready.Goals as goal

declined : (number base : ℕ) {cause : ℕ} → cause ≡ ready_cause number base → (cause ≡ 0 → ⊥)
    → ◌≡◌ {A = ReadyAnswer} (record { number = cause; scheme = no_scheme }) (ready_answer number base)
declined number base is some = ap (λ n. record { number = n; scheme = no_scheme }) is ∙ sym (answer_declined number base (λ z. some (is ∙ z)))

pub returns-in_err-check_number : goal.returns-in_err-check_number
returns-in_err-check_number c =
    ap ready_answer_of (passed_whole _ _ c.from_residual.ensures)
    ∙ declined c.args.number c.args.base (cause_first _ c.in_err-check_number.ensures (cause_some _)) (cause_some _)

pub returns-in_err-check_base : goal.returns-in_err-check_base
returns-in_err-check_base c =
    ap ready_answer_of (passed_whole _ _ c.from_residual-in_err-check_base.ensures)
    ∙ declined c.args.number c.args.base (cause_second (sym c.in_ok-check_number.ensures) c.in_err-check_base.ensures) (cause_some _)

pub returns : goal.returns
returns c =
    rw c.made.ensures (sym (answer_made _ _ (sym (cause_second (sym c.in_ok-check_number.ensures) c.in_ok-check_base.ensures))))
