-- `step` meets its contract: the cause of reading, or the step put into its buffers.
-- Assumes nothing.
use Rattle.std.proofs.Common.{refl, ◌∙◌}
use Rattle.scheme.proofs.Laws.Number.{cause_some, passed_on}
use Rattle.joguyvi_spec.proofs.Laws.Buffers.{padded_first}
use Rattle.joguyvi_steps.proofs.StepsLaws.{step_stopped, step_passed}
use Rattle.joguyvi_steps.proofs.steps.step.Goals as goal

pub returns-in_err-scheme : goal.returns-in_err-scheme
returns-in_err-scheme c =
    let a = c.args in
    rw (passed_on _ _ c.from_residual.ensures)
    (step_stopped a.high a.bytes.now a.payoff.now a.class a.figure.now a.row.now c.in_err-scheme.ensures (cause_some _))

pub returns : goal.returns
returns c =
    let a = c.args in
    step_passed a.high a.bytes.now a.payoff.now a.class a.figure.now a.row.now c.in_ok-scheme.ensures refl
    (c.padded_32.ensures ∙ padded_first a.payoff.now) c.answer_of-step.ensures c.put_step.ensures
