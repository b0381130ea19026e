-- `check` meets its contract: the stages of `Laws.Cause`, in their order.
use Rattle.std.proofs.Common.{refl, ◌∙◌}
use Rattle.scheme.specs.Cause.{rule_out, premium_out}
use Rattle.scheme.proofs.Laws.Cause.{cause_form, cause_later}
use Rattle.scheme.proofs.Laws.Number.{cause_some, passed_on, first_declines, second_declines}
use Rattle.acceptance.proofs.check.Goals as goal

pub returns-in_err-check_form : goal.returns-in_err-check_form
returns-in_err-check_form c =
    passed_on _ _ c.from_residual.ensures ∙ cause_form c.args.scheme c.in_err-check_form.ensures (cause_some _)

pub returns-in_err-check_rules : goal.returns-in_err-check_rules
unfolding rule_out premium_out
returns-in_err-check_rules c =
    first_declines _ _ _ c.from_residual-in_err-check_rules.ensures c.in_err-check_rules.ensures
    ∙ cause_later c.args.scheme c.in_ok-check_form.ensures refl

pub returns-in_err-check_bands : goal.returns-in_err-check_bands
unfolding rule_out premium_out
returns-in_err-check_bands c =
    second_declines c.in_ok-check_rules.ensures (first_declines _ _ _ c.from_residual-in_err-check_bands.ensures c.in_err-check_bands.ensures)
    ∙ cause_later c.args.scheme c.in_ok-check_form.ensures refl

pub returns : goal.returns
unfolding rule_out premium_out
returns c =
    second_declines c.in_ok-check_rules.ensures (second_declines c.in_ok-check_bands.ensures c.check_premiums.ensures)
    ∙ cause_later c.args.scheme c.in_ok-check_form.ensures refl
