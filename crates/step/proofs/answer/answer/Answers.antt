-- `answer` takes the class's interval row and its cause from `interval_row`, and the step over the row's entries.
-- Assumes nothing.
use Rattle.std.proofs.Common.{◌≡◌, ◌≤◌, length, take, refl, ap, sym, ◌∙◌, rules, arith}
use Rattle.std.proofs.Math.Seq.{length-take-le}
use Rattle.scheme.specs.RowAnswer.{RowAnswer, row_answer_of, interval_answer}
use Rattle.scheme.proofs.Laws.FirstCause.{cause_first, cause_second}
use Rattle.scheme.proofs.Laws.Number.{cause_some, passed_whole}
use Rattle.rows.specs.Laws.Front.{front_lent}
use Rattle.order.specs.Order.{SortedPermutation}
use Rattle.step_spec.specs.StepAnswer.{step_answer_of, step_cause}
use Rattle.step.proofs.AnswerLaws.{step_declined, cause_scheme, classes_fit, cause_later, front_steps, front_made}
use Rattle.step.proofs.CauseLaws.{own_cause, own_refused, own_row, own_class}
use Rattle.step.proofs.answer.answer.Goals as goal
use Rattle.step.proofs.answer.answer.Goals.{In_default, In_ok-interval, After-from-n, in_default-via-in-Ok-1, in_default-via-in-Err+else-ne}

-- Past the scheme's own causes.
passed : (c : In_default) → (row_answer_of c.in_default.interval ≡ interval_answer c.args.scheme c.args.class) × (0 ≡ own_cause c.in_default.interval)
passed c =
    elim c.in_default.branch [
      | in_default-via-in-Ok-1 w ↦ (ap row_answer_of w.interval-is ∙ c.interval_row-interval.ensures, own_row _ w.interval-is (search rules))
      | in_default-via-in-Err+else-ne w ↦ (ap row_answer_of w.interval-is ∙ w.in-Err.ensures, own_class _ w.interval-is (search rules))
    ]

-- The row, where there is one.
given : (c : In_ok-interval) → ◌≡◌ {A = RowAnswer} (record { number = 0; lower = c.in_ok-interval.interval.lower; upper = c.in_ok-interval.interval.upper }) (interval_answer c.args.scheme c.args.class)
given c = sym (ap row_answer_of c.in_ok-interval.was) ∙ (passed (goal.at.In_ok-interval c).In_default).0

cause : (c : In_ok-interval) → 0 ≡ step_cause c.args.scheme c.args.payoff.now c.args.class
cause c = cause_second (sym c.in_ok-check_payoff.ensures) refl ∙ cause_later c.args.scheme c.args.payoff.now c.args.class (given c) refl refl

-- At most 32 classes, and a payoff for each.
few : (c : After-from-n) → (c.from-n.result ≤ 32) × (c.from-n.result ≤ length c.args.payoff.now)
few c =
    let a = c.args in
    let most = classes_fit a.scheme a.payoff.now a.class (given (goal.at.After-from-n c).In_ok-interval) refl refl in
    (omega (arith, most, c.from-n.ensures), omega (arith, most, c.from-n.ensures, c.requires))

pub returns : goal.returns
returns c =
    let a = c.args in
    let other = own_refused c.in-Err.cause (λ class. search rules) in
    step_declined a.scheme a.payoff.now a.class _ refl (cause_scheme a.scheme a.payoff.now a.class c.in-Err.ensures other (cause_some _)) (cause_some _)

pub check_payoff-requires : goal.check_payoff-requires
check_payoff-requires c =
    let a = c.args in
    let past = passed c in
    omega (arith, classes_fit a.scheme a.payoff.now a.class past.0 refl (sym past.1), c.requires)

pub returns-in_err-check_payoff : goal.returns-in_err-check_payoff
returns-in_err-check_payoff c =
    let a = c.args in
    let past = passed (goal.at.returns-in_err-check_payoff c).In_default in
    step_declined a.scheme a.payoff.now a.class _ (ap step_answer_of (passed_whole _ _ c.from_residual.ensures))
    (cause_first _ c.in_err-check_payoff.ensures (cause_some _) ∙ cause_later a.scheme a.payoff.now a.class past.0 refl (sym past.1))
    (cause_some _)

pub returns-in_err-interval : goal.returns-in_err-interval
returns-in_err-interval c =
    let a = c.args in
    let past = passed (goal.at.returns-in_err-interval c).In_default in
    step_declined a.scheme a.payoff.now a.class _ (ap step_answer_of (passed_whole _ _ c.from_residual-in_err-interval.ensures))
    (cause_second (sym c.in_ok-check_payoff.ensures) (sym (ap (λ r. (row_answer_of r).number) c.in_err-interval.was)) ∙ cause_later a.scheme a.payoff.now a.class past.0 refl (sym past.1))
    (cause_some _)

pub slice_bounds-payoffs-end : goal.slice_bounds-payoffs-end
slice_bounds-payoffs-end c = sym (length-take-le c.from-n.result c.args.payoff.now (few c).1)

pub slice_bounds-order-end : goal.slice_bounds-order-end
slice_bounds-order-end c = (few c).0

pub slice_bounds-rank-end : goal.slice_bounds-rank-end
slice_bounds-rank-end c = sym (front_lent _ (few (goal.at.slice_bounds-rank-end c).After-from-n).0)

pub shared_ref_as_front-step : goal.shared_ref_as_front-step
shared_ref_as_front-step c = (few (goal.at.shared_ref_as_front-step c).After-from-n).0

pub step-figure-requires : goal.step-figure-requires
step-figure-requires c =
    let a = c.args in
    let here = goal.at.step-figure-requires c in
    let most = few here.After-from-n in
    let count = length-take-le c.from-n.result a.payoff.now most.1 in
    let sorted : SortedPermutation (take c.from-n.result a.payoff.now) c.rank.new.order = c.rank.ensures.ranks (front_lent _ most.0 ∙ sym count) (omega (arith, count, most.0)) in
    front_steps a.scheme a.payoff.now a.class (given here.In_ok-interval) (cause here.In_ok-interval) refl (omega (arith, most.1, c.from-n.ensures)) c.from-n.ensures _ _ sorted

pub returns-2 : goal.returns-2
returns-2 c =
    let a = c.args in
    let here = goal.at.returns-2 c in
    let enough = (few here.After-from-n).1 in
    front_made a.scheme a.payoff.now a.class (given here.In_ok-interval) (cause here.In_ok-interval) refl (omega (arith, enough, c.from-n.ensures)) c.from-n.ensures _ c.step-figure.ensures
