-- `mean` answers by the definition, which keeps its promise.
-- Assumes nothing.
use Rattle.std.proofs.Common.{refl, ap₂, arith}
use Rattle.bounds_spec.specs.Answers.{Answered, mean_answer}
use Rattle.bounds.proofs.StartBoundsLaws.{refused, mean_ready, mean_answer_lem}
use Rattle.bounds.proofs.mean.Goals as goal

pub returns-in_err-check_money-clause-answer : goal.returns-in_err-check_money-clause-answer
unfolding mean_answer
returns-in_err-check_money-clause-answer c = refused _ _ _ _ c.from_residual.ensures c.in_err-check_money.ensures

pub start_bounds-tenths-requires : goal.start_bounds-tenths-requires
start_bounds-tenths-requires c = mean_ready c.args.scheme c.args.year c.in_ok-check_money.ensures c.in_tenths.ensures (omega arith) refl

pub returns-clause-answer : goal.returns-clause-answer
returns-clause-answer c =
    (mean_answer_lem c.args.scheme c.args.year c.in_ok-check_money.ensures c.in_tenths.ensures (ap₂ Answered c.start_bounds-tenths.ensures.low c.start_bounds-tenths.ensures.high) (ap₂ Answered c.in_cents.ensures.low c.in_cents.ensures.high)).0

pub returns-clause-promise : goal.returns-clause-promise
returns-clause-promise c =
    (mean_answer_lem c.args.scheme c.args.year c.in_ok-check_money.ensures c.in_tenths.ensures (ap₂ Answered c.start_bounds-tenths.ensures.low c.start_bounds-tenths.ensures.high) (ap₂ Answered c.in_cents.ensures.low c.in_cents.ensures.high)).1
