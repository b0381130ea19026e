-- `pooled_total` answers by the definition, which keeps its promise.
-- Assumes nothing.
use Rattle.std.proofs.Common.{refl, ap₂, arith}
use Rattle.scheme.proofs.Laws.Number.{second_declines}
use Rattle.bounds_spec.specs.Answers.{Answered}
use Rattle.bounds_spec.specs.Pooled.{Figure, pooled_answer}
use Rattle.bounds.proofs.StartBoundsLaws.{refused}
use Rattle.bounds.proofs.PooledBoundsLaws.{pooled_refused, pooled_total_ready, pooled_total_answer}
use Rattle.bounds.proofs.pooled_total.Goals as goal

pub returns-in_err-check_money-clause-answer : goal.returns-in_err-check_money-clause-answer
returns-in_err-check_money-clause-answer c = pooled_refused _ _ Figure.total _ _ _ c.from_residual.ensures c.in_err-check_money.ensures

pub returns-in_err-check-clause-answer : goal.returns-in_err-check-clause-answer
unfolding pooled_answer
returns-in_err-check-clause-answer c = refused _ _ _ _ c.from_residual-in_err-check.ensures (second_declines c.in_ok-check_money.ensures c.in_err-check.ensures)

pub pooled_bounds-requires : goal.pooled_bounds-requires
pooled_bounds-requires c = pooled_total_ready c.args.scheme c.args.book c.args.year c.in_ok-check_money.ensures c.in_ok-check.ensures c.in_tenths.ensures (omega arith) refl

pub returns-clause-answer : goal.returns-clause-answer
returns-clause-answer c =
    (pooled_total_answer c.args.scheme c.args.book c.args.year c.in_ok-check_money.ensures c.in_ok-check.ensures c.in_tenths.ensures
    (ap₂ Answered c.pooled_bounds.ensures.low c.pooled_bounds.ensures.high)).0

pub returns-clause-promise : goal.returns-clause-promise
returns-clause-promise c =
    (pooled_total_answer c.args.scheme c.args.book c.args.year c.in_ok-check_money.ensures c.in_ok-check.ensures c.in_tenths.ensures
    (ap₂ Answered c.pooled_bounds.ensures.low c.pooled_bounds.ensures.high)).1
