-- `pooled_share` answers by the definition, which keeps its promise.
-- Assumes nothing.
use Rattle.std.proofs.Common.{refl, ap₂, arith}
use Rattle.scheme.proofs.Laws.Number.{second_declines}
use Rattle.bounds_spec.specs.Answers.{Answered}
use Rattle.bounds_spec.specs.Pooled.{Figure, pooled_answer}
use Rattle.bounds.proofs.StartBoundsLaws.{refused}
use Rattle.bounds.proofs.PooledBoundsLaws.{pooled_refused, pooled_share_ready, pooled_share_answer}
use Rattle.bounds.proofs.pooled_share.Goals as goal

pub returns-in_err-check_share-clause-answer : goal.returns-in_err-check_share-clause-answer
returns-in_err-check_share-clause-answer c = pooled_refused _ _ (Figure.share c.args.class) _ _ _ c.from_residual.ensures c.in_err-check_share.ensures

pub returns-in_err-check-clause-answer : goal.returns-in_err-check-clause-answer
unfolding pooled_answer
returns-in_err-check-clause-answer c = refused _ _ _ _ c.from_residual-in_err-check.ensures (second_declines c.in_ok-check_share.ensures c.in_err-check.ensures)

pub pooled_bounds-requires : goal.pooled_bounds-requires
pooled_bounds-requires c = pooled_share_ready c.args.scheme c.args.book c.args.class c.args.year c.in_ok-check_share.ensures c.in_ok-check.ensures c.share_payoff.ensures (omega arith) refl

pub returns-clause-answer : goal.returns-clause-answer
returns-clause-answer c =
    (pooled_share_answer c.args.scheme c.args.book c.args.class c.args.year c.in_ok-check_share.ensures c.in_ok-check.ensures c.share_payoff.ensures
    (ap₂ Answered c.pooled_bounds.ensures.low c.pooled_bounds.ensures.high)).0

pub returns-clause-promise : goal.returns-clause-promise
returns-clause-promise c =
    (pooled_share_answer c.args.scheme c.args.book c.args.class c.args.year c.in_ok-check_share.ensures c.in_ok-check.ensures c.share_payoff.ensures
    (ap₂ Answered c.pooled_bounds.ensures.low c.pooled_bounds.ensures.high)).1
