-- `share` answers by the definition, which keeps its promise.
-- Assumes nothing.
use Rattle.std.proofs.Common.{refl, ap₂, arith}
use Rattle.bounds_spec.specs.Answers.{Answered, share_answer}
use Rattle.bounds.proofs.StartBoundsLaws.{refused, share_ready, share_answer_lem}
use Rattle.bounds.proofs.share.Goals as goal

pub returns-in_err-check_share-clause-answer : goal.returns-in_err-check_share-clause-answer
unfolding share_answer
returns-in_err-check_share-clause-answer c = refused _ _ _ _ c.from_residual.ensures c.in_err-check_share.ensures

pub start_bounds-requires : goal.start_bounds-requires
start_bounds-requires c = share_ready c.args.scheme c.args.class c.args.year c.in_ok-check_share.ensures c.share_payoff.ensures (omega arith) refl

pub returns-clause-answer : goal.returns-clause-answer
returns-clause-answer c =
    (share_answer_lem c.args.scheme c.args.class c.args.year c.in_ok-check_share.ensures c.share_payoff.ensures (ap₂ Answered c.start_bounds.ensures.low c.start_bounds.ensures.high)).0

pub returns-clause-promise : goal.returns-clause-promise
returns-clause-promise c =
    (share_answer_lem c.args.scheme c.args.class c.args.year c.in_ok-check_share.ensures c.share_payoff.ensures (ap₂ Answered c.start_bounds.ensures.low c.start_bounds.ensures.high)).1
