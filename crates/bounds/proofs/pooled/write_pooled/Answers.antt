-- `write_pooled` lists the scheme's entries and writes the slice class by class.
-- Assumes nothing.
use native.Mathlib.Omega.{arith}
use Rattle.bounds.proofs.PooledBoundsLaws.{pooled_state_ready, pooled_more, pooled_all}
use Rattle.bounds.proofs.ListSchemeLaws.{lists_empty}
use Rattle.bounds.proofs.pooled.write_pooled.Goals as goal

pub of-listed-requires : goal.of-listed-requires
of-listed-requires c = (c.requires.write.accepted, lists_empty)

pub pooled_figure-requires : goal.pooled_figure-requires
pooled_figure-requires c =
    rw c.of-listed.ensures
    (pooled_state_ready c.args.scheme c.requires.counts c.args.year c.requires.write.accepted (omega arith) (omega arith) c.share_payoff.ensures)

pub loop-j-preserved : goal.loop-j-preserved
loop-j-preserved c =
    let a = c.args in
    pooled_more a.scheme a.book a.high a.year c.requires.write.accepted (omega arith) c.share_payoff.ensures
    (rw c.of-listed.ensures at c.pooled_figure.ensures) c.loop-j.invariant

pub returns : goal.returns
returns c =
    let a = c.args in
    pooled_all a.scheme a.book a.high a.year (omega arith) c.loop-j.invariant
