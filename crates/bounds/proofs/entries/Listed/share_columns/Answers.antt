-- `share_columns` writes the shares class by class.
-- Assumes nothing.
use native.Mathlib.Omega.{arith}
use Rattle.bounds.proofs.TableLaws.{column_stored, share_ready, columns_more}
use Rattle.bounds.proofs.entries.Listed.share_columns.Goals as goal

pub series-requires : goal.series-requires
series-requires c =
    rw (c.from-classes.ensures, c.from-years.ensures)
    (share_ready c.args.self.now.scheme c.requires.accepted c.loop-j.invariant (omega arith) c.share_payoff.ensures)

pub loop-j-preserved : goal.loop-j-preserved
loop-j-preserved c =
    columns_more c.args.self.now.scheme c.requires.accepted c.loop-j.invariant (omega arith) c.share_payoff.ensures
    (column_stored c.args.self.now.scheme c.loop-j.j c.loop-j.out _ (omega arith) c.loop-j.invariant.size
    (rw (c.from-classes.ensures, c.from-years.ensures) at c.series.ensures.series))
