-- `mean_column` writes the series of the means in tenths, and rounds each.
-- Assumes nothing.
use Rattle.bounds.proofs.TableLaws.{mean_ready, means_made}
use Rattle.bounds.proofs.entries.Listed.mean_column.Goals as goal

pub series-requires : goal.series-requires
series-requires c = rw (c.from-stride.ensures, c.from-years.ensures) (mean_ready c.args.self.now.scheme c.requires.accepted c.requires.tenths)

pub returns : goal.returns
returns c =
    means_made c.args.self.now.scheme c.requires.accepted c.requires.tenths
    (rw (c.from-stride.ensures, c.from-years.ensures) at c.series.ensures.series) (rw c.from-stride.ensures at c.round_means.ensures)
