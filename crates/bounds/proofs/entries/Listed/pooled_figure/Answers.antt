-- `pooled_figure` pools the figures of one run of the years.
-- Assumes nothing.
use mathlib.Core.Path.{◌∙◌}
use Rattle.bounds.proofs.PooledBoundsLaws.{pool_ready, pooled_years_lem}
use Rattle.bounds.proofs.entries.Listed.pooled_figure.Goals as goal

pub pool-requires : goal.pool-requires
pool-requires c = pool_ready c.args.self.now.scheme c.requires c.class_figures-figures.ensures

pub returns : goal.returns
returns c = c.pool.ensures ∙ pooled_years_lem c.args.self.now.scheme c.requires c.class_figures-figures.ensures
