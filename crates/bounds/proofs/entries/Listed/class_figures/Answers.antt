-- `class_figures` ranks the classes by the payoff and runs the years on the parts in use.
-- Assumes nothing.
use Rattle.bounds.proofs.SeriesLaws.{start_state, series_years, class_figures_done}
use borrow.Author.Rules.{rules}
use Rattle.bounds.proofs.entries.Listed.class_figures.Goals as goal

pub years-requires : goal.years-requires
years-requires c =
    rw c.from-n.ensures
    (series_years c.args.self.now.scheme c.requires c.args.self.now.lists (search rules) (search rules) _ _ (rw c.from-n.ensures at c.rank.ensures.ranks) c.state-begins.result
    (start_state c.args.self.now.scheme c.requires c.state-begins.ensures).0)

pub returns : goal.returns
returns c =
    class_figures_done c.args.self.now.scheme c.requires c.args.self.now.lists (search rules) c.state-begins.result
    (start_state c.args.self.now.scheme c.requires c.state-begins.ensures).0 (rw c.from-n.ensures at c.years.ensures)
