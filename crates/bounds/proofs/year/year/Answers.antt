-- `year` ranks the order by the figures before, fills the states along it, and rounds the sums.
-- Assumes nothing.
use lib.ListN.{length, drop}
use Rattle.bounds.proofs.FrontLaws.{zeros}
use Rattle.bounds.proofs.YearLaws.{year_fills, year_figures}
use borrow.Author.Rules.{rules}
use Rattle.bounds.proofs.year.year.Goals as goal

pub fill_states-requires : goal.fill_states-requires
fill_states-requires c = year_fills c.requires (search rules) c.args.high c.rank_again.ensures.ranks

pub returns-clause-figures : goal.returns-clause-figures
returns-clause-figures c =
    year_figures c.requires (search rules) c.args.high c.rank_again.ensures.ranks c.fill_states.ensures
    (drop (length c.args.gain.now) zeros) _ c.round_sums.ensures
