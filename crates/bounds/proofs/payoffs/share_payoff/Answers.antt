-- `share_payoff` writes ONE at the class, where there is such a class.
-- Assumes nothing.
use Rattle.bounds.proofs.PayoffsLaws.{share_written}
use Rattle.bounds.proofs.payoffs.share_payoff.Goals as goal

pub returns : goal.returns
returns c = share_written c.args.class
