-- `write_shares` lists the scheme's entries and writes the slice class by class.
-- Assumes nothing.
use native.Mathlib.Omega.{arith}
use Rattle.bounds.proofs.SheetLaws.{share_ready, shares_more, shares_all}
use Rattle.bounds.proofs.ListSchemeLaws.{lists_empty}
use Rattle.bounds.proofs.sheet.write_shares.Goals as goal

pub of-listed-requires : goal.of-listed-requires
of-listed-requires c = (c.requires.accepted, lists_empty)

pub series-requires : goal.series-requires
series-requires c = rw c.of-listed.ensures (share_ready c.args.scheme c.args.year c.requires.accepted (omega arith) (omega arith) c.share_payoff.ensures)

pub loop-j-preserved : goal.loop-j-preserved
loop-j-preserved c =
    let a = c.args in
    let l = c.loop-j in
    shares_more a.scheme a.high a.year l.out l.j c.requires.accepted (omega arith)
    c.share_payoff.ensures (rw c.of-listed.ensures at c.series.ensures.figure) l.invariant

pub returns : goal.returns
returns c = shares_all c.args.scheme c.args.high c.args.year c.loop-j.out (omega arith) c.loop-j.invariant
