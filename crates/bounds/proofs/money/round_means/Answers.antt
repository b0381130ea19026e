-- `round_means` rounds place after place: the invariant says so of the years passed.
-- Assumes nothing.
use native.Mathlib.Omega.{arith}
use Rattle.bounds.proofs.MoneyLaws.{rounded_more, rounded_all}
use Rattle.bounds.proofs.money.round_means.Goals as goal

pub loop-place-preserved : goal.loop-place-preserved
loop-place-preserved c = rounded_more c.round.result c.requires.apart (omega arith) c.round.ensures c.loop-place.invariant

pub returns : goal.returns
returns c = rounded_all (omega arith) c.loop-place.invariant

-- Where no further place is in the slice.
pub returns-2 : goal.returns-2
returns-2 c =
    let w = rounded_more c.round.result c.requires.apart (omega arith) c.round.ensures c.loop-place.invariant in
    rounded_all (omega (arith, w.size)) w
