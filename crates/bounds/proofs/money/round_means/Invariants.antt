-- `round_means` rounds place after place: the invariant says so of the years passed.
-- Assumes nothing.
use Rattle.bounds.proofs.MoneyLaws.{Rounded}
use Rattle.bounds.proofs.money.round_means.Given as goal

abbrev pub invariant-loop-place : goal.invariant-loop-place
invariant-loop-place l = Rounded l.high l.stride l.initial.means l.means l.place
