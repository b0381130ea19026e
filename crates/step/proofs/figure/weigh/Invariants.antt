-- `weigh` sums part times payoff: the invariant says so of the places passed.
-- Assumes nothing.
use mathlib.Core.Path.{◌≡◌}
use lib.ListN.{length}
use Rattle.setchain.specs.Sums.{at, dot}
use Rattle.step.proofs.figure.weigh.Given as goal

abbrev pub invariant-loop-part : goal.invariant-loop-part
invariant-loop-part l = l.sum ≡ dot (length l.yielded) (at l.row) (at l.payoff)
