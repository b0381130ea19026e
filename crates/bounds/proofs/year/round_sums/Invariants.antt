-- `round_sums` makes figures from the front on.
-- Assumes nothing.
use lib.ListN.{length}
use Rattle.order.proofs.Laws.Written.{Rewritten}
use Rattle.bounds.proofs.YearLaws.{figure_of}
use Rattle.bounds.proofs.year.round_sums.Given as goal

abbrev pub invariant-loop-i : goal.invariant-loop-i
invariant-loop-i l = Rewritten (length l.gain) (figure_of l.gain l.high) l.initial.sums l.sums l.i
