-- `join` meets its contract: the joined counts before i are written, and within the limit.
-- Assumes nothing.
use Rattle.book.proofs.BookLaws.{Joined}
use Rattle.book.proofs.join.Given as goal

abbrev pub invariant-loop-i : goal.invariant-loop-i
invariant-loop-i l = Joined l.first l.second l.book l.i
