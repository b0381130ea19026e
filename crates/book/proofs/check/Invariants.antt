-- `check` meets its contract: the counts yielded so far are within the limit, and summed.
-- Assumes nothing.
use Rattle.std.proofs.Common.{length}
use Rattle.book.proofs.BookLaws.{Counted}
use Rattle.book.proofs.check.Given as goal

abbrev pub invariant-loop-count : goal.invariant-loop-count
invariant-loop-count l = Counted l.fn.book l.fn.classes (length l.yielded) l.chambers
