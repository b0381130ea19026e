-- `join` meets its contract: the joined counts before i are written, and within the limit.
-- Assumes nothing.
use Rattle.std.proofs.Common.{◌+◌, ap₂, arith}
use Rattle.book.proofs.BookLaws.{joined_declined, joined_answered}
use Rattle.book.proofs.join.Goals as goal

pub returns-then-chambers-gt-MOST_COUNT : goal.returns-then-chambers-gt-MOST_COUNT
returns-then-chambers-gt-MOST_COUNT c = joined_declined c.loop-i.invariant (omega arith) (ap₂ ◌+◌ c.from.ensures c.from-in-loop-i.ensures) c.if-chambers-gt-MOST_COUNT.true

pub returns : goal.returns
returns c = joined_answered c.loop-i.invariant (omega arith)
