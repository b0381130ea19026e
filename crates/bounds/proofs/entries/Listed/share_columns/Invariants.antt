-- `share_columns` writes the shares class by class.
-- Assumes nothing.
use Rattle.bounds.specs.Sheets.{ShareColumnsPost}
use Rattle.bounds.proofs.entries.Listed.share_columns.Given as goal

abbrev pub invariant-loop-j : goal.invariant-loop-j
invariant-loop-j l = ShareColumnsPost l.high l.self.scheme l.out l.j
