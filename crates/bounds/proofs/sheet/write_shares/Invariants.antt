-- `write_shares` lists the scheme's entries and writes the slice class by class.
-- Assumes nothing.
use Rattle.order.proofs.Laws.Written.{Written}
use Rattle.bounds.specs.Sheets.{share_of}
use Rattle.bounds.proofs.sheet.write_shares.Given as goal

abbrev pub invariant-loop-j : goal.invariant-loop-j
invariant-loop-j l = Written l.fn.scheme.classes (share_of l.high l.fn.scheme l.year) l.out l.j
