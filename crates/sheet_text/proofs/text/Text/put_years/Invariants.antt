-- `Text::put_years` meets its contract: the lines of t years stand at the head of the loop.
use Rattle.sheet_text.specs.Text.{Wrote}
use Rattle.sheet_text.specs.Tables.{years_by}
use Rattle.sheet_text.proofs.text.Text.put_years.Given as goal

abbrev pub invariant-loop-t : goal.invariant-loop-t
invariant-loop-t l = Wrote l.initial.self (years_by l.tables l.t) l.self
