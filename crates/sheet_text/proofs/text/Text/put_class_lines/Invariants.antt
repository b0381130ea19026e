-- `Text::put_class_lines` meets its contract: the lines of j classes stand at the head of the loop.
use Rattle.record_spec.specs.Joined.{joined}
use Rattle.sheet_text.specs.Text.{Wrote}
use Rattle.sheet_text.specs.Tabled.{class_text}
use Rattle.sheet_text.proofs.text.Text.put_class_lines.Given as goal

abbrev pub invariant-loop-j : goal.invariant-loop-j
invariant-loop-j l = Wrote l.initial.self (joined l.j (class_text l.tables.low.now l.tables.high.now l.year l.base)) l.self
