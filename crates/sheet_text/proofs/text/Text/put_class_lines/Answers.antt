-- `Text::put_class_lines` meets its contract: the lines of j classes stand at the head of the loop.
use native.Mathlib.Omega.{arith}
use Rattle.sheet_text.specs.Tabled.{class_text}
use Rattle.sheet_text.specs.Laws.Put.{joined_space}
use Rattle.sheet_text.specs.Laws.Text.{wrote_none, wrote_more}
use Rattle.sheet_text.proofs.text.Text.put_class_lines.Goals as goal

pub loop-j-init : goal.loop-j-init
loop-j-init c = wrote_none _ _

pub put_class_line-requires : goal.put_class_line-requires
put_class_line-requires c = rw c.figure.ensures (
  joined_space (class_text c.args.tables.now.low.now c.args.tables.now.high.now c.args.year c.args.base)
      c.loop-j.j c.args.tables.now.classes (omega arith) c.loop-j.invariant.put c.requires.0,
  omega (arith, c.requires.1.classes),
)

pub loop-j-preserved : goal.loop-j-preserved
loop-j-preserved c =
    wrote_more (class_text c.args.tables.now.low.now c.args.tables.now.high.now c.args.year c.args.base)
    c.loop-j.j c.loop-j.invariant (rw c.figure.ensures at c.put_class_line.ensures)
