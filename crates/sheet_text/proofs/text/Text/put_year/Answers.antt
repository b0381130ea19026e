-- `Text::put_year` meets its contract: the classes, then the premium.
use native.Mathlib.Omega.{arith}
use Rattle.sheet_text.specs.Laws.Text.{wrote_both}
use Rattle.sheet_text.specs.Laws.Years.{year_space_classes, year_space_premium, year_put}
use Rattle.sheet_text.proofs.text.Text.put_year.Goals as goal

pub put_class_lines-requires : goal.put_class_lines-requires
put_class_lines-requires c = (
  year_space_classes _ _ _ _ c.requires.0,
  record {
    classes = c.requires.1.classes;
    low = omega (arith, c.requires.1.low);
    high = omega (arith, c.requires.1.high);
  },
)

pub put_premium_line-requires : goal.put_premium_line-requires
put_premium_line-requires c = rw c.figure.ensures (year_space_premium _ _ _ _ c.put_class_lines.ensures.put c.requires.0)

pub returns : goal.returns
returns c =
    let tables = c.args.tables.now in
    wrote_both (year_put tables.low.now tables.high.now tables.classes c.args.year) c.put_class_lines.ensures
    (rw c.figure.ensures at c.put_premium_line.ensures)
