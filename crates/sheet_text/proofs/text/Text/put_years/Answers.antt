-- `Text::put_years` meets its contract: the lines of t years stand at the head of the loop.
use native.Mathlib.Omega.{arith}
use Rattle.sheet_text.specs.Tables.{year_by}
use Rattle.sheet_text.specs.Laws.Put.{joined_space}
use Rattle.sheet_text.specs.Laws.Text.{wrote_none, wrote_more}
use Rattle.sheet_text.specs.Laws.Years.{year_below}
use Rattle.sheet_text.proofs.text.Text.put_years.Goals as goal

pub loop-t-init : goal.loop-t-init
loop-t-init c = wrote_none _ _

pub put_year-requires : goal.put_year-requires
put_year-requires c = (
  joined_space (year_by c.args.tables.now) c.loop-t.t c.args.n (omega arith) c.loop-t.invariant.put c.requires.0,
  record {
    classes = c.requires.1.classes;
    low = omega (arith, c.requires.1.low, year_below c.args.tables.now.classes c.args.n c.loop-t.t (omega arith));
    high = omega (arith, c.requires.1.high, year_below c.args.tables.now.classes c.args.n c.loop-t.t (omega arith));
  },
)

pub loop-t-preserved : goal.loop-t-preserved
loop-t-preserved c = wrote_more (year_by c.args.tables.now) c.loop-t.t c.loop-t.invariant c.put_year.ensures
