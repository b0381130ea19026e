-- `Text::put_whole` meets its contract: each part stands after the last.
use Prim.Native.Nat.{◌+◌}
use mathlib.Core.Bool.{true, false}
use native.Mathlib.Omega.{arith}
use Rattle.record_spec.specs.Joined.{joined}
use Rattle.sheet_text.specs.Tabled.{year_text}
use Rattle.sheet_text.specs.Laws.Put.{space_first}
use Rattle.sheet_text.specs.Laws.Text.{wrote_then, fits_next, wrote_as}
use Rattle.sheet_text.specs.Laws.Tabled.{total_text, table_size_lem, sheet_space, sheet_put}
use Rattle.sheet_text.proofs.text.Text.put_whole.Goals as goal

pub put_scheme_line-requires : goal.put_scheme_line-requires
put_scheme_line-requires c =
    let tables = c.args.tables.now in
    space_first (joined (c.args.scheme.horizon + 1) (year_text tables.low.now tables.high.now c.args.scheme.classes))
    (space_first (total_text tables.low.now tables.high.now (c.args.scheme.horizon + 1) c.args.scheme.classes)
    (sheet_space _ c.requires.2.low c.requires.2.high c.requires.0))

pub put_years-requires : goal.put_years-requires
put_years-requires c =
    let tables = c.args.tables.now in
    rw (c.from-years.ensures, c.requires.2.classes) (
      fits_next c.put_scheme_line.ensures
          (space_first (total_text tables.low.now tables.high.now (c.args.scheme.horizon + 1) c.args.scheme.classes)
          (sheet_space _ c.requires.2.low c.requires.2.high c.requires.0)),
      record {
        classes = omega (arith, c.requires.2.classes, c.requires.1.classes);
        low = omega (arith, table_size_lem false c.args.scheme c.requires.2.low);
        high = omega (arith, table_size_lem true c.args.scheme c.requires.2.high);
      },
    )

pub figure-requires : goal.figure-requires
figure-requires c =
    rw (c.from-years.ensures, c.requires.2.classes) (
      omega (arith, table_size_lem false c.args.scheme c.requires.2.low),
      omega (arith, table_size_lem true c.args.scheme c.requires.2.high),
    )

pub put_total_line-requires : goal.put_total_line-requires
put_total_line-requires c =
    let years = rw (c.from-years.ensures, c.requires.2.classes) at c.put_years.ensures in
    rw (c.figure.ensures, c.from-years.ensures, c.requires.2.classes)
    (fits_next (wrote_then c.put_scheme_line.ensures years) (sheet_space c.args.scheme c.requires.2.low c.requires.2.high c.requires.0))

pub returns : goal.returns
returns c =
    let years = rw (c.from-years.ensures, c.requires.2.classes) at c.put_years.ensures in
    let total = rw (c.figure.ensures, c.from-years.ensures, c.requires.2.classes) at c.put_total_line.ensures in
    wrote_as (sheet_put c.args.scheme c.requires.2.low c.requires.2.high) (wrote_then (wrote_then c.put_scheme_line.ensures years) total)
