-- `Text::put_sheet` meets its contract: no cause stands against the tables, so both are there.
use Rattle.std.proofs.Common.{◌≡◌, ◌≤◌, ◌∙◌, rules}
use Rattle.scheme.specs.Number.{number_in}
use Rattle.scheme.proofs.Laws.Number.{is_passed}
use Rattle.bounds_spec.proofs.Laws.Table.{table_at_most}
use Rattle.sheet_text.specs.Laws.Answer.{table_clear, slice_written}
use Rattle.sheet_text.proofs.text.Text.put_sheet.Goals as goal
use Rattle.sheet_text.proofs.text.Text.put_sheet.Goals.{After-figures}

-- No cause stands against them.
none : (c : After-figures) → number_in c.figures.result ≡ 0
none c =
    let most : c.table_size-size.result ≤ 3334 = rw c.table_size-size.ensures (table_at_most c.args.scheme c.requires.1) in
    c.figures.ensures.answer ∙ table_clear c.args.scheme _ _ c.requires.1 (search (rules, most)) (search (rules, most))

pub unwrap-requires : goal.unwrap-requires
unwrap-requires c = is_passed _ (none (goal.at.unwrap-requires c).After-figures)

pub put_whole-requires : goal.put_whole-requires
put_whole-requires c =
    let clear = none (goal.at.put_whole-requires c).After-figures in (
      c.requires.0,
      c.requires.1.size,
      record {
        classes = c.from-classes.ensures;
        low = slice_written _ clear c.figures.ensures.lows;
        high = slice_written _ clear c.figures.ensures.highs;
      },
    )
