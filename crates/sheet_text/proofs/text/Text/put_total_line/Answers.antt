-- `Text::put_total_line` meets its contract: the word, then the figures.
use Rattle.sheet_spec.specs.Text.{total_word}
use Rattle.sheet_spec.specs.Sheet.{total_line}
use Rattle.sheet_text.specs.Laws.Put.{space_first}
use Rattle.sheet_text.specs.Laws.Text.{wrote_then, fits_next, wrote_as}
use Rattle.sheet_text.specs.Laws.Lines.{ends_text, ends_space, ends_put}
use Rattle.sheet_text.proofs.text.Text.put_total_line.Goals as goal

pub put_word-requires : goal.put_word-requires
unfolding total_line
put_word-requires c =
    space_first (ends_text c.args.figure.low c.args.figure.high)
    (ends_space total_word c.args.figure.low c.args.figure.high c.requires)

pub put_ends-requires : goal.put_ends-requires
unfolding total_line
put_ends-requires c = fits_next c.put_word.ensures (ends_space total_word c.args.figure.low c.args.figure.high c.requires)

pub returns : goal.returns
unfolding total_line
returns c = wrote_as (ends_put total_word c.args.figure.low c.args.figure.high) (wrote_then c.put_word.ensures c.put_ends.ensures)
