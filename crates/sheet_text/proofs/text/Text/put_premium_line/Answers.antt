-- `Text::put_premium_line` meets its contract: each part stands after the last.
use Rattle.sheet_spec.specs.Text.{field, premium_word}
use Rattle.sheet_spec.specs.Sheet.{premium_line}
use Rattle.sheet_text.specs.Laws.Put.{space_first}
use Rattle.sheet_text.specs.Laws.Text.{wrote_then, fits_next, wrote_as}
use Rattle.sheet_text.specs.Laws.Lines.{ends_text, premium_head, ends_space, ends_put}
use Rattle.sheet_text.proofs.text.Text.put_premium_line.Goals as goal

pub put_word-requires : goal.put_word-requires
unfolding premium_line
put_word-requires c =
    let start = c.args in
    space_first (field start.year)
    (space_first premium_word
    (space_first (ends_text start.figure.low start.figure.high)
    (ends_space (premium_head start.year) start.figure.low start.figure.high c.requires)))

pub put_field-requires : goal.put_field-requires
unfolding premium_line
put_field-requires c =
    fits_next c.put_word.ensures
    (space_first premium_word
    (space_first (ends_text c.args.figure.low c.args.figure.high)
    (ends_space (premium_head c.args.year) c.args.figure.low c.args.figure.high c.requires)))

pub put_word-requires-2 : goal.put_word-requires-2
unfolding premium_line
put_word-requires-2 c =
    fits_next (wrote_then c.put_word.ensures c.put_field.ensures)
    (space_first (ends_text c.args.figure.low c.args.figure.high)
    (ends_space (premium_head c.args.year) c.args.figure.low c.args.figure.high c.requires))

pub put_ends-requires : goal.put_ends-requires
unfolding premium_line
put_ends-requires c =
    fits_next (wrote_then (wrote_then c.put_word.ensures c.put_field.ensures) c.put_word-2.ensures)
    (ends_space (premium_head c.args.year) c.args.figure.low c.args.figure.high c.requires)

pub returns : goal.returns
unfolding premium_line
returns c =
    wrote_as (ends_put (premium_head c.args.year) c.args.figure.low c.args.figure.high)
    (wrote_then (wrote_then (wrote_then c.put_word.ensures c.put_field.ensures) c.put_word-2.ensures)
    c.put_ends.ensures)
