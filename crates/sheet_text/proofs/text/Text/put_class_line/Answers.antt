-- `Text::put_class_line` meets its contract: each part stands after the last.
use Rattle.sheet_spec.specs.Text.{field, class_word}
use Prim.Native.Nat.{suc}
use Rattle.sheet_spec.specs.Sheet.{class_line}
use Rattle.sheet_text.specs.Laws.Put.{space_first}
use Rattle.sheet_text.specs.Laws.Text.{wrote_then, fits_next, wrote_as}
use Rattle.sheet_text.specs.Laws.Lines.{ends_text, class_head, ends_space, ends_put, class_field_space, class_field_put}
use Rattle.sheet_text.proofs.text.Text.put_class_line.Goals as goal

pub put_word-requires : goal.put_word-requires
unfolding class_line
put_word-requires c =
    let start = c.args in
    space_first (field start.year)
    (space_first class_word
    (space_first (field (suc start.j))
    (space_first (ends_text start.figure.low start.figure.high)
    (ends_space (class_head start.year start.j) start.figure.low start.figure.high c.requires.0))))

pub put_field-requires : goal.put_field-requires
unfolding class_line
put_field-requires c =
    fits_next c.put_word.ensures
    (space_first class_word
    (space_first (field (suc c.args.j))
    (space_first (ends_text c.args.figure.low c.args.figure.high)
    (ends_space (class_head c.args.year c.args.j) c.args.figure.low c.args.figure.high c.requires.0))))

pub put_word-requires-2 : goal.put_word-requires-2
unfolding class_line
put_word-requires-2 c =
    fits_next (wrote_then c.put_word.ensures c.put_field.ensures)
    (space_first (field (suc c.args.j))
    (space_first (ends_text c.args.figure.low c.args.figure.high)
    (ends_space (class_head c.args.year c.args.j) c.args.figure.low c.args.figure.high c.requires.0)))

pub put_field-requires-2 : goal.put_field-requires-2
unfolding class_line
put_field-requires-2 c =
    class_field_space c.args.j
    (fits_next (wrote_then (wrote_then c.put_word.ensures c.put_field.ensures) c.put_word-2.ensures)
    (space_first (ends_text c.args.figure.low c.args.figure.high)
    (ends_space (class_head c.args.year c.args.j) c.args.figure.low c.args.figure.high c.requires.0)))

pub put_ends-requires : goal.put_ends-requires
unfolding class_line
put_ends-requires c =
    fits_next
    (wrote_then (wrote_then (wrote_then c.put_word.ensures c.put_field.ensures) c.put_word-2.ensures)
    (wrote_as (class_field_put c.args.j) c.put_field-2.ensures))
    (ends_space (class_head c.args.year c.args.j) c.args.figure.low c.args.figure.high c.requires.0)

pub returns : goal.returns
unfolding class_line
returns c =
    wrote_as (ends_put (class_head c.args.year c.args.j) c.args.figure.low c.args.figure.high)
    (wrote_then
    (wrote_then (wrote_then (wrote_then c.put_word.ensures c.put_field.ensures) c.put_word-2.ensures)
    (wrote_as (class_field_put c.args.j) c.put_field-2.ensures))
    c.put_ends.ensures)
