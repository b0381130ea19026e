-- `Text::put_scheme_line` meets its contract: each part stands after the last.
use Rattle.sheet_spec.specs.Text.{field, newline}
use Rattle.sheet_spec.specs.Sheet.{scheme_line}
use Rattle.sheet_text.specs.Laws.Put.{space_first}
use Rattle.sheet_text.specs.Laws.Text.{wrote_then, fits_next}
use Rattle.sheet_text.proofs.text.Text.put_scheme_line.Goals as goal

pub put_word-requires : goal.put_word-requires
unfolding scheme_line
put_word-requires c =
    let given = c.args in
    space_first (field given.classes)
    (space_first (field given.columns)
    (space_first (field given.start) (space_first (field given.horizon) (space_first newline c.requires))))

pub put_field-requires : goal.put_field-requires
unfolding scheme_line
put_field-requires c =
    let given = c.args in
    rw c.from.ensures
    (fits_next c.put_word.ensures (space_first (field given.columns) (space_first (field given.start) (space_first (field given.horizon) (space_first newline c.requires)))))

pub put_field-requires-2 : goal.put_field-requires-2
unfolding scheme_line
put_field-requires-2 c =
    let given = c.args in
    rw c.from-2.ensures
    (fits_next (wrote_then c.put_word.ensures (rw c.from.ensures at c.put_field.ensures))
    (space_first (field given.start) (space_first (field given.horizon) (space_first newline c.requires))))

pub put_field-requires-3 : goal.put_field-requires-3
unfolding scheme_line
put_field-requires-3 c =
    let given = c.args in
    rw c.from-3.ensures
    (fits_next
    (wrote_then (wrote_then c.put_word.ensures (rw c.from.ensures at c.put_field.ensures)) (rw c.from-2.ensures at c.put_field-2.ensures))
    (space_first (field given.horizon) (space_first newline c.requires)))

pub put_field-requires-4 : goal.put_field-requires-4
unfolding scheme_line
put_field-requires-4 c =
    rw c.from-4.ensures
    (fits_next
    (wrote_then
    (wrote_then (wrote_then c.put_word.ensures (rw c.from.ensures at c.put_field.ensures)) (rw c.from-2.ensures at c.put_field-2.ensures))
    (rw c.from-3.ensures at c.put_field-3.ensures))
    (space_first newline c.requires))

pub put_newline-requires : goal.put_newline-requires
unfolding scheme_line
put_newline-requires c =
    fits_next
    (wrote_then
    (wrote_then
    (wrote_then (wrote_then c.put_word.ensures (rw c.from.ensures at c.put_field.ensures)) (rw c.from-2.ensures at c.put_field-2.ensures))
    (rw c.from-3.ensures at c.put_field-3.ensures))
    (rw c.from-4.ensures at c.put_field-4.ensures))
    c.requires

pub returns : goal.returns
unfolding scheme_line
returns c =
    wrote_then
    (wrote_then
    (wrote_then
    (wrote_then (wrote_then c.put_word.ensures (rw c.from.ensures at c.put_field.ensures)) (rw c.from-2.ensures at c.put_field-2.ensures))
    (rw c.from-3.ensures at c.put_field-3.ensures))
    (rw c.from-4.ensures at c.put_field-4.ensures))
    c.put_newline.ensures
