-- `Text::put_refused_line` meets its contract: the word, the number, the line's end.
use Rattle.sheet_spec.specs.Text.{field, newline}
use Rattle.sheet_spec.specs.Sheet.{refused_line}
use Rattle.sheet_text.specs.Laws.Put.{space_first}
use Rattle.sheet_text.specs.Laws.Text.{wrote_then, fits_next}
use Rattle.sheet_text.proofs.text.Text.put_refused_line.Goals as goal

pub put_word-requires : goal.put_word-requires
unfolding refused_line
put_word-requires c = space_first (field c.args.number) (space_first newline c.requires)

pub put_field-requires : goal.put_field-requires
unfolding refused_line
put_field-requires c = rw c.from.ensures (fits_next c.put_word.ensures (space_first newline c.requires))

pub put_newline-requires : goal.put_newline-requires
unfolding refused_line
put_newline-requires c = fits_next (wrote_then c.put_word.ensures (rw c.from.ensures at c.put_field.ensures)) c.requires

pub returns : goal.returns
unfolding refused_line
returns c = wrote_then (wrote_then c.put_word.ensures (rw c.from.ensures at c.put_field.ensures)) c.put_newline.ensures
