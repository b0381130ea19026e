-- `Text::put_ends` meets its contract: each part stands after the last.
use Rattle.sheet_spec.specs.Text.{newline}
use Rattle.sheet_text.specs.Laws.Put.{space_first}
use Rattle.sheet_text.specs.Laws.Text.{wrote_then, fits_next}
use Rattle.sheet_text.proofs.text.Text.put_ends.Goals as goal

pub put_field-requires-2 : goal.put_field-requires-2
put_field-requires-2 c = fits_next c.put_field.ensures (space_first newline c.requires)

pub put_newline-requires : goal.put_newline-requires
put_newline-requires c = fits_next (wrote_then c.put_field.ensures c.put_field-2.ensures) c.requires

pub returns : goal.returns
returns c = wrote_then (wrote_then c.put_field.ensures c.put_field-2.ensures) c.put_newline.ensures
