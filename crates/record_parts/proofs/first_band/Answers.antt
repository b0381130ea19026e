-- `first_band` answers what `next` answers of the reader that `open` gave: the part that it was opened over has the bands of the bytes.
use Rattle.std.proofs.Common.{ap, ◌∙◌}
use Rattle.record_spec.specs.Reader.{band_at, open_part}
use Rattle.record_parts.specs.Laws.Reader.{band_answered, part_answer}
use Rattle.record_parts.proofs.first_band.Goals as goal

pub returns : goal.returns
returns c =
    let bytes = c.args.bytes.now in
    let opened = c.open.ensures in
    band_answered bytes 0
    (c.next.ensures.steps.0.answer ∙ ap (λ l. band_at l c.open.result.reader.at) opened.1 ∙ ap (band_at (open_part bytes)) opened.3 ∙ part_answer bytes 0)
