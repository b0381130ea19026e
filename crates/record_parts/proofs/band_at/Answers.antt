-- `band_at` meets its contract: no more, or the band's 8 bytes, which lie within the record.
use Rattle.std.specs.Prelude.{ℕ, ◌+◌, ◌*◌, ◌≤◌, ◌≡◌, true, List, length}
use Rattle.std.proofs.Common.{ap, sym, ◌∙◌, arith}
use Rattle.big_endian_spec.specs.Numbers.{be_at}
use Rattle.big_endian_spec.proofs.Laws.{read_held}
use Rattle.record_spec.specs.Layout.{version_in, layout_of, layout_in, header_length, classes_in, columns_in, band_place, BAND_WIDTH}
use Rattle.record_spec.specs.Reader.{stored}
use Rattle.record_parts.specs.Laws.Reader.{band_answered, band_within, answer_none, answer_ends}
use Rattle.record_parts.proofs.band_at.Goals as goal

-- Where a stored band stands, and that it lies within the bytes, by what was read of them.
placed : (bytes : List ℕ) (column : ℕ) {version header classes columns : ℕ} → true ≡ stored bytes column
    → version ≡ version_in bytes → header ≡ header_length (layout_of version) → classes ≡ classes_in bytes → columns ≡ columns_in bytes
    → let place = band_place (layout_in bytes) (classes_in bytes) (columns_in bytes) column in
    (header + classes * columns + column * BAND_WIDTH ≡ place) × (place + 8 ≤ length bytes) × (length bytes ≤ 455)
placed bytes column is v h s m = let within = band_within bytes column (sym is) in (rw (h, v, s, m), within.0, within.1)

pub returns-then-not-stored : goal.returns-then-not-stored
returns-then-not-stored c = band_answered _ _ (answer_none _ _ (sym c.if-not-stored.ensures))

pub overflow_add-place : goal.overflow_add-place
overflow_add-place c = omega (arith, placed _ _ c.if-not-stored.ensures c.from.ensures c.header_length-header.ensures c.from-classes.ensures c.from-columns.ensures)

pub overflow_add-place-2 : goal.overflow_add-place-2
overflow_add-place-2 c = omega (arith, placed _ _ c.if-not-stored.ensures c.from.ensures c.header_length-header.ensures c.from-classes.ensures c.from-columns.ensures)

pub overflow_add-place-3 : goal.overflow_add-place-3
overflow_add-place-3 c = omega (arith, placed _ _ c.if-not-stored.ensures c.from.ensures c.header_length-header.ensures c.from-classes.ensures c.from-columns.ensures)

pub returns : goal.returns
returns c =
    let bytes = c.args.bytes.now in
    let at = placed bytes c.args.column c.if-not-stored.ensures c.from.ensures c.header_length-header.ensures c.from-classes.ensures c.from-columns.ensures in
    band_answered _ _
    (answer_ends _ _
    (c.number_at-lower.ensures ∙ read_held 4 bytes _ (omega arith) (omega (arith, at)) ∙ ap (be_at 4 bytes) at.0)
    (c.number_at-upper.ensures ∙ read_held 4 bytes _ (omega arith) (omega (arith, at)) ∙ ap (λ p. be_at 4 bytes (p + 4)) at.0)
    (sym c.if-not-stored.ensures))
