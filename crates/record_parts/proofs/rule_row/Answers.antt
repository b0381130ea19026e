-- `rule_row` meets its contract: an empty part, or the row that lies within the bytes.
use Rattle.std.specs.Prelude.{ℕ, ◌+◌, ◌-◌, ◌*◌, ◌<◌, ◌≡◌, List, length}
use Rattle.std.proofs.Common.{refl, arith}
use Rattle.record_spec.specs.Layout.{version_in, layout_of, layout_in, header_length, row_place, columns_in}
use Rattle.record_spec.specs.RuleRow.{rule_row_cause}
use Rattle.record_parts.specs.Laws.Checked.{passed_none, declined_some}
use Rattle.record_parts.specs.Laws.RuleRow.{row_empty, row_framed, row_within, row_shown}
use Rattle.record_parts.proofs.rule_row.Goals as goal

-- Where the row of a class that is shown stands, and that it lies within the bytes, by what was read of them.
placed : (bytes : List ℕ) (class : ℕ) {version header columns : ℕ} → rule_row_cause bytes class ≡ 0
    → version ≡ version_in bytes → header ≡ header_length (layout_of version) → columns ≡ columns_in bytes
    → let place = row_place (layout_in bytes) (columns_in bytes) (class - 1) in
    (header + (class - 1) * columns ≡ place) × (place + columns < length bytes)
placed bytes class shown v h m = (rw (h, v, m), rw m (row_within bytes class shown))

pub returns-then-is_err : goal.returns-then-is_err
returns-then-is_err c = row_empty _ _ refl (declined_some _ c.if-is_err.ensures.negation c.check_rule_row.ensures)

pub bounds-bytes-4 : goal.bounds-bytes-4
bounds-bytes-4 c = omega (arith, row_framed c.args.bytes.now _ (passed_none _ c.if-is_err.ensures.negation c.check_rule_row.ensures))

pub overflow_add-start : goal.overflow_add-start
overflow_add-start c =
    omega (arith, placed _ _ (passed_none _ c.if-is_err.ensures.negation c.check_rule_row.ensures) c.from.ensures c.header_length-header.ensures c.from-columns.ensures)

pub overflow_add-result : goal.overflow_add-result
overflow_add-result c =
    omega (arith, placed _ _ (passed_none _ c.if-is_err.ensures.negation c.check_rule_row.ensures) c.from.ensures c.header_length-header.ensures c.from-columns.ensures)

pub slice_bounds-result-end-2 : goal.slice_bounds-result-end-2
slice_bounds-result-end-2 c =
    omega (arith, placed _ _ (passed_none _ c.if-is_err.ensures.negation c.check_rule_row.ensures) c.from.ensures c.header_length-header.ensures c.from-columns.ensures)

pub returns : goal.returns
returns c =
    let shown = passed_none _ c.if-is_err.ensures.negation c.check_rule_row.ensures in
    rw c.from-columns.ensures (row_shown _ _ (placed _ _ shown c.from.ensures c.header_length-header.ensures refl).0 shown)
