-- `pooled_share_sheet` meets its contract: the cause of reading, the number over a book of another length, or what the pooled share sheet answers and leaves.
-- Assumes nothing.
use Rattle.std.proofs.Common.{refl, ◌∙◌}
use Rattle.scheme.proofs.Laws.Number.{cause_some, passed_on}
use Rattle.joguyvi_spec.proofs.Laws.Buffers.{padded_first}
use Rattle.joguyvi_years.proofs.BooksLaws.{pooled_stopped, pooled_out, pooled_passed}
use Rattle.joguyvi_years.proofs.books.pooled_share_sheet.Goals as goal

pub returns-in_err-scheme : goal.returns-in_err-scheme
returns-in_err-scheme c =
    let a = c.args in
    rw (passed_on _ _ c.from_residual.ensures) (pooled_stopped a.bytes.now a.book.now a.year a.low.now a.high.now c.in_err-scheme.ensures (cause_some _))

pub returns-then-book-ne32 : goal.returns-then-book-ne32
returns-then-book-ne32 c =
    let a = c.args in
    pooled_out a.bytes.now a.book.now a.year a.low.now a.high.now c.in_ok-scheme.ensures refl
    (c.padded_32-counts.ensures ∙ padded_first a.book.now) c.if-book-ne32.true c.check_empty_sheet.ensures

pub returns : goal.returns
returns c =
    let a = c.args in
    let w = c.pooled_share_sheet.ensures in
    pooled_passed a.bytes.now a.book.now a.year a.low.now a.high.now c.in_ok-scheme.ensures refl
    (c.padded_32-counts.ensures ∙ padded_first a.book.now) c.if-book-ne32.false (w.answer, (w.lows, (w.highs, w.promise)))
