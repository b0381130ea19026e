-- `pooled_share` meets its contract: the cause of reading, or the pooled answer over the lent book put into the buffer, with its promise.
-- Assumes nothing.
use Rattle.std.proofs.Common.{refl, ◌∙◌}
use Rattle.scheme.proofs.Laws.Number.{cause_some, passed_on}
use Rattle.bounds_spec.specs.Pooled.{Figure}
use Rattle.joguyvi_spec.proofs.Laws.Buffers.{padded_first}
use Rattle.joguyvi_years.proofs.LibLaws.{bounds_stopped, bounds_passed}
use Rattle.joguyvi_years.proofs.BooksLaws.{pooled_lent}
use Rattle.joguyvi_years.proofs.books.pooled_share.Goals as goal

pub returns-in_err-read : goal.returns-in_err-read
returns-in_err-read c =
    rw (passed_on _ _ c.from_residual.ensures) (bounds_stopped c.args.bytes.now c.args.out.now c.in_err-read.ensures (cause_some _))

pub returns : goal.returns
returns c =
    let a = c.args in
    let w = c.pooled_share-pooled.ensures in
    bounds_passed a.bytes.now a.out.now c.in_ok-read.ensures refl
    (pooled_lent _ a.book.now (Figure.share a.class) a.year (c.padded_32.ensures ∙ padded_first a.book.now) (w.answer, w.promise) c.lent_answer.ensures)
    c.put_bounds.ensures
