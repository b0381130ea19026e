-- `join` meets its contract: both books padded, joined and put into the buffer.
-- Assumes nothing.
use Rattle.std.proofs.Common.{◌∙◌}
use Rattle.joguyvi_spec.proofs.Laws.Buffers.{padded_first}
use Rattle.joguyvi_years.proofs.BooksLaws.{join_call}
use Rattle.joguyvi_years.proofs.books.join.Goals as goal

pub returns : goal.returns
returns c =
    let a = c.args in
    join_call a.first.now a.second.now a.out.now (c.padded_32.ensures ∙ padded_first a.first.now) (c.padded_32-2.ensures ∙ padded_first a.second.now)
    c.join-joined.ensures c.put_book.ensures
