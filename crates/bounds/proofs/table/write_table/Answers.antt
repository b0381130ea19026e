-- `write_table` lists the scheme's entries and writes the shares, then the mean's column, then the total at the last place.
-- Assumes nothing.
use native.Mathlib.Omega.{arith}
use Rattle.bounds.proofs.TableLaws.{column_stored, total_ready, table_made}
use Rattle.bounds.proofs.ListSchemeLaws.{lists_empty}
use Rattle.bounds.proofs.table.write_table.Goals as goal

pub of-listed-requires : goal.of-listed-requires
of-listed-requires c = (c.requires.accepted, lists_empty)

pub series-total-requires : goal.series-total-requires
series-total-requires c = rw (c.of-listed.ensures, c.from-years.ensures) (total_ready c.args.scheme c.requires.accepted c.in_tenths-premiums.ensures)

pub returns : goal.returns
returns c =
    let s = c.args.scheme in
    let columns = rw c.of-listed.ensures at c.share_columns.ensures in
    let column = column_stored s s.classes c.share_columns.new.out _ (omega arith) columns.size (rw (c.of-listed.ensures, c.from-mean.ensures) at c.mean_column.ensures) in
    rw c.from-mean.ensures
    (table_made s c.requires.accepted c.in_tenths-premiums.ensures columns column
    c.round.result (rw (c.of-listed.ensures, c.from-years.ensures) at c.series-total.ensures.figure) c.round.ensures)
