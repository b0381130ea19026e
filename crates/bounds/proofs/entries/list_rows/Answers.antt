-- `list_rows` lists each row in turn: the invariant says so of the rows passed.
-- Assumes nothing.
use native.Mathlib.Omega.{arith}
use Rattle.bounds.proofs.ListRowsLaws.{listing_none, listing_adds, own_added, own_left, listing_more, listing_all}
use Rattle.bounds.proofs.entries.list_rows.Goals as goal

pub loop-i-init : goal.loop-i-init
loop-i-init c = listing_none c.requires

pub list_row-requires : goal.list_row-requires
list_row-requires c =
    let lowers = rw c.from-m.ensures at c.class_bands-lower.ensures in
    let uppers = rw c.from-m.ensures at c.class_bands-upper.ensures in
    rw (c.from-n.ensures, c.from-m.ensures) (listing_adds c.requires c.loop-i.i c.loop-i.invariant lowers uppers (omega arith))

pub loop-i-preserved : goal.loop-i-preserved
loop-i-preserved c =
    let able = c.requires in
    let i = c.loop-i.i in
    let w = c.loop-i.invariant in
    let lowers = rw c.from-m.ensures at c.class_bands-lower.ensures in
    let uppers = rw c.from-m.ensures at c.class_bands-upper.ensures in
    let row = rw (c.from-n.ensures, c.from-m.ensures) at c.list_row.ensures.entries in
    let left = rw (c.from-n.ensures, c.from-m.ensures) at c.list_row.ensures.slack in
    listing_more able i w c.list_row.result (omega arith)
    (own_added able i w lowers uppers row) (own_left able i w lowers uppers c.list_row.result left)

pub returns : goal.returns
returns c = listing_all c.requires c.loop-i.i c.loop-i.invariant (omega arith)
