-- `class_edges` meets its contract: the front of the tight lower row.
use Rattle.std.proofs.Common.{arith}
use Rattle.scheme.proofs.Laws.Number.{cause_some}
use Rattle.mixing.specs.Laws.Edges.{classes_few, row_given, row_edges}
use Rattle.mixing.proofs.edges.class_edges.Goals as goal

pub unreachable-requires : goal.unreachable-requires
unreachable-requires c =
    let pre = c.requires in
    cause_some _ (row_given c.args.scheme c.args.class pre.0 pre.1 pre.2 c.in_default.ensures)

pub shared_ref_as_front-entries_above_zero : goal.shared_ref_as_front-entries_above_zero
shared_ref_as_front-entries_above_zero c = omega (arith, classes_few c.args.scheme c.requires.0)

pub entries_above_zero-requires : goal.entries_above_zero-requires
entries_above_zero-requires c = omega (arith, classes_few c.args.scheme c.requires.0)

pub returns : goal.returns
returns c =
    let pre = c.requires in
    row_edges c.args.scheme c.args.class pre.0 pre.1 pre.2 c.in-Ok.ensures (rw c.from-n.ensures at c.entries_above_zero.ensures)
