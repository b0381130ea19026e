-- `fill_state` takes the entries in turn: what each row has left and its sum tell of those taken.
-- Assumes nothing.
use native.Mathlib.Omega.{arith}
use Rattle.std.proofs.Common.{rules}
use Rattle.bounds.proofs.FillStateLaws.{entries_none}
use Rattle.bounds.proofs.JoinedLaws.{row_stored, entry_small, entry_fits, entry_taken}
use Rattle.bounds.proofs.year.fill_state.Goals as goal

pub loop-e-init : goal.loop-e-init
loop-e-init c = entries_none c.requires

pub bounds-left-i : goal.bounds-left-i
bounds-left-i c = omega (arith, row_stored c.args.entries.now (search rules) (search rules) (search rules) c.requires c.loop-e.invariant (omega arith), c.loop-e.auto.left)

pub overflow_add-entries : goal.overflow_add-entries
overflow_add-entries c = omega (arith, entry_small c.args.entries.now (search rules) (search rules) (search rules) c.requires c.loop-e.invariant (omega arith), c.min-given.ensures)

pub bounds-sums-i : goal.bounds-sums-i
bounds-sums-i c = omega (arith, row_stored c.args.entries.now (search rules) (search rules) (search rules) c.requires c.loop-e.invariant (omega arith), c.requires.size, c.loop-e.auto.sums)

pub bounds-sums-i-in-loop-e : goal.bounds-sums-i-in-loop-e
bounds-sums-i-in-loop-e c = omega (arith, row_stored c.args.entries.now (search rules) (search rules) (search rules) c.requires c.loop-e.invariant (omega arith), c.requires.size, c.loop-e.auto.sums)

pub overflow_mul-sums : goal.overflow_mul-sums
overflow_mul-sums c = omega (arith, entry_fits c.args.entries.now (search rules) (search rules) (search rules) c.requires c.loop-e.invariant (omega arith) c.min-given.ensures c.from.ensures)

pub overflow_add-sums : goal.overflow_add-sums
overflow_add-sums c = omega (arith, entry_fits c.args.entries.now (search rules) (search rules) (search rules) c.requires c.loop-e.invariant (omega arith) c.min-given.ensures c.from.ensures)

pub loop-e-preserved : goal.loop-e-preserved
loop-e-preserved c = entry_taken c.args.entries.now (search rules) (search rules) (search rules) c.requires c.loop-e.invariant (omega arith) c.min-given.ensures c.from.ensures
