-- `ready::premium_entry` meets its contract: the product of base and tenths is small, 0 is stored past the classes.
-- Assumes nothing.
use mathlib.Core.Path.{sym, ◌∙◌}
use native.Mathlib.Omega.{arith}
use Rattle.scheme.proofs.Laws.Stored.{up_to_below, up_to_past}
use Rattle.ready_spec.proofs.Laws.{product_most}
use Rattle.ready.proofs.premium_entry.Goals as goal

pub returns-then-s-i : goal.returns-then-s-i
returns-then-s-i c = sym (up_to_past _ _ _ (omega arith))

pub overflow_mul-base : goal.overflow_mul-base
overflow_mul-base c =
    let most = product_most c.args.number _ c.args.i c.requires in
    rw c.tenths.ensures (omega arith)

pub thousandth-requires : goal.thousandth-requires
thousandth-requires c = rw c.tenths.ensures (product_most c.args.number _ c.args.i c.requires)

pub returns : goal.returns
returns c = rw c.tenths.ensures at c.thousandth.ensures ∙ sym (up_to_below _ _ _ (omega arith))
