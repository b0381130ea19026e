-- `ready::rule_entry` meets its contract: 0 past the classes and past the columns, and the class moved to.
-- Assumes nothing.
use mathlib.Core.Path.{sym, ◌∙◌}
use native.Mathlib.Omega.{arith}
use Rattle.scheme.proofs.Laws.Stored.{up_to_below, up_to_past}
use Rattle.ready.proofs.rule_entry.Goals as goal

pub returns-then-s-i : goal.returns-then-s-i
returns-then-s-i c = sym (up_to_past _ _ _ (omega arith))

pub returns-then-from-k : goal.returns-then-from-k
returns-then-from-k c = sym (up_to_below _ _ _ (omega arith) ∙ up_to_past _ _ _ (omega arith))

pub returns : goal.returns
returns c =
    rw (c.classes_of-s.ensures, c.factor_of.ensures) at c.moved.ensures
    ∙ sym (up_to_below _ _ _ (omega arith) ∙ up_to_below _ _ _ (omega arith))
