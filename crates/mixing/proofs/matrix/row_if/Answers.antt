-- `row_if` meets its contract: bit k of the set is set, or not.
use mathlib.Core.Path.{sym}
use borrow.Author.Tests.{eq-eqb, ne_eqb}
use Rattle.setchain.proofs.Laws.Sums.{only_if_true, only_if_false}
use Rattle.mixing.proofs.matrix.row_if.Goals as goal

pub returns-then-set-k-eq1 : goal.returns-then-set-k-eq1
returns-then-set-k-eq1 c = sym (only_if_true _ _ (eq-eqb _ 1 c.if-set-k-eq1.true))

pub returns-else-set-k-eq1 : goal.returns-else-set-k-eq1
returns-else-set-k-eq1 c = sym (only_if_false _ _ (ne_eqb _ 1 c.if-set-k-eq1.false))
