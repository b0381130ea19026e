-- `product` meets its contract: the first i rows are the product's.
use mathlib.Core.Path.{◌∙◌}
use borrow.Author.Rules.{rules}
use native.Mathlib.Omega.{arith}
use Rattle.scheme.proofs.Laws.Filled.{fill_more}
use Rattle.mixing.specs.Laws.Bits.{union_front}
use Rattle.mixing.proofs.RowLaws.{lent_none, lent_all}
use Rattle.mixing.proofs.matrix.Matrix.product.Goals as goal

pub loop-i-init : goal.loop-i-init
loop-i-init c = lent_none c.args.self.now.few

pub loop-i-preserved : goal.loop-i-preserved
loop-i-preserved c =
    let m = c.args.self.now in
    fill_more m.n _ c.loop-i.i c.loop-i.row-items _ (omega arith) (c.union.ensures ∙ union_front m.n _ c.args.other.now.rows (search rules)) c.loop-i.invariant

pub returns-clause-rows : goal.returns-clause-rows
returns-clause-rows c = lent_all c.args.self.now.few (omega arith) c.loop-i.invariant
