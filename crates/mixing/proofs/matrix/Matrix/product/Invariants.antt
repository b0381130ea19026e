-- `product` meets its contract: the first i rows are the product's.
use Rattle.setchain.specs.Sums.{at}
use Rattle.scheme.proofs.Laws.Filled.{Filled}
use Rattle.mixing.specs.Bits.{union_of}
use Rattle.mixing.proofs.matrix.Matrix.product.Given as goal

abbrev pub invariant-loop-i : goal.invariant-loop-i
invariant-loop-i l = Filled l.self.n (λ k. union_of l.self.n (at l.self.rows k) (at l.other.rows)) l.i l.row-items
