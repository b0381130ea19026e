-- `edges` meets its contract: the first i rows are those of the scheme's edges.
use Rattle.scheme.proofs.Laws.Filled.{Filled}
use Rattle.mixing_spec.specs.MixingAnswer.{scheme_edges}
use Rattle.mixing.specs.Bits.{bits_of}
use Rattle.mixing.proofs.edges.edges.Given as goal

abbrev pub invariant-loop-i : goal.invariant-loop-i
invariant-loop-i l = Filled l.n (λ k. bits_of l.scheme.classes (scheme_edges l.scheme k)) l.i l.row-items
