-- `edges` meets its contract: the first i rows are those of the scheme's edges.
use Prim.Native.Nat.{ℕ, ◌+◌, ◌-◌, ◌≤◌}
use mathlib.Core.Path.{◌≡◌, ap, sym, ◌∙◌}
use native.Mathlib.Omega.{arith}
use Rattle.scheme.proofs.Laws.Filled.{fill_more}
use Rattle.rows.specs.Laws.Front.{front_lent}
use Rattle.mixing_spec.specs.MixingAnswer.{scheme_edges}
use Rattle.mixing.specs.Bits.{bits_of}
use Rattle.mixing.specs.Laws.Edges.{classes_few}
use Rattle.mixing.proofs.RowLaws.{lent_none, lent_all}
use Rattle.mixing.proofs.edges.edges.Goals as goal

pub slice_bounds-rows-end : goal.slice_bounds-rows-end
slice_bounds-rows-end c = omega (arith, classes_few c.args.scheme c.requires)

pub slice_bounds-row-items-end : goal.slice_bounds-row-items-end
slice_bounds-row-items-end c = let few : c.from-n.result ≤ 32 = omega (arith, classes_few c.args.scheme c.requires) in sym (front_lent _ few)

pub loop-i-init : goal.loop-i-init
loop-i-init c = let few : c.from-n.result ≤ 32 = omega (arith, classes_few c.args.scheme c.requires) in lent_none few

pub loop-i-preserved : goal.loop-i-preserved
loop-i-preserved c =
    let place : c.loop-i.i + 1 - 1 ≡ c.loop-i.i = omega arith in
    let row : ℕ → ℕ = λ k. bits_of c.args.scheme.classes (scheme_edges c.args.scheme k) in
    fill_more c.from-n.result _ c.loop-i.i c.loop-i.row-items _ (omega arith) (c.class_edges.ensures ∙ ap row place) c.loop-i.invariant

pub returns : goal.returns
returns c =
    let few : c.from-n.result ≤ 32 = omega (arith, classes_few c.args.scheme c.requires) in
    let filled = lent_all few (omega arith) c.loop-i.invariant in
    record { n = c.from-n.ensures; rows = record { rows = λ i l. filled.done i (omega (arith, l)) } }
