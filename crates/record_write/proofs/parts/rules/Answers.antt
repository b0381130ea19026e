-- `parts::rules` meets its contract: the rows of the classes passed stand at the head of the loop.
use Prim.Native.Nat.{ℕ, suc, ◌≤◌, ◌+◌, ◌*◌}
use mathlib.Core.Path.{◌≡◌, ◌∙◌}
use native.Mathlib.Omega.{arith}
use native.Mathlib.Nat.{mul-le-mul_right}
use borrow.Author.Rules.{rules}
use lib.ListN.{length}
use Rattle.scheme.specs.Access.{CELL_STRIDE, CELL_PLACES}
use Rattle.scheme.proofs.Laws.Tab.{length_tab}
use Rattle.big_endian_spec.proofs.Laws.{part_held}
use Rattle.record_write.specs.Laws.Lists.{tab_part, join_none, join_more}
use Rattle.record_write.proofs.parts.rules.Goals as goal

pub loop-i-init : goal.loop-i-init
loop-i-init c = join_none _ _ _

pub loop-i-preserved : goal.loop-i-preserved
loop-i-preserved c =
    let start = c.args in
    let turn = c.loop-i in
    let m : ℕ = c.from-m.result in
    let cells : length start.scheme.now.rules ≡ CELL_PLACES = search rules in
    let row : turn.i * CELL_STRIDE + m ≤ length start.scheme.now.rules = omega (arith, cells, c.from-s.ensures, c.from-m.ensures) in
    let fits : start.from + c.from-s.result * m ≤ length start.out.now = rw (c.from-s.ensures, c.from-m.ensures) c.requires.1 in
    let room : start.from + turn.i * m + m ≤ length start.out.now = let more : suc turn.i ≤ c.from-s.result = omega arith in
    omega (arith, fits, mul-le-mul_right m more) in
    c.copy.ensures
    ∙ part_held m start.scheme.now.rules (turn.i * CELL_STRIDE) turn.out (start.from + turn.i * m) row (omega (arith, turn.auto.out, room))
    ∙ rw (turn.invariant, ← (tab_part m (turn.i * CELL_STRIDE) start.scheme.now.rules row))
    (join_more m _ start.out.now start.from turn.i (λ j lt. length_tab m _))
