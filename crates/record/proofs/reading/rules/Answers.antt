-- `reading::rules` meets its contract: the rows of the classes passed are read at the head of the loop.
use Prim.Native.Nat.{suc, ◌≤◌, ◌+◌, ◌*◌}
use mathlib.Core.Path.{◌≡◌, ◌∙◌}
use native.Mathlib.Omega.{arith}
use native.Mathlib.Nat.{mul-le-mul_right}
use lib.ListN.{length, take, drop}
use Rattle.scheme.specs.Access.{CELL_PLACES, CELL_STRIDE}
use Rattle.scheme.proofs.Laws.Tab.{length_tab}
use Rattle.big_endian_spec.proofs.Laws.{part_held}
use Rattle.record.specs.Laws.Lists.{part_length, part_at}
use Rattle.record.specs.Laws.Stored.{rows_none, rows_more}
use Rattle.record.proofs.reading.rules.Goals as goal

pub loop-i-init : goal.loop-i-init
loop-i-init c = rows_none _ _

pub loop-i-preserved : goal.loop-i-preserved
loop-i-preserved c =
    let start = c.args in
    let turn = c.loop-i in
    let room : start.from + turn.i * start.m + start.m ≤ length start.bytes.now = let more : suc turn.i ≤ start.s = omega arith in
    omega (arith, mul-le-mul_right start.m more) in
    let size : length turn.rules ≡ CELL_PLACES = rw turn.invariant (length_tab CELL_PLACES _) in
    let at = start.from + turn.i * start.m in
    c.copy.ensures
    ∙ part_held start.m start.bytes.now at turn.rules (turn.i * CELL_STRIDE) room (omega arith)
    ∙ rows_more turn.i start.m _ turn.rules (take start.m (drop at start.bytes.now)) (omega arith) (omega arith)
    (part_length start.m at start.bytes.now room)
    (λ k lt. part_at start.m at start.bytes.now k lt)
    turn.invariant
