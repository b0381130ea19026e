-- `parts::premiums` meets its contract: the premiums passed stand at the head of the loop.
use Prim.Native.Nat.{suc, ◌≤◌, ◌+◌, ◌*◌}
use mathlib.Core.Path.{◌∙◌}
use native.Mathlib.Omega.{arith}
use native.Mathlib.Nat.{mul-le-mul_right}
use lib.ListN.{length}
use Rattle.record_write.specs.Laws.Lists.{join_none, join_more}
use Rattle.big_endian_spec.proofs.Laws.{length_be_bytes, put_held}
use Rattle.record_write.proofs.parts.premiums.Goals as goal

pub loop-j-init : goal.loop-j-init
loop-j-init c = join_none _ _ _

pub loop-j-preserved : goal.loop-j-preserved
loop-j-preserved c =
    let start = c.args in
    let turn = c.loop-j in
    let room : start.from + turn.j * start.width + start.width ≤ length turn.out = let more : suc turn.j ≤ length start.premiums.now = omega arith in
    omega (arith, turn.auto.out, mul-le-mul_right start.width more) in
    c.put_number.ensures
    ∙ put_held start.width turn.out (start.from + turn.j * start.width) _ room
    ∙ rw turn.invariant (join_more start.width _ start.out.now start.from turn.j (λ i lt. length_be_bytes start.width _))
