-- `reading::read_numbers` meets its contract: the numbers passed are read at the head of the loop.
use Prim.Native.Nat.{suc, ◌≤◌, ◌+◌, ◌*◌}
use mathlib.Core.Path.{◌∙◌}
use native.Mathlib.Omega.{arith}
use native.Mathlib.Nat.{mul-le-mul_right}
use lib.ListN.{length}
use Rattle.big_endian_spec.proofs.Laws.{read_held}
use Rattle.scheme.proofs.Laws.Filled.{fill_more, fill_all}
use Rattle.record.proofs.reading.read_numbers.Goals as goal

pub loop-k-preserved : goal.loop-k-preserved
loop-k-preserved c =
    let start = c.args in
    let turn = c.loop-k in
    let at = start.from + turn.k * start.stride in
    let room : at + start.width ≤ length start.bytes.now = let more : suc turn.k ≤ length start.out.now = omega arith in
    omega (arith, mul-le-mul_right start.stride more) in
    fill_more (length start.out.now) _ turn.k turn.out c.number_at.result (omega arith)
    (c.number_at.ensures ∙ read_held start.width start.bytes.now at (omega arith) room) turn.invariant

pub returns : goal.returns
returns c = fill_all (length c.args.out.now) _ _ _ (omega arith) c.loop-k.invariant
