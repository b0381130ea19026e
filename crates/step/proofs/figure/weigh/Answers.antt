-- `weigh` sums part times payoff: the invariant says so of the places passed.
-- Assumes nothing.
use Prim.Native.Nat.{◌*◌}
use native.Mathlib.Omega.{arith}
use lib.ListN.{length-append}
use Rattle.std.proofs.lemmas.Slice.Zip.{zip_turn}
use Rattle.setchain.specs.Sums.{at}
use Rattle.setchain.proofs.Laws.Sums.{total_start}
use Rattle.step.proofs.WeighLaws.{weighed_pair}
use Rattle.step.proofs.figure.weigh.Goals as goal

pub loop-part-init : goal.loop-part-init
loop-part-init c = omega (arith, total_start (λ j. at c.args.row.now j * at c.args.payoff.now j))

pub overflow_mul-sum : goal.overflow_mul-sum
overflow_mul-sum c =
    let turn = zip_turn c.args.row.now c.args.payoff.now c.loop-part.yielded c.into_iter-part-iterator.result c.loop-part.part-iterator c.next.new.self _ (cc) (cc) c.loop-part.yielded_by _ c.in-Some.is c.next.ensures.steps in
    let more = weighed_pair c.requires c.loop-part.invariant turn.0 (turn.2 0) (turn.3 0) in
    omega (arith, more)

pub overflow_add-sum : goal.overflow_add-sum
overflow_add-sum c =
    let turn = zip_turn c.args.row.now c.args.payoff.now c.loop-part.yielded c.into_iter-part-iterator.result c.loop-part.part-iterator c.next.new.self _ (cc) (cc) c.loop-part.yielded_by _ c.in-Some.is c.next.ensures.steps in
    let more = weighed_pair c.requires c.loop-part.invariant turn.0 (turn.2 0) (turn.3 0) in
    omega (arith, more)

pub loop-part-preserved : goal.loop-part-preserved
loop-part-preserved c =
    let turn = zip_turn c.args.row.now c.args.payoff.now c.loop-part.yielded c.into_iter-part-iterator.result c.loop-part.part-iterator c.next.new.self _ (cc) (cc) c.loop-part.yielded_by _ c.in-Some.is c.next.ensures.steps in
    let more = weighed_pair c.requires c.loop-part.invariant turn.0 (turn.2 0) (turn.3 0) in
    simp length-append (more.0)
