-- `pool` sums class after class: the invariant says so of the classes passed.
-- Assumes nothing.
use native.Mathlib.Omega.{arith}
use mathlib.Core.Path.{◌∙◌}
use lib.ListN.{length-append}
use Rattle.std.proofs.Common.{rules}
use Rattle.bounds.proofs.PooledLaws.{weighed_none, product_most, sum_most, chambers_most, unit_most, weighed_more, weighed_all}
use Rattle.bounds.proofs.ZipLaws.{taken_turn, taken_end}
use Rattle.bounds.proofs.pooled.pool.Goals as goal

pub loop-count-init : goal.loop-count-init
loop-count-init c = weighed_none

pub overflow_mul-sum : goal.overflow_mul-sum
overflow_mul-sum c =
    let turn =
    taken_turn c.args.classes c.args.book c.args.figures (omega (arith, c.requires.few)) (omega (arith, c.requires.few)) c.loop-count.yielded _ _ c.next.new.self _
    (search rules) (search rules) (search rules) c.loop-count.yielded_by _ c.in-Some.is c.next.ensures.steps in
    rw turn.2 (omega (arith, product_most c.requires c.loop-count.invariant turn.0 (c.from-count.ensures ∙ turn.1)))

pub overflow_add-sum : goal.overflow_add-sum
overflow_add-sum c =
    let turn =
    taken_turn c.args.classes c.args.book c.args.figures (omega (arith, c.requires.few)) (omega (arith, c.requires.few)) c.loop-count.yielded _ _ c.next.new.self _
    (search rules) (search rules) (search rules) c.loop-count.yielded_by _ c.in-Some.is c.next.ensures.steps in
    rw turn.2 (omega (arith, sum_most c.requires c.loop-count.invariant, product_most c.requires c.loop-count.invariant turn.0 (c.from-count.ensures ∙ turn.1)))

pub overflow_add-chambers : goal.overflow_add-chambers
overflow_add-chambers c =
    let turn =
    taken_turn c.args.classes c.args.book c.args.figures (omega (arith, c.requires.few)) (omega (arith, c.requires.few)) c.loop-count.yielded _ _ c.next.new.self _
    (search rules) (search rules) (search rules) c.loop-count.yielded_by _ c.in-Some.is c.next.ensures.steps in
    omega (arith, chambers_most c.requires c.loop-count.invariant, c.requires.counts _ turn.0, c.from-count.ensures, turn.1)

pub loop-count-preserved : goal.loop-count-preserved
loop-count-preserved c =
    let turn =
    taken_turn c.args.classes c.args.book c.args.figures (omega (arith, c.requires.few)) (omega (arith, c.requires.few)) c.loop-count.yielded _ _ c.next.new.self _
    (search rules) (search rules) (search rules) c.loop-count.yielded_by _ c.in-Some.is c.next.ensures.steps in
    simp length-append (rw turn.2 (weighed_more c.requires c.loop-count.invariant turn.0 (c.from-count.ensures ∙ turn.1)))

pub overflow_mul-units : goal.overflow_mul-units
overflow_mul-units c = omega (arith, unit_most c.requires c.loop-count.invariant)

pub returns : goal.returns
returns c =
    let all =
    taken_end c.args.classes c.args.book c.args.figures (omega (arith, c.requires.few)) (omega (arith, c.requires.few)) c.loop-count.yielded _ _ c.next.new.self _
    (search rules) (search rules) (search rules) c.loop-count.yielded_by c.in-None.is c.next.ensures.steps in
    rw c.round.ensures (weighed_all c.requires c.loop-count.invariant c.args.high (omega (arith, all)))
