-- `put_number` meets its contract: nothing, or what is left to be put at the head of the loop makes what was to be put.
use mathlib.Core.Path.{◌≡◌, sym, ◌∙◌}
use native.Mathlib.Omega.{arith}
use borrow.Author.Tests.{leb-true}
use Rattle.big_endian_spec.specs.Numbers.{be_bytes}
use Rattle.big_endian_spec.proofs.Laws.{put_held, put_none, put_last}
use Rattle.big_endian.proofs.put_number.Goals as goal

pub returns-then-not-holds : goal.returns-then-not-holds
returns-then-not-holds c = put_none _ _ _ _ (sym c.holds.ensures ∙ c.if-not-holds.true)

pub loop-k-preserved : goal.loop-k-preserved
loop-k-preserved c =
    let turn = c.loop-k in put_last turn.k turn.out c.args.at turn.rest c.loop-k-test.true ∙ turn.invariant

pub returns : goal.returns
unfolding be_bytes
returns c =
    let turn = c.loop-k in
    let end : turn.k ≡ 0 = omega arith in
    rw end at turn.invariant ∙ sym (put_held _ _ _ _ (leb-true _ _ (sym c.holds.ensures ∙ c.if-not-holds.false)))
