-- `fill_slack` gives the slack along the order: the row with what is left sums to ONE, full where it passed and bare elsewhere.
-- Assumes nothing.
use Prim.Native.Nat.{◌-◌}
use mathlib.Core.Path.{◌≡◌, ap, ◌∙◌}
use native.Mathlib.Omega.{arith}
use Rattle.setchain.specs.Sums.{at}
use Rattle.step.specs.Laws.Fill.{filling_none, filling_more, filling_last}
use Rattle.order.specs.Order.{along}
use Rattle.order.specs.States.{state_of}
use Rattle.order.proofs.Laws.Numbers.{state_of_lem}
use Rattle.step.proofs.fill.fill_slack.Goals as goal

pub loop-slack-init : goal.loop-slack-init
loop-slack-init c = filling_none c.requires

pub returns-then-slack-capacity : goal.returns-then-slack-capacity
returns-then-slack-capacity c =
    let named : c.state-j.result ≡ at (along c.args.high c.args.order.now) c.loop-slack.k - 1 = c.state-j.ensures ∙ ap state_of c.class_at.ensures ∙ state_of_lem _ (c.requires.permutation.within c.loop-slack.k c.loop-slack.invariant.inside).0 in
    filling_last c.requires c.loop-slack.invariant named (omega arith)

pub loop-slack-preserved : goal.loop-slack-preserved
loop-slack-preserved c =
    let named : c.state-j.result ≡ at (along c.args.high c.args.order.now) c.loop-slack.k - 1 = c.state-j.ensures ∙ ap state_of c.class_at.ensures ∙ state_of_lem _ (c.requires.permutation.within c.loop-slack.k c.loop-slack.invariant.inside).0 in
    filling_more c.requires c.loop-slack.invariant named (omega arith)
