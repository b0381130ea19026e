-- `check_rules` meets its contract: no class before i has a rule outside 1 to s.
use Rattle.std.proofs.Common.{sym, ◌∙◌, arith}
use Rattle.setchain.proofs.Laws.Tests.{any_none, any_more, any_hit}
use Rattle.scheme.proofs.Laws.FirstCause.{cond_true}
use Rattle.acceptance.proofs.tests.check_rules.Goals as goal

pub loop-i-init : goal.loop-i-init
loop-i-init c = any_none _

pub returns-then-row_out : goal.returns-then-row_out
returns-then-row_out c = sym (cond_true _ 7 0 (any_hit _ c.loop-i.i _ (omega arith) (sym c.row_out.ensures ∙ c.if-row_out.true)))

pub loop-i-preserved : goal.loop-i-preserved
loop-i-preserved c = any_more _ _ c.loop-i.invariant (sym c.row_out.ensures ∙ c.if-row_out.false)
