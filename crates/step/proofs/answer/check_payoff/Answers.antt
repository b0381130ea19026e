-- `check_payoff` meets its contract: `any` tells whether a class has a payoff above the limit.
-- Assumes nothing.
use mathlib.Core.Path.{◌≡◌}
use lib.Dec.{ltb}
use lib.ListN.{take}
use borrow.Author.Rules.{rules}
use borrow.Author.Tests.{tests}
use Rattle.std.specs.List.{list_any}
use Rattle.std.proofs.lemmas.Iterator.{YieldsList-from_slice}
use Rattle.std.proofs.lemmas.Iterator.Search.{any_from_yields_List}
use Rattle.step_spec.specs.StepAnswer.{MOST_PAYOFF}
use Rattle.step.proofs.Listed.{limit_passed, limit_kept}
use Rattle.step.proofs.answer.check_payoff.Goals as goal

pub returns-then-any : goal.returns-then-any
returns-then-any c =
    let is : c.any.result ≡ list_any (ltb MOST_PAYOFF) (take c.args.classes c.args.payoff.now) = any_from_yields_List (ltb MOST_PAYOFF) _ _ c.any.result c.any.ensures.ran (YieldsList-from_slice (take c.args.classes c.args.payoff.now) (cc)) (λ x b q k. search (rules, tests)) in
    limit_passed MOST_PAYOFF c.args.payoff.now c.args.classes c.requires is c.if-any.true

pub returns : goal.returns
returns c =
    let is : c.any.result ≡ list_any (ltb MOST_PAYOFF) (take c.args.classes c.args.payoff.now) = any_from_yields_List (ltb MOST_PAYOFF) _ _ c.any.result c.any.ensures.ran (YieldsList-from_slice (take c.args.classes c.args.payoff.now) (cc)) (λ x b q k. search (rules, tests)) in
    limit_kept MOST_PAYOFF c.args.payoff.now c.args.classes c.requires is c.if-any.false
