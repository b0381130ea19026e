-- `check_premiums` meets its contract: 10 where a premium of the first classes is above the limit.
-- Assumes nothing.
use Rattle.std.proofs.Common.{◌≡◌, take, ltb, get_or, rules, arith, sym, ◌∙◌}
use borrow.Author.Tests.{tests}
use Rattle.std.proofs.lemmas.Iterator.{YieldsList-from_slice}
use Rattle.std.proofs.lemmas.Iterator.Search.{any_from_yields_List}
use Rattle.setchain.specs.Tests.{any_below}
use Rattle.scheme.proofs.Laws.FirstCause.{cond_true, cond_false}
use Rattle.setchain.proofs.Laws.Fronts.{any_front}
use Rattle.acceptance.proofs.tests.check_premiums.Goals as goal
use Rattle.acceptance.proofs.tests.check_premiums.Goals.{After-any-above}

-- What the search over the premiums answers.
above : (c : After-any-above) → any_below c.args.classes (λ i. ltb 10000000 (get_or c.args.premiums.now i 0)) ≡ c.any-above.result
above c =
    let a = c.args in
    sym
    (any_from_yields_List (ltb 10000000) _ _ _ c.any-above.ensures.ran (YieldsList-from_slice (take a.classes a.premiums.now) (search rules)) (λ x b q k. search (rules, tests))
    ∙ any_front (ltb 10000000) 0 a.premiums.now a.classes (omega arith))

pub returns-then-above : goal.returns-then-above
returns-then-above c = sym (cond_true _ 10 0 (above (goal.at.returns-then-above c).After-any-above ∙ c.if-above.true))

pub returns : goal.returns
returns c = sym (cond_false _ 10 0 (above (goal.at.returns c).After-any-above ∙ c.if-above.false))
