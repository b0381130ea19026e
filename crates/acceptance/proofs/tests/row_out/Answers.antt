-- `row_out` meets its contract: the part of the rules that it reads begins at `from`.
use Rattle.std.proofs.Common.{rules, take, drop, refl, arith, ◌∙◌, ap, get_or-drop, length-drop}
use borrow.Author.Tests.{tests}
use Rattle.std.proofs.lemmas.Iterator.{YieldsList-from_slice}
use Rattle.std.proofs.lemmas.Iterator.Search.{any_from_yields_List}
use Rattle.setchain.proofs.Laws.Tests.{any_eq}
use Rattle.scheme.specs.Cause.{outside}
use Rattle.setchain.proofs.Laws.Fronts.{any_front}
use Rattle.acceptance.proofs.tests.row_out.Goals as goal

pub returns : goal.returns
returns c =
    let a = c.args in
    let later = drop a.from a.rules.now in
    any_from_yields_List (outside a.classes) _ _ _ c.any.ensures.ran (YieldsList-from_slice (take a.columns later) (search rules)) (λ x b q k. search (rules, tests))
    ∙ any_front (outside a.classes) 0 later a.columns (omega (arith, length-drop a.from a.rules.now))
    ∙ any_eq refl _ _ (λ k l. ap (outside a.classes) (get_or-drop a.from a.rules.now k 0))
