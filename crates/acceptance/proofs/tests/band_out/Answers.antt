-- `band_out` meets its contract: both ends of a column's band are read side by side.
use Rattle.std.proofs.Common.{ℕ, Bool, refl, rules, arith, ◌∙◌, ap}
use borrow.Author.Tests.{tests}
use Rattle.std.specs.List.{zip}
use Rattle.std.proofs.lemmas.Iterator.{YieldsList-from_slice, YieldsList-from_zip, YieldsList-from_take}
use Rattle.std.proofs.lemmas.Iterator.Consumers.{YieldsList-at}
use Rattle.std.proofs.lemmas.Iterator.Search.{any_from_yields_List}
use Rattle.std.proofs.lemmas.Slice.Zip.{length-zip, get_or-zip}
use Rattle.setchain.proofs.Laws.Tests.{any_eq}
use Rattle.scheme.specs.Cause.{band_test}
use Rattle.setchain.proofs.Laws.Fronts.{any_front}
use Rattle.acceptance.proofs.tests.band_out.Goals as goal

pub returns : goal.returns
returns c =
    let lowers = c.args.lowers.now in
    let uppers = c.args.uppers.now in
    let bad : ℕ × ℕ → Bool = λ p. band_test p.0 p.1 in
    any_from_yields_List bad c.any.new.self _ _ c.any.ensures.ran
    (YieldsList-from_take c.args.columns
    (YieldsList-at c.take.ensures.source
    (YieldsList-from_zip (YieldsList-at c.zip.ensures.first (YieldsList-from_slice lowers (search rules))) (YieldsList-from_slice uppers (search rules))))
    (search rules))
    (λ x b q k. search (rules, tests))
    ∙ any_front bad (0, 0) (zip lowers uppers) c.args.columns (omega (arith, c.requires.0, c.requires.1, length-zip lowers uppers))
    ∙ any_eq refl _ _ (λ k l. ap bad (get_or-zip lowers uppers k (0, 0) (omega (arith, c.requires.0)) (omega (arith, c.requires.1))))
