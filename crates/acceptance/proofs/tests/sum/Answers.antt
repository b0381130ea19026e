-- `sum` meets its contract: as many 32-bit numbers as a byte counts fit 64 bits.
use Rattle.std.proofs.Common.{rules, ◌≡◌, take, sum, arith, ◌∙◌}
use borrow.Author.Tests.{tests}
use Rattle.std.proofs.iter.runs.Made.{chains}
use Rattle.std.proofs.lemmas.Iterator.{YieldsList-from_slice, YieldsList-from_map}
use Rattle.std.proofs.lemmas.Iterator.Consumers.{fits_by_from_yields_list}
use Rattle.setchain.specs.Sums.{at}
use Rattle.setchain.proofs.Laws.Sums.{sum_to_most}
use Rattle.setchain.proofs.Laws.Fronts.{sum_front}
use Rattle.acceptance.proofs.tests.sum.Goals as goal

pub sum-requires-clause-fits : goal.sum-requires-clause-fits
sum-requires-clause-fits c =
    let a = c.args in
    fits_by_from_yields_list (λ x. x) (take a.columns a.ends.now) c.map.result _
    (YieldsList-from_map _ (λ x. x) (YieldsList-from_slice (take a.columns a.ends.now) (search rules)) c.map.ensures.closure (λ x r q k. search (rules, tests)))
    (omega (arith, sum_front a.ends.now a.columns (omega arith), sum_to_most a.columns (at a.ends.now) 4294967295 (λ j l. omega (arith, c.type_inv.ends j))))

pub returns : goal.returns
returns c =
    let all : c.sum.result ≡ sum (take c.args.columns c.args.ends.now) = search (rules, chains) in
    all ∙ sum_front c.args.ends.now c.args.columns (omega arith)
