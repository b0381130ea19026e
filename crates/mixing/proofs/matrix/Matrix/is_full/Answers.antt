-- `is_full` meets its contract: `all` tells whether each of the first n rows has n bits set.
use Rattle.std.proofs.Common.{◌≡◌, ◌∙◌, ap, ℕ, Bool, eqb, take, rules, tests}
use Rattle.std.specs.List.{list_all}
use Rattle.std.proofs.lemmas.Iterator.{YieldsList-from_slice}
use Rattle.std.proofs.lemmas.Iterator.Search.{all_from_yields_List}
use Rattle.setchain.specs.Sums.{at}
use Rattle.setchain.specs.Tests.{all_below}
use Rattle.setchain.proofs.Laws.Fronts.{all_front}
use Rattle.mixing.proofs.matrix.Matrix.is_full.Goals as goal

pub returns : goal.returns
returns c =
    let m = c.args.self.now in
    let full = c.all_bits-full.result in
    let row_full : ℕ → Bool = λ row. eqb row full in
    let is : c.all.result ≡ list_all row_full (take m.n m.rows) =
    all_from_yields_List row_full _ _ c.all.result c.all.ensures.ran (YieldsList-from_slice (take m.n m.rows) (cc)) (λ x b q k. search (rules, tests)) in
    is ∙ all_front row_full 0 m.rows m.n (search rules) ∙ ap (λ full. all_below m.n (λ i. eqb (at m.rows i) full)) c.all_bits-full.ensures
