-- `total` meets its contract: as many entries as there are classes, of at most ONE each, fit 64 bits.
use Rattle.std.proofs.Common.{ℕ, ◌≡◌, List, length, sum, rules, ap, sym, ◌∙◌, arith, le_refl}
use Rattle.std.proofs.Math.Seq.{take-length}
use Rattle.std.proofs.iter.runs.Made.{chains}
use Rattle.std.proofs.lemmas.Iterator.{YieldsList-from_slice}
use Rattle.std.proofs.lemmas.Iterator.Consumers.{fits_from_yields_list}
use Rattle.setchain.specs.Sums.{at, sum_to}
use Rattle.setchain.specs.Rows.{ONE}
use Rattle.setchain.proofs.Laws.Sums.{sum_to_most}
use Rattle.setchain.proofs.Laws.Fronts.{sum_front}
use Rattle.rows.proofs.tight.total.Goals as goal

-- The sum of a list, by its places.
sum_list : (l : List ℕ) → sum l ≡ sum_to (length l) (at l)
sum_list l = ap sum (sym (take-length l)) ∙ sum_front l (length l) (le_refl (length l))

pub sum-requires-clause-fits : goal.sum-requires-clause-fits
sum-requires-clause-fits c =
    let entries = c.args.entries.now in
    fits_from_yields_list c.iter.result _ (YieldsList-from_slice entries (search rules))
    (omega (arith, c.requires.0, sum_list entries, sum_to_most (length entries) (at entries) ONE (λ j l. c.requires.1 j)))

pub returns : goal.returns
returns c =
    let all : c.sum.result ≡ sum c.args.entries.now = search (rules, chains) in
    all ∙ sum_list c.args.entries.now
