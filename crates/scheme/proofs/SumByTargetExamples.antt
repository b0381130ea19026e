-- Worked cases, computed: entries that are capped, and the parts that entries leave.
use Rattle.std.specs.Prelude.{◌≡◌, refl, [], ◌∷◌}
use Rattle.setchain.specs.Sums.{sum_to, only_if}
use Rattle.setchain.specs.Rows.{ONE}
use Rattle.scheme.specs.SumByTarget.{sum_by_target, slack_of}

-- Two cells that lead to class 1, and one with no band.
pub record SummedTwice : Type 0 where
  pub capped : sum_by_target (1 ∷ 1 ∷ 1 ∷ []) (600000000 ∷ 600000000 ∷ []) 0 ≡ ONE
  pub elsewhere : sum_by_target (1 ∷ 1 ∷ 1 ∷ []) (600000000 ∷ 600000000 ∷ []) 1 ≡ 0

pub summed_twice : SummedTwice
unfolding sum_to only_if
summed_twice = record { capped = refl; elsewhere = refl }

-- What the lower entries of class 2 leave, and entries that come to more than ONE.
pub slack_examples : (slack_of (800000000 ∷ 100000000 ∷ []) ≡ 100000000) × (slack_of (800000000 ∷ 300000000 ∷ []) ≡ 0)
unfolding sum_to
slack_examples = (refl, refl)
