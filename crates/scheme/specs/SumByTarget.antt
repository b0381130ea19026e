-- The entries that the cells of one class make, and the parts that they leave (document 01, "Interval rows").
use Rattle.std.specs.Prelude.{ℕ, suc, min, ◌+◌, ◌-◌, ◌≤◌, List, eqb, length, get_or}
use Rattle.setchain.specs.Sums.{sum_to, only_if}
use Rattle.setchain.specs.Rows.{ONE}
use Rattle.scheme.specs.Tables.{tab}

-- What the bands of the cells whose rule is class j + 1 come to, at most ONE; lists of different lengths are read as far as both go.
abbrev pub sum_by_target : List ℕ → List ℕ → ℕ → ℕ
sum_by_target rules band j =
    min ONE (sum_to (min (length rules) (length band)) (λ k. only_if (eqb (get_or rules k 0) (suc j)) (get_or band k 0)))

-- The parts that the lower entries of a row leave of ONE, none where they come to more.
abbrev pub slack_of : List ℕ → ℕ
slack_of lower = ONE - sum_to (length lower) (λ j. get_or lower j 0)

-- No entry is above ONE.
abbrev pub Capped : List ℕ → Type 0
Capped l = (j : ℕ) → get_or l j 0 ≤ ONE

-- A row of entries with the band's end added at the class that a rule leads to, at most ONE.
abbrev pub added_to_target : List ℕ → ℕ → ℕ → List ℕ
added_to_target l rule end = tab (length l) (λ j. min ONE (get_or l j 0 + only_if (eqb rule (suc j)) end))
