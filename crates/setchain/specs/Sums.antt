-- Bounded sums: a row, a payoff or a list of years is a function of its index, and a sum runs over the indices below a count.
use Rattle.std.specs.Prelude.{ℕ, zero, suc, ◌+◌, ◌*◌, Bool, true, false, List, get_or}

-- A list as a function of its index: what it has at place k, and 0 past its end.
abbrev pub at : List ℕ → ℕ → ℕ
at l k = get_or l k 0

-- The sum of f at each index below n.
unfoldable pub sum_to : ℕ → (ℕ → ℕ) → ℕ
sum_to zero f = 0
sum_to (suc n) f = sum_to n f + f n

-- x where the test passes, and 0 where it fails.
unfoldable pub only_if : Bool → ℕ → ℕ
only_if true x = x
only_if false x = 0

-- The sum of part times payoff.
abbrev pub dot : ℕ → (ℕ → ℕ) → (ℕ → ℕ) → ℕ
dot n p f = sum_to n (λ j. p j * f j)
