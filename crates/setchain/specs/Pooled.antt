-- Opening books pooled (document 02, item 7): the mean of the figures of all states, weighed by how many chambers begin in each.
use Rattle.std.specs.Prelude.{ℕ, ◌*◌, Bool}
use Rattle.setchain.specs.Sums.{sum_to, dot}
use Rattle.setchain.specs.Fractions.{Fraction, whole, ◌⊗◌, ◌divided_by◌, sum_fractions}
use Rattle.setchain.specs.Rounding.{rounded}

-- "The pooled figure is the count-weighted mean of the class figures, rounded outward once": the sum of count times figure over the sum of the counts,
-- where so many units of a figure make one of the answer (10 tenths a cent: "that one rounding is straight to cents").
abbrev pub pooled_figure : (high : Bool) (units n : ℕ) (count figure : ℕ → ℕ) → ℕ
pooled_figure high units n count figure = rounded high (units * sum_to n count) (dot n count figure)

-- The exact pooled figure: the sum of count times exact figure over the sum of the counts.
abbrev pub exact_pooled : (n : ℕ) (count : ℕ → ℕ) (exact : ℕ → Fraction) → Fraction
exact_pooled n count exact = sum_fractions n (λ i. whole (count i) ⊗ exact i) divided_by sum_to n count
