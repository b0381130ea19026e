-- Picks and the exact figures that they bring (document 01, "Years").
use Rattle.std.specs.Prelude.{ℕ, ◌<◌, ◌≡◌, List, [], ◌∷◌, eqb, length, take}
use Rattle.setchain.specs.Sums.{only_if}
use Rattle.setchain.specs.Fractions.{Fraction, whole, ◌⊗◌, sum_fractions}
use Rattle.setchain.specs.Rows.{Row, Inside, SetChain}

-- "A matrix has one row for each class", each over an M of its own.
abbrev pub Matrix : Type 0
Matrix = ℕ → Row

-- Each row of each matrix lies inside the interval of its state; no row binds another.
pub data InsideEach (c : SetChain) : List Matrix → Type 0 where
  none : InsideEach c []
  also : {p : Matrix} {ps : List Matrix} → ((i : ℕ) → i < c.states → Inside c.states (c.row i) (p i)) → InsideEach c ps → InsideEach c (p ∷ ps)

-- "Picks for t years are a list of t matrices, first year first; for t = 0 it is empty."
pub record PicksFor (c : SetChain) (t : ℕ) (ps : List Matrix) : Type 0 where
  pub years : length ps ≡ t
  pub inside : InsideEach c ps

-- "each entry counts as its whole number divided by that M".
abbrev pub entry_of : Row → ℕ → Fraction
entry_of q j = record { num = q.entry j; den = q.over }

-- The mean of v over n states, by the entries of a row.
abbrev pub weigh : ℕ → Row → (ℕ → Fraction) → Fraction
weigh n q v = sum_fractions n (λ k. entry_of q k ⊗ v k)

-- Row i, entry j of the product of the matrices over n states, first year leftmost; of no matrix, 1 where i is j and 0 elsewhere.
unfoldable pub product : ℕ → List Matrix → ℕ → ℕ → Fraction
product n [] i j = whole (only_if (eqb i j) 1)
product n (p ∷ ps) i j = sum_fractions n (λ k. entry_of (p i) k ⊗ product n ps k j)

-- "The exact share of class j after t years is entry j of the start class's row in the product of the t picked matrices".
abbrev pub exact_share : ℕ → ℕ → List Matrix → ℕ → Fraction
exact_share n j ps i = product n ps i j

-- "The exact mean of year t is the sum, over all classes, of exact share times premium."
unfoldable pub exact_mean : ℕ → (ℕ → ℕ) → List Matrix → ℕ → Fraction
exact_mean n premium ps i = sum_fractions n (λ j. exact_share n j ps i ⊗ whole (premium j))

-- "The exact total of t premiums is the sum of the exact means of years 0 to t − 1, year u taking the first u matrices of the same picks."
unfoldable pub exact_total : ℕ → (ℕ → ℕ) → List Matrix → ℕ → Fraction
exact_total n premium ps i = sum_fractions (length ps) (λ u. exact_mean n premium (take u ps) i)
