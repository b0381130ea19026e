-- Figures year by year: what a state does with its one-year figure, figures that obey the step, and exact figures that follow the same turns.
use Rattle.std.specs.Prelude.{ℕ, zero, suc, ◌+◌, ◌<◌, ◌≡◌, Bool, List, [], ◌∷◌}
use Rattle.setchain.specs.Fractions.{Fraction, whole, ◌⊕◌, ◌≈◌, Proper}
use Rattle.setchain.specs.Rows.{SetChain}
use Rattle.setchain.specs.Step.{step_figure}
use Rattle.setchain.specs.Picks.{Matrix, InsideEach, weigh}

-- What a state does with its one-year figure: adds a gain to it, or stays at a figure that is fixed.
pub data Turn : Type 0 where
  add : (gain : ℕ) → Turn
  stay : (fixed : ℕ) → Turn

-- A state's figure with one year more, from its one-year figure x.
abbrev pub turned : Turn → ℕ → ℕ
turned (add g) x = g + x
turned (stay b) x = b

-- The same of an exact figure.
abbrev pub turned_exact : Turn → Fraction → Fraction
turned_exact (add g) x = whole g ⊕ x
turned_exact (stay b) x = whole b

-- Every state takes its one-year figure as it is.
abbrev pub plain : ℕ → Turn
plain i = add 0

-- Figures by year and state: the payoff in year 0, and each year the step on the figures of the year before, turned.
pub record Obeys (high : Bool) (c : SetChain) (payoff : ℕ → ℕ) (turn : ℕ → Turn) (figure : ℕ → ℕ → ℕ) : Type 0 where
  pub start : (i : ℕ) → i < c.states → figure zero i ≡ payoff i
  pub more : (t i : ℕ) → i < c.states → figure (suc t) i ≡ turned (turn i) (step_figure high c.states (c.row i) (figure t))

-- An exact figure of picks and a state: the payoff of no picks, and with one matrix more in front the mean by its row, turned.
pub record Follows (c : SetChain) (payoff : ℕ → ℕ) (turn : ℕ → Turn) (exact : List Matrix → ℕ → Fraction) : Type 0 where
  pub proper : (ps : List Matrix) → InsideEach c ps → (i : ℕ) → i < c.states → Proper (exact ps i)
  pub start : (i : ℕ) → i < c.states → exact [] i ≈ whole (payoff i)
  pub more : (p : Matrix) (ps : List Matrix) → InsideEach c (p ∷ ps) → (i : ℕ) → i < c.states
      → exact (p ∷ ps) i ≈ turned_exact (turn i) (weigh c.states (p i) (exact ps))
