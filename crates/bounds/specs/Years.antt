-- Years over lists (document 01, "Years"): one year's figures, and the figures of t years.
use Rattle.std.specs.Prelude.{ℕ, ◌+◌, ◌*◌, ◌≤◌, ◌<◌, ◌≡◌, Bool, List, length}
use Rattle.std.specs.Int.{w64}
use Rattle.std.proofs.Common.{Fits}
use Rattle.setchain.specs.Rows.{SetChain}
use Rattle.setchain.specs.Step.{step_figure}
use Rattle.setchain.specs.Years.{years_figure}
use Rattle.order.specs.Order.{Permutation}
use Rattle.setchain.specs.Sums.{at}
use Rattle.step_spec.specs.StepAnswer.{MOST_PAYOFF}
use Rattle.bounds.specs.Entries.{chain_listed, SoundLists}
use Rattle.bounds.specs.Fill.{Small}

-- What one year makes of the figures f of the year before: the gain and the step's figure, low or high.
abbrev pub year_figure : (high : Bool) → SetChain → (gain f : ℕ → ℕ) → ℕ → ℕ
year_figure high c gain f i = gain i + step_figure high c.states (c.row i) f

-- What one year takes: lists that hold sound rows, an order of the states, and figures and gains that are not too large.
pub record YearPre (entries slack gain order before : List ℕ) : Type 0 where
  pub lists : SoundLists (length gain) entries slack
  pub permutation : Permutation (length gain) order
  pub small : Small (length gain) before
  pub gains : Small (length gain) gain

-- Each figure of the chain's states is the year's.
pub record YearPost (c : SetChain) (gain before : List ℕ) (high : Bool) (figures : List ℕ) : Type 0 where
  pub each : (i : ℕ) → i < c.states → at figures i ≡ year_figure high c (at gain) (at before) i

-- The figures of t years fit: no payoff of the n states is above `payoff_most`, no gain above `gain_most`.
pub record FiguresFit (n : ℕ) (gain payoff : List ℕ) (t : ℕ) : Type 0 where
  pub payoff_most : ℕ
  pub gain_most : ℕ
  pub payoffs : (j : ℕ) → j < n → at payoff j ≤ payoff_most
  pub gains : (j : ℕ) → j < n → at gain j ≤ gain_most
  pub figures : payoff_most + t * gain_most ≤ MOST_PAYOFF
  pub small : gain_most ≤ MOST_PAYOFF

-- What t years take: lists that hold sound rows, an order, figures that fit, a state of the chain, and places that are apart and can be counted.
pub record YearsPre (entries slack gain order payoff : List ℕ) (t state stride : ℕ) : Type 0 where
  pub lists : SoundLists (length gain) entries slack
  pub permutation : Permutation (length gain) order
  pub fits : FiguresFit (length gain) gain payoff t
  pub inside : state < length gain
  pub apart : 1 ≤ stride
  pub counted : Fits w64 (t * stride)

-- The figures of the first `count` years stand in `after`, that of year u at place u × stride where the slice has it, and nothing else has changed.
pub record SeriesStored (figure : ℕ → ℕ) (stride count : ℕ) (before after : List ℕ) : Type 0 where
  pub size : length after ≡ length before
  pub done : (u : ℕ) → u < count → u * stride < length before → at after (u * stride) ≡ figure u
  pub other : (p : ℕ) → ((u : ℕ) → p ≡ u * stride → ⊥) → at after p ≡ at before p

-- What t years leave: an order of the states, each state's figure of t years, and one state's figures of the first `count` years at their places.
pub record YearsPost (entries gain payoff : List ℕ) (high : Bool) (t state stride count : ℕ) (order figures before after : List ℕ) : Type 0 where
  pub permutation : Permutation (length gain) order
  pub each : (i : ℕ) → i < length gain → at figures i ≡ years_figure high (chain_listed (length gain) entries) (at payoff) (at gain) t i
  pub series : SeriesStored (λ u. years_figure high (chain_listed (length gain) entries) (at payoff) (at gain) u state) stride count before after
