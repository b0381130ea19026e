-- The start class's figures (document 01, "Years"): what they take and what they are.
use Rattle.std.specs.Prelude.{ℕ, ◌+◌, ◌*◌, ◌-◌, ◌≤◌, ◌<◌, ◌≡◌, Bool, List}
use Rattle.std.specs.Int.{w64}
use Rattle.std.proofs.Common.{Fits}
use Rattle.setchain.specs.Years.{years_figure, share_payoff}
use Rattle.scheme.specs.declared.Scheme.{Scheme}
use Rattle.scheme.specs.Accepted.{Accepted}
use Rattle.scheme.specs.Rows.{chain_of}
use Rattle.bounds_spec.specs.Answers.{start_of}
use Rattle.setchain.specs.Sums.{at}
use Rattle.bounds.specs.Years.{FiguresFit, SeriesStored}

-- The payoff of a class's share in an array of 32.
pub record SharePayoffPost (class : ℕ) (payoff : List ℕ) : Type 0 where
  pub each : 1 ≤ class → class ≤ 32 → (i : ℕ) → i < 32 → at payoff i ≡ share_payoff (class - 1) i

-- The start class's figure of t years.
abbrev pub start_figure : (high : Bool) → Scheme → List ℕ → List ℕ → ℕ → ℕ
start_figure high s gain payoff t = years_figure high (chain_of s) (at payoff) (at gain) t (start_of s)

-- What the start class's figures to year t take: an accepted scheme, figures that fit, and places that are apart and can be counted.
pub record SeriesPre (s : Scheme) (gain payoff : List ℕ) (t stride : ℕ) : Type 0 where
  pub accepted : Accepted s
  pub fits : FiguresFit s.classes gain payoff t
  pub apart : 1 ≤ stride
  pub counted : Fits w64 (t * stride)

-- What they leave: each class's figure of year t, and the start class's of all years to t at their places.
pub record ClassFiguresPost (high : Bool) (s : Scheme) (gain payoff : List ℕ) (t stride : ℕ) (before after figures : List ℕ) : Type 0 where
  pub each : (i : ℕ) → i < s.classes → at figures i ≡ years_figure high (chain_of s) (at payoff) (at gain) t i
  pub series : SeriesStored (start_figure high s gain payoff) stride (t + 1) before after

-- What they leave: the figure of year t, and those of all years to t at their places.
pub record SeriesPost (high : Bool) (s : Scheme) (gain payoff : List ℕ) (t stride : ℕ) (before after : List ℕ) (last : ℕ) : Type 0 where
  pub figure : last ≡ start_figure high s gain payoff t
  pub series : SeriesStored (start_figure high s gain payoff) stride (t + 1) before after
