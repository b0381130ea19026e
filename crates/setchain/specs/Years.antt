-- The bounds for t years (document 01, "Years"): a payoff for year 0, and a gain that each year adds. Share, mean and total are three instances.
-- Money is carried in tenths of a cent (document 02, item 6): each year's step rounds to a tenth, and the figure that is answered to a cent.
use Rattle.std.specs.Prelude.{ℕ, zero, suc, ◌+◌, ◌*◌, Bool, true, false, eqb}
use Rattle.setchain.specs.Sums.{only_if}
use Rattle.setchain.specs.Rows.{ONE, SetChain}
use Rattle.setchain.specs.Rounding.{rounded}
use Rattle.setchain.specs.Step.{step_figure}

-- "Year 0 has the payoff itself. The bound for t years rests on the bound for t − 1: low figures feed the low step, high figures the high step."
unfoldable pub years_figure : (high : Bool) → SetChain → (payoff gain : ℕ → ℕ) → ℕ → ℕ → ℕ
years_figure high c payoff gain zero i = payoff i
years_figure high c payoff gain (suc t) i = gain i + step_figure high c.states (c.row i) (years_figure high c payoff gain t)

-- 0 at every state.
abbrev pub nothing : ℕ → ℕ
nothing i = 0

-- "Share of class j: payoff ONE at j, 0 elsewhere."
abbrev pub share_payoff : ℕ → ℕ → ℕ
share_payoff j i = only_if (eqb i j) ONE

abbrev pub share_figure : (high : Bool) → SetChain → ℕ → ℕ → ℕ → ℕ
share_figure high c j t i = years_figure high c (share_payoff j) nothing t i

abbrev pub low_share : SetChain → ℕ → ℕ → ℕ → ℕ
low_share = share_figure false

abbrev pub high_share : SetChain → ℕ → ℕ → ℕ → ℕ
high_share = share_figure true

-- A cent, in tenths of a cent: the unit in which money is answered.
abbrev pub CENT : ℕ
CENT = 10

-- "Money payoffs enter it as tenths of a cent."
abbrev pub tenths : (ℕ → ℕ) → ℕ → ℕ
tenths premium i = premium i * CENT

-- "Mean premium of year t: payoff the premiums", in tenths.
abbrev pub mean_tenths : (high : Bool) → SetChain → (ℕ → ℕ) → ℕ → ℕ → ℕ
mean_tenths high c premium t i = years_figure high c (tenths premium) nothing t i

-- "Only the final figure is rounded outward to cents."
abbrev pub mean_figure : (high : Bool) → SetChain → (ℕ → ℕ) → ℕ → ℕ → ℕ
mean_figure high c premium t i = rounded high CENT (mean_tenths high c premium t i)

abbrev pub low_mean : SetChain → (ℕ → ℕ) → ℕ → ℕ → ℕ
low_mean = mean_figure false

abbrev pub high_mean : SetChain → (ℕ → ℕ) → ℕ → ℕ → ℕ
high_mean = mean_figure true

-- "Total of t premiums …: 0 for t = 0; otherwise the class's premium plus the one-year figure of the total of t − 1", in tenths.
abbrev pub total_tenths : (high : Bool) → SetChain → (ℕ → ℕ) → ℕ → ℕ → ℕ
total_tenths high c premium t i = years_figure high c nothing (tenths premium) t i

-- The same in cents.
abbrev pub total_figure : (high : Bool) → SetChain → (ℕ → ℕ) → ℕ → ℕ → ℕ
total_figure high c premium t i = rounded high CENT (total_tenths high c premium t i)

abbrev pub low_total : SetChain → (ℕ → ℕ) → ℕ → ℕ → ℕ
low_total = total_figure false

abbrev pub high_total : SetChain → (ℕ → ℕ) → ℕ → ℕ → ℕ
high_total = total_figure true
