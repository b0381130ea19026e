-- Opening books pooled (document 02, item 7): what the private functions take.
use Rattle.std.specs.Prelude.{ℕ, ◌≤◌, ◌<◌, Bool, List}
use Rattle.setchain.specs.Sums.{at}
use Rattle.setchain.specs.Years.{years_figure, CENT}
use Rattle.setchain.specs.Pooled.{pooled_figure}
use Rattle.scheme.specs.declared.Scheme.{Scheme}
use Rattle.scheme.specs.Rows.{chain_of}
use Rattle.book_spec.proofs.Laws.{Pooled}
use Rattle.step_spec.specs.StepAnswer.{MOST_PAYOFF}
use Rattle.bounds.specs.Series.{SeriesPre}
use Rattle.bounds.specs.Sheets.{WritePre}

-- What it takes to pool the figures of n classes: no more than 32 of them, and counts, figures and units so small that the sums fit.
pub record PoolPre (n units : ℕ) (book figures : List ℕ) : Type 0 where
  pub few : n ≤ 32
  pub counts : (i : ℕ) → i < n → at book i ≤ 1000000
  pub small : (i : ℕ) → i < n → at figures i ≤ MOST_PAYOFF
  pub within : units ≤ CENT

-- What a pooled figure of t years takes: what the years take, a book that is pooled, and few units.
pub record PooledPre (s : Scheme) (book : List ℕ) (units : ℕ) (gain payoff : List ℕ) (t : ℕ) : Type 0 where
  pub years : SeriesPre s gain payoff t 1
  pub counts : Pooled s.classes book
  pub within : units ≤ CENT

-- The pooled figure of t years, low or high.
abbrev pub pooled_years : (high : Bool) → Scheme → (book : List ℕ) (units : ℕ) (gain payoff : List ℕ) (t : ℕ) → ℕ
pooled_years high s book units gain payoff t = pooled_figure high units s.classes (at book) (λ i. years_figure high (chain_of s) (at payoff) (at gain) t i)

-- What it takes to write the pooled shares of all classes.
pub record WritePooledPre (s : Scheme) (book out : List ℕ) : Type 0 where
  pub write : WritePre s s.classes out
  pub counts : Pooled s.classes book
