-- The figures of a sheet in a lent slice: what the private functions take and leave.
use Rattle.std.specs.Prelude.{ℕ, ◌+◌, ◌≤◌, ◌<◌, ◌≡◌, Bool, List, length}
use Rattle.setchain.specs.Years.{share_figure, mean_figure}
use Rattle.scheme.specs.declared.Scheme.{Scheme}
use Rattle.scheme.specs.Access.{premium_at}
use Rattle.scheme.specs.Accepted.{Accepted}
use Rattle.scheme.specs.Rows.{chain_of}
use Rattle.setchain.specs.Sums.{at}
use Rattle.bounds_spec.specs.Answers.{start_of}
use Rattle.bounds_spec.specs.Table.{place_of}
use Rattle.bounds_spec.specs.Causes.{table_size}
use Rattle.bounds.specs.Years.{SeriesStored}
use Rattle.bounds.specs.Money.{TenthsPost}

-- What it takes to write the figures of a scheme: it is accepted, and the slice has as many numbers as they are.
pub record WritePre (s : Scheme) (count : ℕ) (out : List ℕ) : Type 0 where
  pub accepted : Accepted s
  pub size : length out ≡ count

-- The share of state j after `year` years.
abbrev pub share_of : (high : Bool) → Scheme → (year j : ℕ) → ℕ
share_of high s year j = share_figure high (chain_of s) j year (start_of s)

-- The shares of the first j classes stand at their places in every year.
pub record ShareColumnsPost (high : Bool) (s : Scheme) (out : List ℕ) (j : ℕ) : Type 0 where
  pub size : length out ≡ table_size s
  pub inside : j ≤ s.classes
  pub done : (k : ℕ) → k < j → (t : ℕ) → t ≤ s.horizon → at out (place_of s t k) ≡ share_of high s t k

-- What the means take: an accepted scheme, and its premiums in tenths.
pub record MeanColumnPre (s : Scheme) (premiums : List ℕ) : Type 0 where
  pub accepted : Accepted s
  pub tenths : TenthsPost s.premiums premiums

-- The mean of each year stands at its place, counted from that of year 0.
abbrev pub MeanColumnPost : (high : Bool) → Scheme → (before after : List ℕ) → Type 0
MeanColumnPost high s = SeriesStored (λ t. mean_figure high (chain_of s) (premium_at s) t (start_of s)) (s.classes + 1) (s.horizon + 1)
