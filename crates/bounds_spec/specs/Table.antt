-- All figures of a sheet in one table (document 01, "Sheet program and examples"): for each year from 0 to the horizon the shares of the
-- classes in order and the mean premium, and last the total of the horizon's premiums.
use Rattle.std.specs.Prelude.{ℕ, suc, ◌+◌, ◌*◌, ◌/◌, ◌%◌, Bool, true, false, cond, List, ltb, length}
use Rattle.setchain.specs.Years.{share_figure, mean_figure, total_figure}
use Rattle.scheme.specs.declared.Scheme.{Scheme}
use Rattle.scheme.specs.Tables.{tab}
use Rattle.scheme.specs.Access.{premium_at}
use Rattle.scheme.specs.Rows.{chain_of}
use Rattle.bounds_spec.specs.Causes.{table_lengths_cause, total_place, table_size}
use Rattle.bounds_spec.specs.Answers.{start_of}

-- The place of year t's figure j: the share of state j, or the mean where j is s.
abbrev pub place_of : Scheme → ℕ → ℕ → ℕ
place_of s t j = t * suc s.classes + j

-- What stands at place p.
unfoldable pub table_entry : Scheme → (share : ℕ → ℕ → ℕ) → (mean : ℕ → ℕ) → (total p : ℕ) → ℕ
table_entry s share mean total p =
    cond (ltb p (total_place s))
    (cond (ltb (p % suc s.classes) s.classes) (share (p / suc s.classes) (p % suc s.classes)) (mean (p / suc s.classes)))
    total

-- All figures, low or high.
unfoldable pub figure_table : (high : Bool) → Scheme → List ℕ
figure_table high s =
    tab (table_size s)
    (table_entry s
    (λ t j. share_figure high (chain_of s) j t (start_of s))
    (λ t. mean_figure high (chain_of s) (premium_at s) t (start_of s))
    (total_figure high (chain_of s) (premium_at s) s.horizon (start_of s)))

-- The low figures.
abbrev pub low_table : Scheme → List ℕ
low_table = figure_table false

-- The high figures.
abbrev pub high_table : Scheme → List ℕ
high_table = figure_table true

-- Causes 3 and 5 to 10, then 13: a slice that is not of the table's size.
unfoldable pub table_cause : Scheme → List ℕ → List ℕ → ℕ
table_cause s low high = table_lengths_cause s (length low) (length high)
