-- The lines of a sheet by the figures in two tables, low and high, s shares and a mean for each year.
use Rattle.std.specs.Prelude.{ℕ, suc, ◌+◌, ◌*◌, List, ◌++◌, get_or}
use Rattle.record_spec.specs.Joined.{joined}
use Rattle.sheet_spec.specs.Sheet.{class_line, premium_line}

-- Class j's line of a year, whose figures stand from place `base` on.
abbrev pub class_text : (low high : List ℕ) → (year base j : ℕ) → List ℕ
class_text low high year base j = class_line year j (get_or low (base + j) 0) (get_or high (base + j) 0)

-- The lines of a year.
unfoldable pub year_text : (low high : List ℕ) → (s year : ℕ) → List ℕ
year_text low high s year =
    joined s (class_text low high year (year * suc s))
    ++ premium_line year (get_or low (year * suc s + s) 0) (get_or high (year * suc s + s) 0)
