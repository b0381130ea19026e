-- The sheet of any bytes (document 01, "Sheet program and examples"): the lines of an accepted record, or the refusal's line.
use Rattle.std.specs.Prelude.{ℕ, suc, cond, List, ◌++◌, eqb}
use Rattle.setchain.specs.Years.{low_share, high_share, low_mean, high_mean, low_total, high_total}
use Rattle.scheme.specs.declared.Scheme.{Scheme}
use Rattle.scheme.specs.Access.{premium_at}
use Rattle.scheme.specs.Rows.{chain_of}
use Rattle.record_spec.specs.Joined.{joined}
use Rattle.record_spec.specs.Layout.{scheme_in}
use Rattle.record_spec.specs.Read.{read_cause}
use Rattle.bounds_spec.specs.Answers.{start_of}
use Rattle.sheet_spec.specs.Text.{field, newline, scheme_word, year_word, class_word, premium_word, total_word, refused_word}

-- "SCHEME carries s, m, start, horizon."
unfoldable pub scheme_line : (classes columns start horizon : ℕ) → List ℕ
scheme_line classes columns start horizon = scheme_word ++ field classes ++ field columns ++ field start ++ field horizon ++ newline

-- "a line for each class in order, with year and class number": class j + 1.
unfoldable pub class_line : (year j low high : ℕ) → List ℕ
class_line year j low high = year_word ++ field year ++ class_word ++ field (suc j) ++ field low ++ field high ++ newline

-- "and its PREMIUM line".
unfoldable pub premium_line : (year low high : ℕ) → List ℕ
premium_line year low high = year_word ++ field year ++ premium_word ++ field low ++ field high ++ newline

-- The class lines of one year.
abbrev pub class_lines : Scheme → ℕ → List ℕ
class_lines s year =
    joined s.classes
    (λ j. class_line year j (low_share (chain_of s) j year (start_of s)) (high_share (chain_of s) j year (start_of s)))

-- The PREMIUM line of one year.
abbrev pub year_premium : Scheme → ℕ → List ℕ
year_premium s year = premium_line year (low_mean (chain_of s) (premium_at s) year (start_of s)) (high_mean (chain_of s) (premium_at s) year (start_of s))

-- The lines of one year.
unfoldable pub year_lines : Scheme → ℕ → List ℕ
year_lines s year = class_lines s year ++ year_premium s year

-- "TOTAL, t being the horizon, comes last."
unfoldable pub total_line : (low high : ℕ) → List ℕ
total_line low high = total_word ++ field low ++ field high ++ newline

-- "Then each year from 0 to the horizon".
unfoldable pub sheet_of : Scheme → List ℕ
sheet_of s =
    scheme_line s.classes s.columns s.start s.horizon
    ++ joined (suc s.horizon) (year_lines s)
    ++ total_line (low_total (chain_of s) (premium_at s) s.horizon (start_of s)) (high_total (chain_of s) (premium_at s) s.horizon (start_of s))

-- "or `REFUSED ` and the number".
unfoldable pub refused_line : ℕ → List ℕ
refused_line number = refused_word ++ field number ++ newline

-- "All of the input is the record."
unfoldable pub sheet_text : List ℕ → List ℕ
sheet_text bytes = cond (eqb (read_cause bytes) 0) (sheet_of (scheme_in bytes)) (refused_line (read_cause bytes))
