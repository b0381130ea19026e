-- The answers of the two row operations: the interval row (document 01, "Interval rows") and the tight row (document 02, item 2).
use Rattle.std.specs.Prelude.{ℕ, ◌-◌, cond, List, [], ◌∷◌, eqb, ltb, replicate, Result, Ok, Err}
use Rattle.setchain.specs.Sums.{only_if}
use Rattle.setchain.specs.Rows.{IntervalRow}
use Rattle.setchain.specs.Tight.{tight_row}
use Rattle.scheme.specs.declared.Scheme.{Scheme}
use Rattle.scheme.specs.declared.Cause.{Cause}
use Rattle.scheme.specs.declared.Row.{Row}
use Rattle.scheme.specs.Tables.{tab}
use Rattle.scheme.specs.FirstCause.{first_of}
use Rattle.scheme.specs.Cause.{cause_of, class_cause}
use Rattle.scheme.specs.Number.{cause_number}
use Rattle.scheme.specs.Rows.{chain_of}

-- What a row operation answers: the number of the cause, or 0, and the lower and upper entries.
pub record RowAnswer : Type 0 where
  pub number : ℕ
  pub lower : List ℕ
  pub upper : List ℕ

-- The cause of both: 3, 5 to 10, then 11.
abbrev pub row_cause : Scheme → ℕ → ℕ
row_cause s class = first_of (cause_of s ∷ class_cause s class ∷ [])

-- A refusal: the number, and 0 everywhere else.
abbrev pub row_refused : ℕ → RowAnswer
row_refused number = record { number = number; lower = replicate 32 0; upper = replicate 32 0 }

-- The answer of a row, or of the cause for which there is none.
abbrev pub row_answer_of : Result Row Cause → RowAnswer
row_answer_of (Ok row) = record { number = 0; lower = row.lower; upper = row.upper }
row_answer_of (Err cause) = row_refused (cause_number cause)

-- The answer that a row makes over n classes: "lower and upper, with 0 beyond s".
unfoldable pub row_answered : ℕ → IntervalRow → RowAnswer
row_answered n r = record { number = 0; lower = tab 32 (λ j. only_if (ltb j n) (r.lower j)); upper = tab 32 (λ j. only_if (ltb j n) (r.upper j)) }

-- A row by its cause; declined: the number, and 0 everywhere.
abbrev pub row_by : ℕ → RowAnswer → RowAnswer
row_by number row = cond (eqb number 0) row (row_refused number)

-- The interval row of class i + 1.
abbrev pub interval_at : Scheme → ℕ → RowAnswer
interval_at s i = row_answered s.classes ((chain_of s).row i)

-- The interval row of a queried class, on which all figures rest.
abbrev pub interval_answer : Scheme → ℕ → RowAnswer
interval_answer s class = row_by (row_cause s class) (interval_at s (class - 1))

-- The tight row of class i + 1.
abbrev pub row_at : Scheme → ℕ → RowAnswer
row_at s i = row_answered s.classes (tight_row s.classes ((chain_of s).row i))

-- "The row of a queried class is public, lower and upper, with 0 beyond s" (document 01): the tight row.
abbrev pub row_answer : Scheme → ℕ → RowAnswer
row_answer s class = row_by (row_cause s class) (row_at s (class - 1))
