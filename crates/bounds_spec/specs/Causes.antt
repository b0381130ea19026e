-- The first cause for which a query of a scheme is declined (document 01, "When a call is declined").
use Rattle.std.specs.Prelude.{ℕ, suc, ◌+◌, ◌*◌, [], ◌∷◌}
use Rattle.scheme.specs.declared.Scheme.{Scheme}
use Rattle.scheme.specs.FirstCause.{first_of}
use Rattle.scheme.specs.Cause.{cause_of, class_cause, year_cause, slices_cause}

-- Of the share of a class: causes 3, 5 to 10, 11, then 12.
abbrev pub share_cause : Scheme → ℕ → ℕ → ℕ
share_cause s class year = first_of (cause_of s ∷ class_cause s class ∷ year_cause s year ∷ [])

-- Of money: causes 3, 5 to 10, then 12.
abbrev pub money_cause : Scheme → ℕ → ℕ
money_cause s year = first_of (cause_of s ∷ year_cause s year ∷ [])

-- Of a share sheet into slices of two lengths: causes 3, 5 to 10, 12, then 13.
abbrev pub sheet_lengths_cause : Scheme → (year low high : ℕ) → ℕ
sheet_lengths_cause s year low high = first_of (money_cause s year ∷ slices_cause s.classes low high ∷ [])

-- The place of the total in the table of all figures, after the shares and the mean of every year.
abbrev pub total_place : Scheme → ℕ
total_place s = suc s.horizon * suc s.classes

-- How many numbers the table has.
abbrev pub table_size : Scheme → ℕ
table_size s = total_place s + 1

-- Of the table into slices of two lengths: causes 3, 5 to 10, then 13.
abbrev pub table_lengths_cause : Scheme → (low high : ℕ) → ℕ
table_lengths_cause s low high = first_of (cause_of s ∷ slices_cause (table_size s) low high ∷ [])
