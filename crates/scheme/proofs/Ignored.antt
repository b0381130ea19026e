-- Acceptance and the row operations look at no value beyond s and m (document 01, "Units and the scheme").
use Rattle.std.specs.Prelude.{ℕ, ◌-◌, ◌≡◌}
use Rattle.std.proofs.Common.{ap, ap₂, arith}
use Rattle.setchain.specs.Rows.{IntervalRow}
use Rattle.setchain.specs.Tight.{tight_row}
use Rattle.scheme.specs.declared.Scheme.{Scheme}
use Rattle.scheme.specs.RowAnswer.{RowAnswer}
use Rattle.scheme.specs.Cause.{cause_of, class_cause}
use Rattle.scheme.specs.Rows.{chain_of}
use Rattle.scheme.specs.Stored.{cleared}
use Rattle.scheme.specs.Values.{SameValues}
use Rattle.scheme.specs.RowAnswer.{row_cause, row_refused, row_answered, row_by, interval_answer, row_answer}
use Rattle.scheme.proofs.Laws.FirstCause.{first_none, second_none, by_cause}
use Rattle.scheme.proofs.Laws.Cause.{class_fits}
use Rattle.scheme.proofs.Laws.Values.{Alike, same, alike_cause, alike_values, alike_same, next_same, cleared_alike, class_same, row_same}

-- "Values stored beyond s or m are ignored": every scheme, accepted or not, has the same first cause as with 0 for them.
pub cause_ignored : (s : Scheme) → cause_of s ≡ cause_of (cleared s)
cause_ignored s = alike_cause (cleared_alike s)

-- A row operation: an answer that is made of s and the class's interval row.
module _ (make : ℕ → IntervalRow → RowAnswer) where
  alike_row : {s s' : Scheme} → Alike s s' → (class : ℕ)
      → row_by (row_cause s class) (make s.classes ((chain_of s).row (class - 1))) ≡ row_by (row_cause s' class) (make s'.classes ((chain_of s').row (class - 1)))
  alike_row {s} {s'} w class =
      by_cause cause
      (λ z.
      let fits = class_fits s.classes class (second_none (cause_of s) (class_cause s class) z) in
      let v = alike_values w (first_none (cause_of s) (class_cause s class) z) in
      ap₂ make v.others.classes (row_same v (class - 1) (omega arith)))
      (ap row_refused cause)
    where
      cause : row_cause s class ≡ row_cause s' class
      cause = next_same (alike_same w) (λ v. class_same v class)

-- What both row operations answer for one scheme and for another.
pub record RowsSame (s s' : Scheme) : Type 0 where
  pub interval : (class : ℕ) → interval_answer s class ≡ interval_answer s' class
  pub tight : (class : ℕ) → row_answer s class ≡ row_answer s' class

alike_rows : {s s' : Scheme} → Alike s s' → RowsSame s s'
alike_rows w = record { interval = alike_row row_answered w; tight = alike_row (λ n r. row_answered n (tight_row n r)) w }

-- Schemes with the same values have the same rows, declined or not.
pub same_rows : {s s' : Scheme} → SameValues s s' → RowsSame s s'
same_rows v = alike_rows (same v)

-- "Values stored beyond s or m are ignored": every scheme, accepted or not, has the same rows as with 0 for them.
pub rows_ignored : (s : Scheme) → RowsSame s (cleared s)
rows_ignored s = alike_rows (cleared_alike s)
