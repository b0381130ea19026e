-- What the calls answer (document 01, "Years" and "When a call is declined").
use Rattle.std.specs.Prelude.{ℕ, ◌-◌, Bool, true, false, cond, List, eqb, length, Result, Ok, Err}
use Rattle.scheme.specs.declared.Cause.{Cause}
use Rattle.scheme.specs.Number.{cause_number}
use Rattle.bounds_spec.specs.declared.Bounds.{Bounds}
use Rattle.setchain.specs.Years.{share_figure, low_share, high_share, low_mean, high_mean, low_total, high_total}
use Rattle.scheme.specs.declared.Scheme.{Scheme}
use Rattle.scheme.specs.Tables.{tab}
use Rattle.scheme.specs.Access.{premium_at}
use Rattle.scheme.specs.Rows.{chain_of}
use Rattle.bounds_spec.specs.Causes.{sheet_lengths_cause, share_cause, money_cause}

-- What a call for bounds answers: low and high, or the number of the cause.
pub data BoundsAnswer : Type 0 where
  Answered : (low high : ℕ) → BoundsAnswer
  Refused : (number : ℕ) → BoundsAnswer

-- The answer of bounds, or of the cause for which there are none.
abbrev pub bounds_answer_of : Result Bounds Cause → BoundsAnswer
bounds_answer_of (Ok bounds) = Answered bounds.low bounds.high
bounds_answer_of (Err cause) = Refused (cause_number cause)

-- The number of document 01's table, 0 where low and high are answered.
abbrev pub number_of : BoundsAnswer → ℕ
number_of (Answered low high) = 0
number_of (Refused number) = number

-- The low figure answered.
abbrev pub low_of : BoundsAnswer → ℕ
low_of (Answered low high) = low
low_of (Refused number) = 0

-- The high figure answered.
abbrev pub high_of : BoundsAnswer → ℕ
high_of (Answered low high) = high
high_of (Refused number) = 0

-- Low and high where there is no cause, and otherwise the cause's number only.
abbrev pub answer_by : ℕ → ℕ → ℕ → BoundsAnswer
answer_by number low high = cond (eqb number 0) (Answered low high) (Refused number)

-- The start class as a state: class 1 is state 0.
abbrev pub start_of : Scheme → ℕ
start_of s = s.start - 1

-- The share of a class after a number of years: "The answer is the start class's figure."
unfoldable pub share_answer : Scheme → ℕ → ℕ → BoundsAnswer
share_answer s class year =
    answer_by (share_cause s class year)
    (low_share (chain_of s) (class - 1) year (start_of s))
    (high_share (chain_of s) (class - 1) year (start_of s))

-- The mean premium of a year.
unfoldable pub mean_answer : Scheme → ℕ → BoundsAnswer
mean_answer s year =
    answer_by (money_cause s year)
    (low_mean (chain_of s) (premium_at s) year (start_of s))
    (high_mean (chain_of s) (premium_at s) year (start_of s))

-- The total of as many premiums as there are years.
unfoldable pub total_answer : Scheme → ℕ → BoundsAnswer
total_answer s year =
    answer_by (money_cause s year)
    (low_total (chain_of s) (premium_at s) year (start_of s))
    (high_total (chain_of s) (premium_at s) year (start_of s))

-- The cause of a share sheet into two slices: 3, 5 to 10, 12, then 13.
unfoldable pub sheet_cause : Scheme → ℕ → List ℕ → List ℕ → ℕ
sheet_cause s year low high = sheet_lengths_cause s year (length low) (length high)

-- The slice `before` after a share sheet with cause `number`: "filled on success", and left as it was where the call is declined.
abbrev pub sheet_slice : ℕ → List ℕ → List ℕ → List ℕ
sheet_slice number shares before = cond (eqb number 0) shares before

-- The shares of all classes in order, low or high.
unfoldable pub figure_shares : (high : Bool) → Scheme → ℕ → List ℕ
figure_shares high s year = tab s.classes (λ j. share_figure high (chain_of s) j year (start_of s))

-- The low shares.
abbrev pub low_shares : Scheme → ℕ → List ℕ
low_shares = figure_shares false

-- The high shares.
abbrev pub high_shares : Scheme → ℕ → List ℕ
high_shares = figure_shares true
