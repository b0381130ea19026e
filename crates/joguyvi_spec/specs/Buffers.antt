-- Lent buffers: cause 13 by their length, filled where the number is 0, and left as they were otherwise; ' marks a buffer after a call.
use Rattle.std.specs.Prelude.{ℕ, ◌-◌, ◌≡◌, cond, List, ◌++◌, eqb, leb, length, take, replicate}
use Rattle.setchain.specs.Sums.{at}
use Rattle.scheme.specs.Tables.{tab}
use Rattle.scheme.specs.Cause.{slice_cause, slices_cause}

-- 32 numbers of a lent payoff or book: what is missing counts as 0, and what lies beyond 32 is ignored.
unfoldable pub first32 : List ℕ → List ℕ
first32 numbers = tab 32 (at numbers)

-- The first 32 of a list, with one value for what is missing.
abbrev pub padded32 : {A : Type 0} → A → List A → List A
padded32 missing l = take 32 l ++ replicate (32 - length l) missing

-- Cause 13: a buffer that is not of so many numbers.
abbrev pub buffer_cause : ℕ → List ℕ → ℕ
buffer_cause size out = slice_cause size (length out)

-- Cause 13 of two buffers of the same size.
abbrev pub buffers_cause : ℕ → (one other : List ℕ) → ℕ
buffers_cause size one other = slices_cause size (length one) (length other)

-- A buffer after a call that answers `number`: filled where it is 0, and left as it was otherwise.
abbrev pub filled_where : (number : ℕ) (full before : List ℕ) → List ℕ
filled_where number full before = cond (eqb number 0) full before

-- A buffer into which the first numbers of a list are copied, as many as it has; where the list has fewer it is left as it was.
abbrev pub copied_front : (from before : List ℕ) → List ℕ
copied_front from before = cond (leb (length before) (length from)) (tab (length before) (at from)) before

-- What a call answers and leaves that fills one buffer.
pub record BufferPost (cause : ℕ) (full before : List ℕ) (number : ℕ) (before' : List ℕ) : Type 0 where
  pub answer : number ≡ cause
  pub filled : before' ≡ filled_where number full before

-- What a call answers and leaves that fills two buffers.
pub record BuffersPost (cause : ℕ) (full otherFull one other : List ℕ) (number : ℕ) (one' other' : List ℕ) : Type 0 where
  pub answer : number ≡ cause
  pub filled : one' ≡ filled_where number full one
  pub other_filled : other' ≡ filled_where number otherFull other
