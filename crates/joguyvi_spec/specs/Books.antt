-- Pooled figures of a record over a lent book, and two lent books joined (document 02, item 7).
use Rattle.std.specs.Prelude.{ℕ, ◌≡◌, true, false, List, [], ◌∷◌, length}
use Rattle.scheme.specs.FirstCause.{first_of}
use Rattle.scheme.specs.Cause.{slices_cause}
use Rattle.record_spec.specs.Layout.{scheme_in}
use Rattle.record_spec.specs.Read.{read_cause}
use Rattle.book_spec.specs.Book.{JoinAnswer, join_answer}
use Rattle.bounds_spec.specs.Answers.{BoundsAnswer, Answered, Refused, answer_by}
use Rattle.bounds_spec.specs.Pooled.{Figure, pooled_answer, pooled_sheet_cause, pooled_shares, PooledKept, PooledSheetPromise}
use Rattle.joguyvi_spec.specs.Buffers.{first32, buffer_cause, filled_where, BufferPost}
use Rattle.joguyvi_spec.specs.Figures.{BoundsCall}

-- An answer over a lent book: 13 where the book is not of 32 counts, tested after the answer's own causes.
abbrev pub lent_answer : (book : List ℕ) → BoundsAnswer → BoundsAnswer
lent_answer book (Answered low high) = answer_by (buffer_cause 32 book) low high
lent_answer book (Refused number) = Refused number

-- joguyvi_pooled_share, joguyvi_pooled_mean and joguyvi_pooled_total: low and high of the pooled figure, as `BoundsCall` says.
abbrev pub PooledCall : Figure → (bytes book : List ℕ) (year : ℕ) (out : List ℕ) (number : ℕ) (out' : List ℕ) → Type 0
PooledCall figure bytes book year =
    BoundsCall (λ s. lent_answer book (pooled_answer s (first32 book) figure year)) (λ s. PooledKept s (first32 book) figure year) bytes

-- The number for a pooled share sheet: the cause of reading, then that of the sheet, where 13 stands last, then 13 for the book.
abbrev pub pooled_number : (bytes book : List ℕ) (year : ℕ) (low high : List ℕ) → ℕ
pooled_number bytes book year low high = first_of (read_cause bytes ∷ pooled_sheet_cause (scheme_in bytes) (first32 book) year low high ∷ buffer_cause 32 book ∷ [])

-- joguyvi_pooled_share_sheet: what it answers and leaves.
pub record PooledSheetCall (bytes book : List ℕ) (year : ℕ) (low high : List ℕ) (number : ℕ) (low' high' : List ℕ) : Type 0 where
  pub answer : number ≡ pooled_number bytes book year low high
  pub lows : low' ≡ filled_where number (pooled_shares false (scheme_in bytes) (first32 book) year) low
  pub highs : high' ≡ filled_where number (pooled_shares true (scheme_in bytes) (first32 book) year) high
  -- The buffers' numbers keep what is promised (crate bounds_spec, `Pooled`).
  pub promise : PooledSheetPromise (scheme_in bytes) (first32 book) year number low' high'

-- The number for a joined book put into a buffer: its cause, then 13 where a book, lent in a buffer of some length, or the buffer is not of 32 counts.
abbrev pub put_book_number : JoinAnswer → (first second : ℕ) (out : List ℕ) → ℕ
put_book_number answer first second out = first_of (answer.number ∷ slices_cause 32 first second ∷ buffer_cause 32 out ∷ [])

-- joguyvi_join: what it answers and leaves for two lent books.
abbrev pub JoinCall : (first second out : List ℕ) (number : ℕ) (out' : List ℕ) → Type 0
JoinCall first second out =
    let answer : JoinAnswer = join_answer (first32 first) (first32 second) in
    BufferPost (put_book_number answer (length first) (length second) out) answer.book out
