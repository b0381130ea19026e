-- An opening book (document 02, item 7): "A book is 32 counts, one a class, each at most 1,000,000"; what lies past a book's end counts as 0.
use Rattle.std.specs.Prelude.{ℕ, ◌+◌, Bool, cond, ◌||◌, List, [], ◌∷◌, eqb, ltb, replicate, Result, Ok, Err}
use Rattle.scheme.specs.declared.Cause.{Cause}
use Rattle.scheme.specs.Number.{cause_number}
use Rattle.setchain.specs.Sums.{at}
use Rattle.setchain.specs.Tests.{any_below, all_below}
use Rattle.scheme.specs.Tables.{tab}
use Rattle.scheme.specs.FirstCause.{◌when◌, first_of}

-- What joining two books answers: the number of the cause, or 0; and the joined book.
pub record JoinAnswer : Type 0 where
  pub number : ℕ
  pub book : List ℕ

-- The answer of a joined book, or of the cause for which there is none.
abbrev pub join_answer_of : Result (List ℕ) Cause → JoinAnswer
join_answer_of (Ok book) = record { number = 0; book = book }
join_answer_of (Err cause) = record { number = cause_number cause; book = replicate 32 0 }

-- One of the first n counts is above 1,000,000.
unfoldable pub count_out : ℕ → List ℕ → Bool
count_out n book = any_below n (λ i. ltb 1000000 (at book i))

-- Every one of the first n counts is 0.
unfoldable pub no_chamber : ℕ → List ℕ → Bool
no_chamber n book = all_below n (λ i. eqb (at book i) 0)

-- Of pooling over n classes, "pooling ignores those beyond s": 18, then 19.
abbrev pub book_cause : (n : ℕ) → List ℕ → ℕ
book_cause n book = first_of (18 when count_out n book ∷ 19 when no_chamber n book ∷ [])

-- "Two books join by adding all 32 counts, with no scheme."
unfoldable pub joined_book : (first second : List ℕ) → List ℕ
joined_book first second = tab 32 (λ i. at first i + at second i)

-- "18 if a count (… in joining all 32 of both books), or a joined count, is above 1,000,000".
unfoldable pub join_cause : (first second : List ℕ) → ℕ
join_cause first second = 18 when (count_out 32 first || count_out 32 second || count_out 32 (joined_book first second))

-- The joined book where there is no cause, and 32 times 0 otherwise.
unfoldable pub join_answer : (first second : List ℕ) → JoinAnswer
join_answer first second =
    let number : ℕ = join_cause first second in
    record { number = number; book = cond (eqb number 0) (joined_book first second) (replicate 32 0) }
