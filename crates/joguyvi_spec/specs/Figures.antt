-- Low and high of a record, as a number and a lent buffer of 2 numbers.
use Rattle.std.specs.Prelude.{ℕ, ◌-◌, ◌≡◌, List, [], ◌∷◌, get_or}
use Rattle.scheme.specs.FirstCause.{first_of}
use Rattle.scheme.specs.declared.Scheme.{Scheme}
use Rattle.record_spec.specs.Layout.{scheme_in}
use Rattle.record_spec.specs.Read.{read_cause}
use Rattle.bounds_spec.specs.Answers.{BoundsAnswer, number_of, low_of, high_of, share_answer, mean_answer, total_answer}
use Rattle.bounds_spec.specs.Promises.{ShareKept, MoneyKept, start_share, start_mean, start_total}
use Rattle.bounds_spec.specs.Reached.{reached_answer, start_reached}
use Rattle.joguyvi_spec.specs.Buffers.{buffer_cause, filled_where, BufferPost}

-- Low and high into a buffer: their cause, then 13 where the buffer is not of 2 numbers.
unfoldable pub put_number : BoundsAnswer → List ℕ → ℕ
put_number b out = first_of (number_of b ∷ buffer_cause 2 out ∷ [])

-- Low, then high, as a buffer of 2 numbers.
abbrev pub low_and_high : BoundsAnswer → List ℕ
low_and_high b = low_of b ∷ high_of b ∷ []

-- What is answered and left for low and high.
abbrev pub BoundsPost : BoundsAnswer → (out : List ℕ) (number : ℕ) (out' : List ℕ) → Type 0
BoundsPost b out = BufferPost (put_number b out) (low_and_high b) out

-- The number for a record's low and high: the cause of reading comes first.
abbrev pub bounds_number : List ℕ → BoundsAnswer → List ℕ → ℕ
bounds_number bytes b out = first_of (read_cause bytes ∷ put_number b out ∷ [])

-- What a call for low and high answers and leaves, where `query` answers for a scheme and `kept` is what low and high promise.
pub record BoundsCall (query : Scheme → BoundsAnswer) (kept : Scheme → (low high : ℕ) → Type 0) (bytes out : List ℕ) (number : ℕ) (out' : List ℕ) : Type 0 where
  -- The cause of reading, then that of the answer, then 13.
  pub answer : number ≡ bounds_number bytes (query (scheme_in bytes)) out
  pub figures : out' ≡ filled_where number (low_and_high (query (scheme_in bytes))) out
  -- The buffer's two numbers keep what is promised (crate bounds_spec, `Promises`).
  pub promise : number ≡ 0 → kept (scheme_in bytes) (get_or out' 0 0) (get_or out' 1 0)

-- joguyvi_share: the share of a class after a number of years.
abbrev pub ShareCall : (bytes : List ℕ) (class year : ℕ) (out : List ℕ) (number : ℕ) (out' : List ℕ) → Type 0
ShareCall bytes class year = BoundsCall (λ s. share_answer s class year) (λ s. ShareKept s year (start_share s (class - 1))) bytes

-- joguyvi_reached: the chance of having reached a class by a year.
abbrev pub ReachedCall : (bytes : List ℕ) (class year : ℕ) (out : List ℕ) (number : ℕ) (out' : List ℕ) → Type 0
ReachedCall bytes class year = BoundsCall (λ s. reached_answer s class year) (λ s. ShareKept s year (start_reached s (class - 1))) bytes

-- joguyvi_mean: the mean premium of a year.
abbrev pub MeanCall : (bytes : List ℕ) (year : ℕ) (out : List ℕ) (number : ℕ) (out' : List ℕ) → Type 0
MeanCall bytes year = BoundsCall (λ s. mean_answer s year) (λ s. MoneyKept s year (start_mean s)) bytes

-- joguyvi_total: the total of as many premiums as there are years.
abbrev pub TotalCall : (bytes : List ℕ) (year : ℕ) (out : List ℕ) (number : ℕ) (out' : List ℕ) → Type 0
TotalCall bytes year = BoundsCall (λ s. total_answer s year) (λ s. MoneyKept s year (start_total s)) bytes
