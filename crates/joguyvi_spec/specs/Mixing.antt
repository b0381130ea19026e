-- The mixing check of a record, as a number and a lent buffer of 1 number (document 02, items 3 and 11).
use Rattle.std.specs.Prelude.{ℕ, ◌≡◌, List, [], ◌∷◌}
use Rattle.scheme.specs.FirstCause.{first_of}
use Rattle.record_spec.specs.Layout.{scheme_in}
use Rattle.record_spec.specs.Read.{read_cause}
use Rattle.mixing_spec.specs.MixingAnswer.{MixingAnswer, first_count, mixing_number}
use Rattle.joguyvi_spec.specs.Buffers.{buffer_cause, filled_where, BufferPost}

-- A count into a buffer: its cause, then 13 where the buffer is not of 1 number.
abbrev pub put_count_number : MixingAnswer → List ℕ → ℕ
put_count_number answer out = first_of (answer.number ∷ buffer_cause 1 out ∷ [])

-- What is answered and left for it.
abbrev pub PutCountPost : MixingAnswer → (out : List ℕ) (number : ℕ) (out' : List ℕ) → Type 0
PutCountPost answer out = BufferPost (put_count_number answer out) (answer.count ∷ []) out

-- The number for a record: the cause of reading, then that of the mixing check, then 13.
abbrev pub mixing_call_number : (bytes out : List ℕ) → ℕ
mixing_call_number bytes out = first_of (read_cause bytes ∷ mixing_number (scheme_in bytes) ∷ buffer_cause 1 out ∷ [])

-- joguyvi_mixing: what it answers and leaves.
pub record MixingCall (bytes out : List ℕ) (number : ℕ) (out' : List ℕ) : Type 0 where
  pub answer : number ≡ mixing_call_number bytes out
  pub filled : out' ≡ filled_where number (first_count (scheme_in bytes) ∷ []) out
