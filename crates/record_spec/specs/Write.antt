-- What writing a record answers, and what the lent slice holds afterwards (document 01, "Record" and "When a call is declined", and document 02, item 5).
use Rattle.std.specs.Prelude.{ℕ, ◌≡◌, cond, List, [], ◌∷◌, ◌++◌, eqb, ltb, length, take, drop, Result, Ok, Err}
use Rattle.scheme.specs.declared.Cause.{Cause}
use Rattle.scheme.specs.Number.{cause_number}
use Rattle.scheme.specs.declared.Scheme.{Scheme}
use Rattle.scheme.specs.FirstCause.{◌when◌, first_of}
use Rattle.scheme.specs.Cause.{cause_of}
use Rattle.scheme.specs.Values.{SameValues}
use Rattle.record_spec.specs.Read.{ReadAnswer, read_answer}
use Rattle.record_spec.specs.Layout.{other_version, layout_of, length_of}
use Rattle.record_spec.specs.Bytes.{bytes_of}

-- What writing a record, or a text, into a lent slice answers: the length of what was written, or the number of the cause.
pub data WriteAnswer : Type 0 where
  Written : (length : ℕ) → WriteAnswer
  Declined : (number : ℕ) → WriteAnswer

-- The answer of a length, or of the cause for which nothing was written.
abbrev pub write_answer_of : Result ℕ Cause → WriteAnswer
write_answer_of (Ok length) = Written length
write_answer_of (Err cause) = Declined (cause_number cause)

-- The number of each answer: 0 where a record or a text was written.
abbrev pub write_number : WriteAnswer → ℕ
write_number (Written length) = 0
write_number (Declined number) = number

-- The value of each answer: the length of what was written, and none where the call was declined.
abbrev pub written_length : WriteAnswer → ℕ
written_length (Written length) = length
written_length (Declined number) = 0

-- The record that is written for a scheme: "The writer is told which" version.
abbrev pub record_of : Scheme → (version : ℕ) → List ℕ
record_of s version = bytes_of (layout_of version) s

-- Its length.
abbrev pub record_length : Scheme → (version : ℕ) → ℕ
record_length s version = length_of (layout_of version) s.classes s.columns

-- "another version is cause 1, tested first"; causes 3 and 5 to 10 by the scheme, then cause 13: "writer's slice under the length".
abbrev pub write_cause : Scheme → (version : ℕ) → List ℕ → ℕ
write_cause s version out = first_of (1 when other_version version ∷ cause_of s ∷ 13 when ltb (length out) (record_length s version) ∷ [])

-- "The writer returns the length".
unfoldable pub write_answer : Scheme → (version : ℕ) → List ℕ → WriteAnswer
write_answer s version out = cond (eqb (write_cause s version out) 0) (Written (record_length s version)) (Declined (write_cause s version out))

-- "and leaves bytes past it unchanged"; declined, all of them.
unfoldable pub write_leaves : Scheme → (version : ℕ) → List ℕ → List ℕ
write_leaves s version out = cond (eqb (write_cause s version out) 0) (record_of s version ++ drop (record_length s version) out) out

-- "written and read, a scheme keeps each value it uses": reading answers no cause, and a scheme with the same values.
pub record Reread (s : Scheme) (answer : ReadAnswer) : Type 0 where
  pub number : answer.number ≡ 0
  pub values : SameValues s answer.scheme

-- What the answer promises of the first bytes of the slice afterwards, as many as it says.
abbrev pub WritePromise : Scheme → (after : List ℕ) → WriteAnswer → Type 0
WritePromise s after r = write_number r ≡ 0 → Reread s (read_answer (take (written_length r) after))
