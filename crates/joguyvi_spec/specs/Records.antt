-- A record checked, a scheme as a record, a record written again, and a ready scheme as a record.
use Rattle.std.specs.Prelude.{ℕ, ◌≡◌, List, [], ◌∷◌, ◌++◌, length, take, drop}
use Rattle.scheme.specs.declared.Scheme.{Scheme}
use Rattle.scheme.specs.FirstCause.{◌when◌, first_of}
use Rattle.record_spec.specs.Layout.{other_version, version_in, scheme_in}
use Rattle.record_spec.specs.Read.{read_cause, read_answer}
use Rattle.record_spec.specs.Write.{record_length, write_number, written_length, write_answer, write_leaves}
use Rattle.ready_spec.specs.Answer.{ready_answer}
use Rattle.joguyvi_spec.specs.Buffers.{buffer_cause, filled_where, BuffersPost}

-- The number for a record that is checked: the cause of reading.
abbrev pub check_number : List ℕ → ℕ
check_number bytes = read_cause bytes

-- joguyvi_check: what it answers.
pub record CheckCall (bytes : List ℕ) (number : ℕ) : Type 0 where
  pub answer : number ≡ check_number bytes

-- The cause of writing in a version, then 13 where the buffer for the length is not of 1 number.
abbrev pub record_number : Scheme → (version : ℕ) (out size : List ℕ) → ℕ
record_number s version out size = first_of (write_number (write_answer s version out) ∷ buffer_cause 1 size ∷ [])

-- The record's length, as a buffer of 1 number.
abbrev pub length_alone : Scheme → (version : ℕ) → List ℕ → List ℕ
length_alone s version out = written_length (write_answer s version out) ∷ []

-- What is answered and left for a scheme's record, with its length in the buffer `size`.
abbrev pub RecordPost : Scheme → (version : ℕ) (out size : List ℕ) (number : ℕ) (out' size' : List ℕ) → Type 0
RecordPost s version out size = BuffersPost (record_number s version out size) (write_leaves s version out) (length_alone s version out) out size

-- The number for a record written again: the version comes first, then the cause of reading.
abbrev pub rewrite_number : List ℕ → (version : ℕ) (out size : List ℕ) → ℕ
rewrite_number bytes version out size = first_of (1 when other_version version ∷ read_cause bytes ∷ record_number (scheme_in bytes) version out size ∷ [])

-- joguyvi_rewrite: what it answers and leaves; `size` is the buffer for the length.
pub record RewriteCall (bytes : List ℕ) (version : ℕ) (out size : List ℕ) (number : ℕ) (out' size' : List ℕ) : Type 0 where
  -- 1 for the version, the cause of reading, then that of writing, then 13.
  pub answer : number ≡ rewrite_number bytes version out size
  pub written : out' ≡ filled_where number (write_leaves (scheme_in bytes) version out) out
  pub lengths : size' ≡ filled_where number (length_alone (scheme_in bytes) version out) size
  -- "A record keeps its bytes where it is rewritten in its own version": with the number 0, `out` begins with them and is as it was past them, and the length is theirs.
  pub copied : number ≡ 0 → version ≡ version_in bytes → out' ≡ bytes ++ drop (length bytes) out
  pub counted : number ≡ 0 → version ≡ version_in bytes → size' ≡ length bytes ∷ []
  -- In either version it is read as before.
  pub read_again : number ≡ 0 → read_answer (take (record_length (scheme_in bytes) version) out') ≡ read_answer bytes

-- The number for a ready scheme as a record: the version comes first, then its own cause, 14 or 15.
abbrev pub ready_number : (ready base version : ℕ) (out size : List ℕ) → ℕ
ready_number ready base version out size =
    first_of (1 when other_version version ∷ (ready_answer ready base).number ∷ record_number (ready_answer ready base).scheme version out size ∷ [])

-- joguyvi_ready: what it answers and leaves, for the ready scheme numbered `ready`.
pub record ReadyCall (ready base version : ℕ) (out size : List ℕ) (number : ℕ) (out' size' : List ℕ) : Type 0 where
  pub answer : number ≡ ready_number ready base version out size
  pub written : out' ≡ filled_where number (write_leaves (ready_answer ready base).scheme version out) out
  pub lengths : size' ≡ filled_where number (length_alone (ready_answer ready base).scheme version out) size
