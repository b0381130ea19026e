-- The sheet's text of any bytes.
use Rattle.std.specs.Prelude.{ℕ, ◌≡◌, List, [], ◌∷◌}
use Rattle.scheme.specs.FirstCause.{first_of}
use Rattle.record_spec.specs.Write.{write_number, written_length}
use Rattle.sheet_spec.specs.Answer.{sheet_answer, sheet_leaves}
use Rattle.joguyvi_spec.specs.Buffers.{buffer_cause, filled_where}

-- 13 where the text has no space, or the buffer for its length is not of 1 number.
abbrev pub sheet_number : List ℕ → (out size : List ℕ) → ℕ
sheet_number bytes out size = first_of (write_number (sheet_answer bytes out) ∷ buffer_cause 1 size ∷ [])

-- The text's length, as a buffer of 1 number.
abbrev pub sheet_length : List ℕ → List ℕ → List ℕ
sheet_length bytes out = written_length (sheet_answer bytes out) ∷ []

-- joguyvi_sheet: what it answers and leaves; `size` is the buffer for the length.
pub record SheetCall (bytes out size : List ℕ) (number : ℕ) (out' size' : List ℕ) : Type 0 where
  pub answer : number ≡ sheet_number bytes out size
  pub text : out' ≡ filled_where number (sheet_leaves bytes out) out
  pub lengths : size' ≡ filled_where number (sheet_length bytes out) size
