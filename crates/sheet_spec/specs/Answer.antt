-- What the sheet of any bytes answers, and what the lent slice holds afterwards.
use Rattle.std.specs.Prelude.{ℕ, suc, ◌+◌, ◌*◌, ◌≡◌, cond, List, ◌++◌, eqb, ltb, length, take, drop}
use Rattle.scheme.specs.declared.Scheme.{Scheme}
use Rattle.record_spec.specs.Layout.{scheme_in}
use Rattle.record_spec.specs.Read.{read_cause}
use Rattle.record_spec.specs.Write.{WriteAnswer, Written, Declined, write_number, written_length}
use Rattle.sheet_spec.specs.Sheet.{sheet_text}

-- The most bytes that the sheet of a scheme of this size may have: SCHEME 19, a class 40, PREMIUM 35, TOTAL 28.
unfoldable pub space_of : Scheme → ℕ
space_of s = 19 + suc s.horizon * (s.classes * 40 + 35) + 28

-- The space that the sheet of these bytes takes: a refusal has at most 11 bytes.
unfoldable pub space_for : List ℕ → ℕ
space_for bytes = cond (eqb (read_cause bytes) 0) (space_of (scheme_in bytes)) 11

-- A text into a slice of at least `space` bytes: its length, and 13 for a shorter slice.
abbrev pub text_answer : (space : ℕ) (text out : List ℕ) → WriteAnswer
text_answer space text out = cond (ltb (length out) space) (Declined 13) (Written (length text))

-- The text from the front on, and bytes past it unchanged; declined, all of them.
abbrev pub text_leaves : (space : ℕ) (text out : List ℕ) → List ℕ
text_leaves space text out = cond (ltb (length out) space) out (text ++ drop (length text) out)

-- What is answered for a text that takes so much space, and what the slice holds afterwards.
pub record TextAnswered (space : ℕ) (text before after : List ℕ) (r : WriteAnswer) : Type 0 where
  pub answer : r ≡ text_answer space text before
  pub leaves : after ≡ text_leaves space text before

-- The answer for any bytes.
unfoldable pub sheet_answer : List ℕ → List ℕ → WriteAnswer
sheet_answer bytes out = text_answer (space_for bytes) (sheet_text bytes) out

-- The slice after it.
unfoldable pub sheet_leaves : List ℕ → List ℕ → List ℕ
sheet_leaves bytes out = text_leaves (space_for bytes) (sheet_text bytes) out

-- What the answer promises: the first bytes of the slice, as many as it says, are the sheet of all the bytes.
abbrev pub TextPromise : (bytes after : List ℕ) → WriteAnswer → Type 0
TextPromise bytes after r = write_number r ≡ 0 → take (written_length r) after ≡ sheet_text bytes
