-- The answer for a text, and for any bytes, by cases.
use Rattle.std.specs.Prelude.{ℕ, ◌≤◌, ◌<◌, ◌≡◌, List, length}
use Rattle.std.proofs.Common.{◌∙◌, arith, eq-eqb, lt-ltb, le-ltb}
use Rattle.scheme.specs.declared.Scheme.{Scheme}
use Rattle.scheme.specs.Accepted.{Accepted}
use Rattle.scheme.specs.Cause.{cause_of}
use Rattle.scheme.proofs.Laws.FirstCause.{second_cause}
use Rattle.scheme.proofs.Laws.Judged.{cause_accepted}
use Rattle.record_spec.specs.Layout.{scheme_in}
use Rattle.record_spec.specs.Read.{read_cause}
use Rattle.record.specs.Laws.Lists.{sets_front}
use Rattle.bounds_spec.specs.Answers.{sheet_slice}
use Rattle.bounds_spec.specs.Table.{table_cause}
use Rattle.record_spec.specs.Write.{WriteAnswer, Written, Declined, write_number, written_length}
use Rattle.sheet_spec.specs.Sheet.{sheet_of, refused_line, sheet_text}
use Rattle.sheet_text.specs.Put.{Space, Put}
use Rattle.sheet_spec.specs.Answer.{space_of, space_for, TextAnswered, sheet_answer, sheet_leaves, TextPromise}
use Rattle.sheet_spec.proofs.Laws.Space.{text_accepted, space_accepted, text_refused, space_refused, text_kept}
use Rattle.bounds_spec.specs.Causes.{table_size}

-- A slice that is too short, and one that is not.
pub answered_declined : {space : ℕ} {text out : List ℕ} → length out < space → TextAnswered space text out out (Declined 13)
answered_declined {space} {text} {out} short = record { answer = rw (lt-ltb (length out) space short); leaves = rw (lt-ltb (length out) space short) }

pub answered_written : {space : ℕ} {text out after : List ℕ} {to : ℕ} → space ≤ length out → length text ≤ space → Put out 0 text after to → TextAnswered space text out after (Written to)
answered_written {space} {text} {out} {after} {to} enough fits p =
    let place : to ≡ length text = omega (arith, p.place) in
    record {
      answer = rw (le-ltb (length out) space enough, place);
      leaves = rw (le-ltb (length out) space enough) (p.holds ∙ sets_front out text (omega arith));
    }

pub answered_space : {space : ℕ} {text out : List ℕ} → space ≤ length out → length text ≤ space → Space out 0 text
answered_space enough fits = record { fits = omega arith }

-- Any bytes.
module _ (bytes : List ℕ) where
  -- What `sheet` ensures.
  abbrev Ensured : (out after : List ℕ) → WriteAnswer → Type 0
  Ensured out after r = (r ≡ sheet_answer bytes out) × ((after ≡ sheet_leaves bytes out) × TextPromise bytes after r)

  keeps : (out : List ℕ) {after : List ℕ} {r : WriteAnswer} → r ≡ sheet_answer bytes out → after ≡ sheet_leaves bytes out → Ensured out after r
  keeps out e f = (e, (f, rw (e, f) (text_kept bytes out)))

  -- The answer for bytes with a cause, and without.
  pub sheet_refused : {n : ℕ} {out after : List ℕ} {r : WriteAnswer} → n ≡ read_cause bytes → (n ≡ 0 → ⊥) → TextAnswered 11 (refused_line n) out after r
      → Ensured out after r
  unfolding sheet_answer sheet_leaves
  sheet_refused {out = out} e some answered =
      let cause : read_cause bytes ≡ 0 → ⊥ = λ z. some (e ∙ z) in
      keeps out (rw (text_refused bytes cause, space_refused bytes cause, ← e) answered.answer) (rw (text_refused bytes cause, space_refused bytes cause, ← e) answered.leaves)

  pub sheet_accepted : {s : Scheme} {out after : List ℕ} {r : WriteAnswer} → read_cause bytes ≡ 0 → s ≡ scheme_in bytes → TextAnswered (space_of s) (sheet_of s) out after r
      → Ensured out after r
  unfolding sheet_answer sheet_leaves
  sheet_accepted {out = out} none e answered =
      keeps out (rw (text_accepted bytes none, space_accepted bytes none, ← e) answered.answer) (rw (text_accepted bytes none, space_accepted bytes none, ← e) answered.leaves)

  -- The number and the value of the answer.
  pub answer_written : (out : List ℕ) → space_for bytes ≤ length out → (write_number (sheet_answer bytes out) ≡ 0) × (written_length (sheet_answer bytes out) ≡ length (sheet_text bytes))
  unfolding sheet_answer
  answer_written out enough = (rw (le-ltb (length out) (space_for bytes) enough), rw (le-ltb (length out) (space_for bytes) enough))

-- The tables of an accepted scheme are written into slices of their size.
pub table_clear : (s : Scheme) (low high : List ℕ) → Accepted s → length low ≡ table_size s → length high ≡ table_size s → table_cause s low high ≡ 0
unfolding table_cause
table_clear s low high ok el eh =
    second_cause (cause_of s) _ (cause_accepted s ok) ∙ rw (eq-eqb (length low) (table_size s) el, eq-eqb (length high) (table_size s) eh)

pub slice_written : {n : ℕ} {table : List ℕ} (before : List ℕ) {after : List ℕ} → n ≡ 0 → after ≡ sheet_slice n table before → after ≡ table
slice_written {n} before none e = rw (eq-eqb n 0 none) at e
