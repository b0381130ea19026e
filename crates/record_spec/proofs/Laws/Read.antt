-- The answer of a reading, by cases.
use Rattle.std.specs.Prelude.{ℕ, ◌≡◌, List}
use Rattle.std.proofs.Common.{ap, sym, ◌∙◌}
use Rattle.std.proofs.Math.Decide.{ℕ_discrete}
use borrow.Author.Tests.{eq-eqb, ne_eqb}
use Rattle.scheme.specs.Cause.{cause_of}
use Rattle.scheme.proofs.Laws.FirstCause.{first_cause, second_cause, first_none, second_none}
use Rattle.record_spec.specs.Read.{ReadAnswer, frame_cause, read_cause, declined_with, read_answer}
use Rattle.record_spec.specs.Layout.{scheme_in}
use Rattle.record_spec.specs.Frame.{Framed}
use Rattle.record_spec.proofs.Laws.Frame.{frame_clear}

module _ (bytes : List ℕ) where
  -- One of the causes 1 to 4 and 17 is the bytes' cause.
  pub frame_first : {n : ℕ} → n ≡ frame_cause bytes → (n ≡ 0 → ⊥) → n ≡ read_cause bytes
  frame_first e some = rw e (sym (first_cause (frame_cause bytes) (cause_of (scheme_in bytes)) (λ z. some (e ∙ z))))

  -- None of them: the scheme's cause is.
  pub scheme_next : {n : ℕ} → frame_cause bytes ≡ 0 → n ≡ cause_of (scheme_in bytes) → n ≡ read_cause bytes
  scheme_next none e = e ∙ sym (second_cause (frame_cause bytes) (cause_of (scheme_in bytes)) none)

  pub answer_declined : {n : ℕ} {r : ReadAnswer} → n ≡ read_cause bytes → (n ≡ 0 → ⊥) → r ≡ declined_with n → r ≡ read_answer bytes
  unfolding read_answer
  answer_declined {n} e some is = rw (← e, ne_eqb n 0 some) is

  pub answer_scheme : {n : ℕ} → n ≡ read_cause bytes → n ≡ 0 → ◌≡◌ {A = ReadAnswer} (record { number = n; scheme = scheme_in bytes }) (read_answer bytes)
  unfolding read_answer
  answer_scheme {n} e none = rw (← e, eq-eqb n 0 none, none)

  -- Bytes without a cause are framed.
  pub read_framed : read_cause bytes ≡ 0 → Framed bytes
  read_framed e = frame_clear bytes (first_none (frame_cause bytes) (cause_of (scheme_in bytes)) e)

  -- Bytes without a cause hold a scheme without one.
  pub scheme_none : read_cause bytes ≡ 0 → cause_of (scheme_in bytes) ≡ 0
  scheme_none e = second_none (frame_cause bytes) (cause_of (scheme_in bytes)) e

  -- What a reading answers.
  pub read_number : (read_answer bytes).number ≡ read_cause bytes
  unfolding read_answer
  read_number = by (ℕ_discrete (read_cause bytes) 0)
    where
      by : Dec (read_cause bytes ≡ 0) → (read_answer bytes).number ≡ read_cause bytes
      by (yes none) = rw (eq-eqb (read_cause bytes) 0 none) (sym none)
      by (no some) = rw (ne_eqb (read_cause bytes) 0 some)

  pub read_scheme : read_cause bytes ≡ 0 → (read_answer bytes).scheme ≡ scheme_in bytes
  unfolding read_answer
  read_scheme none = rw (eq-eqb (read_cause bytes) 0 none)

-- What an answer that is the reading's tells.
module _ (bytes : List ℕ) {a : ReadAnswer} (is : a ≡ read_answer bytes) where
  pub read_cause_lem : a.number ≡ read_cause bytes
  read_cause_lem = ap (λ r. r.number) is ∙ read_number bytes

  pub read_passed : a.number ≡ 0 → read_cause bytes ≡ 0
  read_passed none = sym read_cause_lem ∙ none

  pub read_in : a.number ≡ 0 → a.scheme ≡ scheme_in bytes
  read_in none = ap (λ r. r.scheme) is ∙ read_scheme bytes (read_passed none)
