-- The number answered: one cause before another, and the cause of reading a record before the rest.
-- Assumes nothing.
use Rattle.std.specs.Prelude.{ℕ, ◌≡◌, Bool, true, false, cond, List}
use Rattle.std.proofs.Common.{ap, ◌∙◌}
use Rattle.scheme.specs.FirstCause.{or_else}
use Rattle.scheme.specs.Cause.{cause_of}
use Rattle.scheme.proofs.Laws.FirstCause.{cause_first, cause_second}
use Rattle.record_spec.specs.Read.{ReadAnswer, read_cause, read_answer}
use Rattle.record_spec.proofs.Laws.Read.{scheme_none, read_cause_lem, read_passed, read_in}

-- A test's number is the one that it gives, or 0.
pub cause_only : (b : Bool) (k : ℕ) {n : ℕ} → n ≡ cond b k 0 → (n ≡ 0 → ⊥) → n ≡ k
cause_only true k e some = e
cause_only false k e some = absurd (some e)

-- A record with a cause of reading, and without.
module _ (bytes : List ℕ) {a : ReadAnswer} (is : a ≡ read_answer bytes) where
  pub stopped_number : (second : ℕ) → (a.number ≡ 0 → ⊥) → a.number ≡ or_else (read_cause bytes) second
  stopped_number second some = cause_first second (read_cause_lem bytes is) some

  pub passed_number : {n second : ℕ} → a.number ≡ 0 → n ≡ second → n ≡ or_else (read_cause bytes) second
  passed_number none e = cause_second (read_passed bytes is none) e

  -- The scheme that is read has no cause.
  pub passed_scheme : a.number ≡ 0 → cause_of a.scheme ≡ 0
  passed_scheme none = ap cause_of (read_in bytes is none) ∙ scheme_none bytes (read_passed bytes is none)
