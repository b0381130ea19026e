-- An accepted scheme's record: the cause of writing is 0 or 13, and the buffer is left alone where it is 13.
-- Assumes nothing.
use mathlib.Core.Path.{◌≡◌, ◌∙◌}
use mathlib.Core.Bool.{false}
use mathlib.Core.List.{List, ◌++◌}
use lib.Dec.{ltb}
use lib.ListN.{length, drop}
use Prim.Native.Nat.{ℕ}
use Rattle.scheme.specs.declared.Scheme.{Scheme}
use Rattle.scheme.specs.Cause.{cause_of}
use Rattle.scheme.proofs.Laws.FirstCause.{second_cause, declined}
use Rattle.scheme.specs.FirstCause.{◌when◌}
use Rattle.record_spec.specs.Layout.{other_version}
use Rattle.record_spec.specs.Write.{write_number, record_of, record_length, write_cause, write_answer, write_leaves}
use Rattle.record_write.specs.Laws.Write.{past_version, answer_number}
use Rattle.joguyvi_spec.proofs.Laws.Causes.{cause_only}

module _ (s : Scheme) (version : ℕ) (out : List ℕ) where
  pub write_only : other_version version ≡ false → cause_of s ≡ 0 → (write_number (write_answer s version out) ≡ 0 → ⊥) → write_number (write_answer s version out) ≡ 13
  write_only is ok h =
      cause_only (ltb (length out) (record_length s version)) 13
      (answer_number s version out ∙ past_version s version out is ∙ second_cause (cause_of s) (13 when ltb (length out) (record_length s version)) ok) h

  pub write_left : (write_number (write_answer s version out) ≡ 0 → ⊥) → write_leaves s version out ≡ out
  unfolding write_leaves
  write_left h = declined (write_cause s version out) (record_of s version ++ drop (record_length s version) out) out (λ z. h (answer_number s version out ∙ z))
