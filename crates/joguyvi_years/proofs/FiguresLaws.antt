-- Low and high put into a buffer, by cases.
-- Assumes nothing.
use Prim.Native.Nat.{ℕ}
use mathlib.Core.Path.{◌≡◌, refl, sym, ◌∙◌}
use mathlib.Core.List.{List, [], ◌∷◌}
use native.Mathlib.Omega.{arith}
use lib.ListN.{length, set}
use Rattle.bounds_spec.specs.Answers.{BoundsAnswer, number_of, low_of, high_of}
use Rattle.joguyvi_spec.specs.Buffers.{buffer_cause}
use Rattle.joguyvi_spec.specs.Figures.{put_number, low_and_high, BoundsPost}
use Rattle.joguyvi_spec.proofs.Laws.Buffers.{buffer_out, buffer_fits, thirteen, unfilled}
use Rattle.scheme.proofs.Laws.FirstCause.{cause_first, cause_second}

-- Two numbers written into a buffer of 2.
two : (out : List ℕ) (a b : ℕ) → length out ≡ 2 → set (set out 0 a) 1 b ≡ a ∷ b ∷ []
two [] a b e = absurd (omega arith)
two (x ∷ []) a b e = absurd (omega arith)
two (x ∷ y ∷ []) a b e = refl
two (x ∷ y ∷ z ∷ l) a b e = absurd (omega arith)

-- With a cause, into a buffer of another length, and into one of 2.
module _ (b : BoundsAnswer) (out : List ℕ) {n : ℕ} (is : n ≡ number_of b) where
  pub bounds_refused : (n ≡ 0 → ⊥) → BoundsPost b out n out
  unfolding put_number
  bounds_refused some = record { answer = cause_first (buffer_cause 2 out) is some; filled = unfilled (low_and_high b) out some }

  pub bounds_out : n ≡ 0 → (length out ≡ 2 → ⊥) → BoundsPost b out 13 out
  unfolding put_number
  bounds_out none wrong = record { answer = cause_second (sym is ∙ none) (sym (buffer_out 2 out wrong)); filled = unfilled (low_and_high b) out thirteen }

  -- The same where the number is that of the buffer's test.
  pub bounds_slice : {m : ℕ} → n ≡ 0 → m ≡ buffer_cause 2 out → (m ≡ 0 → ⊥) → BoundsPost b out m out
  unfolding put_number
  bounds_slice none told some = record { answer = cause_second (sym is ∙ none) told; filled = unfilled (low_and_high b) out some }

  pub bounds_put : {low high : ℕ} → n ≡ 0 → length out ≡ 2 → low ≡ low_of b → high ≡ high_of b → BoundsPost b out 0 (set (set out 0 low) 1 high)
  unfolding put_number
  bounds_put none fits l h =
      record { answer = cause_second (sym is ∙ none) (sym (buffer_fits 2 out fits)); filled = rw (l, h) (two out (low_of b) (high_of b) fits) }
