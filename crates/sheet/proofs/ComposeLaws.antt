-- What the sheet's text leaves in a buffer with space for any sheet: the sheet of the whole input.
-- Assumes nothing.
use Prim.Native.Nat.{ℕ, ◌≤◌}
use mathlib.Core.Path.{◌≡◌, ap, sym, ◌∙◌}
use mathlib.Core.List.{List}
use native.Mathlib.Omega.{arith}
use native.Mathlib.Nat.{le_trans}
use lib.ListN.{length, take}
use Rattle.record_spec.specs.Write.{WriteAnswer, write_number, written_length}
use Rattle.sheet_spec.specs.Sheet.{sheet_text}
use Rattle.sheet_spec.specs.Answer.{space_for, sheet_answer, TextPromise}
use Rattle.sheet_spec.proofs.Laws.Space.{enough_space}
use Rattle.sheet_spec.proofs.Laws.Cut.{cut_text}
use Rattle.sheet_text.specs.Laws.Answer.{answer_written}
use Rattle.sheet.specs.Program.{ComposePre, ComposePost}

module _ {input : List ℕ} {n : ℕ} {out : List ℕ} (w : ComposePre input n out) where
  -- No sheet is declined for want of space.
  enough : space_for (take n input) ≤ length out
  enough = le_trans (enough_space (take n input)).most w.space

  module _ {r : WriteAnswer} (answer : r ≡ sheet_answer (take n input) out) where
    answered : write_number r ≡ 0
    answered = ap write_number answer ∙ (answer_written (take n input) out enough).0

    pub composed : {after : List ℕ} → length after ≡ length out → TextPromise (take n input) after r → ComposePost input n after (written_length r)
    composed same promise =
        record {
          within = omega (arith, same, ap written_length answer ∙ (answer_written (take n input) out enough).1, (enough_space (take n input)).enough, enough);
          text = promise answered;
          whole = λ all small e. promise answered ∙ ap sheet_text (sym e) ∙ cut_text (length input) w.enough all small;
        }
