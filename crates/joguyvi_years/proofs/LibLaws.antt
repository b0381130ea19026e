-- Low and high and share sheets of a record, with a cause of reading and without, and the sheet's text.
-- Assumes nothing.
use Prim.Native.Nat.{ℕ}
use mathlib.Core.Path.{◌≡◌, refl, ap, ◌∙◌, subst, subst₂}
use mathlib.Core.Bool.{Bool, true, false, cond}
use mathlib.Core.List.{List, ◌++◌}
use lib.Dec.{ltb}
use lib.ListN.{length, drop}
use Rattle.scheme.specs.declared.Scheme.{Scheme}
use Rattle.record_spec.specs.Read.{ReadAnswer, read_answer}
use Rattle.record_spec.specs.Write.{Written, Declined, write_number, written_length}
use Rattle.record_spec.specs.Layout.{scheme_in}
use Rattle.record_spec.proofs.Laws.Read.{read_in}
use Rattle.bounds_spec.specs.Answers.{BoundsAnswer, sheet_cause, sheet_slice, low_shares, high_shares}
use Rattle.bounds_spec.specs.Promises.{SheetPromise}
use Rattle.sheet_spec.specs.Sheet.{sheet_text}
use Rattle.sheet_spec.specs.Answer.{space_for, sheet_answer, sheet_leaves}
use Rattle.joguyvi_spec.specs.Figures.{BoundsPost, BoundsCall}
use Rattle.joguyvi_spec.specs.Shares.{ShareSheetCall}
use Rattle.joguyvi_spec.specs.Texts.{SheetCall}
use Rattle.joguyvi_spec.proofs.Laws.Buffers.{unfilled}
use Rattle.joguyvi_spec.proofs.Laws.Causes.{stopped_number, passed_number}
use Rattle.joguyvi_spec.proofs.Laws.Figures.{BoundsPromise, bounds_call}
use Rattle.joguyvi_spec.proofs.Laws.Texts.{TextPost}

-- Low and high of a record, as a query answers them for its scheme, with what is promised of them.
module _ {query : Scheme → BoundsAnswer} {kept : Scheme → (low high : ℕ) → Type 0} (bytes out : List ℕ) {a : ReadAnswer} (is : a ≡ read_answer bytes) where
  pub bounds_stopped : (a.number ≡ 0 → ⊥) → BoundsCall query kept bytes out a.number out
  bounds_stopped some = record { answer = stopped_number bytes is _ some; figures = unfilled _ out some; promise = λ z. absurd (some z) }

  pub bounds_passed : {b : BoundsAnswer} {n : ℕ} {out' : List ℕ} → a.number ≡ 0 → (b ≡ query a.scheme) × BoundsPromise (kept a.scheme) b → BoundsPost b out n out'
      → BoundsCall query kept bytes out n out'
  bounds_passed {b} {n} {out'} none answered put =
      let s = scheme_in bytes in
      let same : b ≡ query s = answered.0 ∙ ap query (read_in bytes is none) in
      let found : BoundsPost (query s) out n out' = subst (λ x. BoundsPost x out n out') same put in
      bounds_call bytes out (subst₂ (λ x y. BoundsPromise (kept x) y) (read_in bytes is none) same answered.1)
      (record { answer = passed_number bytes is none found.answer; filled = found.filled })

-- A share sheet of a scheme: what is answered, what is left, and what is promised.
abbrev SharesPost : Scheme → (year : ℕ) (low high : List ℕ) (number : ℕ) (low' high' : List ℕ) → Type 0
SharesPost s year low high number low' high' =
    (number ≡ sheet_cause s year low high)
    × ((low' ≡ sheet_slice number (low_shares s year) low)
    × ((high' ≡ sheet_slice number (high_shares s year) high)
    × SheetPromise s year number low' high'))

-- A share sheet of a record.
module _ (bytes : List ℕ) (year : ℕ) (low high : List ℕ) {a : ReadAnswer} (is : a ≡ read_answer bytes) where
  pub shares_stopped : (a.number ≡ 0 → ⊥) → ShareSheetCall bytes year low high a.number low high
  shares_stopped some =
      record { answer = stopped_number bytes is _ some; lows = unfilled _ low some; highs = unfilled _ high some; promise = λ z. absurd (some z) }

  pub shares_passed : {n : ℕ} {low' high' : List ℕ} → a.number ≡ 0 → SharesPost a.scheme year low high n low' high' → ShareSheetCall bytes year low high n low' high'
  shares_passed {n} {low'} {high'} none put =
      let found : SharesPost (scheme_in bytes) year low high n low' high' = subst (λ s. SharesPost s year low high n low' high') (read_in bytes is none) put in
      record { answer = passed_number bytes is none found.0; lows = found.1.0; highs = found.1.1.0; promise = found.1.1.1 }

-- Over the outcome of the test for space.
only_13 : (b : Bool) (n : ℕ) → (write_number (cond b (Declined 13) (Written n)) ≡ 0 → ⊥) → write_number (cond b (Declined 13) (Written n)) ≡ 13
only_13 true n h = refl
only_13 false n h = absurd (h refl)

left_alone : (b : Bool) (n : ℕ) (out full : List ℕ) → (write_number (cond b (Declined 13) (Written n)) ≡ 0 → ⊥) → cond b out full ≡ out
left_alone true n out full h = refl
left_alone false n out full h = absurd (h refl)

-- The sheet's text: its cause is 0 or 13, and the buffer is left alone where it is 13.
module _ (bytes out : List ℕ) where
  pub sheet_only : (write_number (sheet_answer bytes out) ≡ 0 → ⊥) → write_number (sheet_answer bytes out) ≡ 13
  unfolding sheet_answer
  sheet_only h = only_13 (ltb (length out) (space_for bytes)) (length (sheet_text bytes)) h

  pub sheet_left : (write_number (sheet_answer bytes out) ≡ 0 → ⊥) → sheet_leaves bytes out ≡ out
  unfolding sheet_answer sheet_leaves
  sheet_left h = left_alone (ltb (length out) (space_for bytes)) (length (sheet_text bytes)) out (sheet_text bytes ++ drop (length (sheet_text bytes)) out) h

  pub sheet_call : {size : List ℕ} {n : ℕ} {out' size' : List ℕ}
      → TextPost (write_number (sheet_answer bytes out)) (written_length (sheet_answer bytes out)) (sheet_leaves bytes out) out size n out' size'
      → SheetCall bytes out size n out' size'
  sheet_call put = record { answer = put.answer; text = put.filled; lengths = put.other_filled }
