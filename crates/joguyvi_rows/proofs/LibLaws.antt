-- Tight rows, rule rows, bands and the mixing check of a record: with a cause of reading, and without.
-- Assumes nothing.
use Prim.Native.Nat.{ℕ, ◌-◌, ◌≤◌}
use mathlib.Core.Path.{◌≡◌, refl, ap, sym, ◌∙◌, subst}
use mathlib.Core.Bool.{cond}
use mathlib.Core.List.{List, [], ◌∷◌}
use native.Mathlib.Omega.{arith}
use native.Mathlib.Decide.{ℕ_discrete}
use lib.ListN.{length, take, drop, length-drop}
use lib.Seq.{length-take-le}
use Rattle.scheme.specs.RowAnswer.{RowAnswer, row_answer}
use Rattle.scheme.specs.FirstCause.{or_else}
use Rattle.scheme.specs.Cause.{outside}
use Rattle.scheme.specs.Stored.{scheme_of}
use Rattle.scheme.proofs.Laws.FirstCause.{first_none, second_cause, declined, answered, cause_first, cause_second, by_cause}
use Rattle.record_spec.specs.Read.{ReadAnswer, read_cause, read_answer}
use Rattle.record_spec.specs.Layout.{layout_in, scheme_in, row_place, classes_in, columns_in}
use Rattle.record_spec.specs.RuleRow.{rule_row_cause, rule_row}
use Rattle.record_spec.proofs.Laws.Read.{read_in}
use Rattle.record_parts.specs.Laws.RuleRow.{row_read, row_framed, row_within}
use Rattle.mixing_spec.specs.MixingAnswer.{MixingAnswer, first_count, mixing_number, mixing_answer}
use Rattle.mixing_spec.proofs.Theorems.{answer_first}
use Rattle.joguyvi_spec.specs.Buffers.{buffer_cause}
use Rattle.joguyvi_spec.proofs.Laws.Buffers.{unfilled}
use Rattle.joguyvi_spec.proofs.Laws.Causes.{cause_only, stopped_number, passed_number}
use Rattle.joguyvi_spec.specs.Rows.{row_of_record, part_number, rule_row_number, RowPost, PartPost, BandsPost, RowCall, RuleRowCall, BandsCall}
use Rattle.joguyvi_spec.specs.Mixing.{PutCountPost, MixingCall}
use Rattle.joguyvi_rows.proofs.RowBuffersLaws.{eleven, part_empty, part_some}

-- A tight row.
module _ (bytes : List ℕ) (class : ℕ) (lower upper : List ℕ) {a : ReadAnswer} (is : a ≡ read_answer bytes) where
  pub row_stopped : (a.number ≡ 0 → ⊥) → RowCall bytes class lower upper a.number lower upper
  row_stopped some = record { answer = stopped_number bytes is _ some; lowers = unfilled _ _ some; uppers = unfilled _ _ some }

  pub row_passed : {row : RowAnswer} {n : ℕ} {lower' upper' : List ℕ} → a.number ≡ 0 → row ≡ row_answer a.scheme class
      → RowPost row lower upper n lower' upper'
      → RowCall bytes class lower upper n lower' upper'
  row_passed {row} {n} {lower'} {upper'} none e put =
      let same : row ≡ row_of_record bytes class = e ∙ ap (λ s. row_answer s class) (read_in bytes is none) in
      let found : RowPost (row_of_record bytes class) lower upper n lower' upper' = subst (λ r. RowPost r lower upper n lower' upper') same put in
      record { answer = passed_number bytes is none found.answer; lowers = found.filled; uppers = found.other_filled }

-- The bands of all columns.
module _ (bytes lower upper : List ℕ) {a : ReadAnswer} (is : a ≡ read_answer bytes) where
  pub bands_stopped : (a.number ≡ 0 → ⊥) → BandsCall bytes lower upper a.number lower upper
  bands_stopped some = record { answer = stopped_number bytes is _ some; lowers = unfilled _ _ some; uppers = unfilled _ _ some }

  pub bands_passed : {n : ℕ} {lower' upper' : List ℕ} → a.number ≡ 0 → BandsPost a.scheme lower upper n lower' upper' → BandsCall bytes lower upper n lower' upper'
  unfolding scheme_of
  bands_passed {n} {lower'} {upper'} none put =
      let found : BandsPost (scheme_in bytes) lower upper n lower' upper' = subst (λ s. BandsPost s lower upper n lower' upper') (read_in bytes is none) put in
      record { answer = passed_number bytes is none found.answer; lowers = found.filled; uppers = found.other_filled }

-- The mixing check.
module _ (bytes out : List ℕ) {a : ReadAnswer} (is : a ≡ read_answer bytes) where
  pub mixing_stopped : (a.number ≡ 0 → ⊥) → MixingCall bytes out a.number out
  mixing_stopped some = record { answer = stopped_number bytes is _ some; filled = unfilled _ out some }

  pub mixing_passed : {m : MixingAnswer} {n : ℕ} {out' : List ℕ} → a.number ≡ 0 → m ≡ mixing_answer a.scheme → PutCountPost m out n out' → MixingCall bytes out n out'
  mixing_passed {m} {n} {out'} none given put =
      record {
        answer = passed_number bytes is none (put.answer ∙ ap (λ k. or_else k (buffer_cause 1 out)) number);
        filled = put.filled ∙ by_cause refl (λ z. ap (λ c. c ∷ []) (counted z)) refl;
      }
    where
      told : m ≡ mixing_answer (scheme_in bytes)
      told = given ∙ ap mixing_answer (read_in bytes is none)

      number : m.number ≡ mixing_number (scheme_in bytes)
      number = ap (λ m. m.number) told

      counted : n ≡ 0 → m.count ≡ first_count (scheme_in bytes)
      counted z =
          let mixed = first_none m.number (buffer_cause 1 out) (sym put.answer ∙ z) in
          ap (λ m. m.count) told ∙ answer_first (scheme_in bytes) (sym number ∙ mixed)

-- A rule row that is shown has a byte for each column.
module _ (bytes : List ℕ) (class : ℕ) (out : List ℕ) where
  abbrev place : ℕ
  place = row_place (layout_in bytes) (columns_in bytes) (class - 1)

  row_size : rule_row_cause bytes class ≡ 0 → length (rule_row bytes class) ≡ columns_in bytes
  unfolding rule_row
  row_size none =
      let enough : columns_in bytes ≤ length (drop place bytes) = rw (length-drop place bytes) (omega (arith, row_within bytes class none)) in
      ap length (answered (rule_row_cause bytes class) (take (columns_in bytes) (drop place bytes)) _ none) ∙ length-take-le (columns_in bytes) (drop place bytes) enough

  -- Of bytes that are read: an empty row tells cause 11.
  same_number : read_cause bytes ≡ 0 → Dec (rule_row_cause bytes class ≡ 0) → part_number (rule_row bytes class) out ≡ rule_row_number bytes class out
  unfolding rule_row
  same_number read (yes none) =
      let size = row_size none in
      let full : length (rule_row bytes class) ≡ 0 → ⊥ = λ z. omega (arith, (row_framed bytes class none).some_column, size) in
      cause_second none (part_some (rule_row bytes class) out full ∙ ap (λ m. buffer_cause m out) size)
  same_number read (no h) =
      let is : rule_row bytes class ≡ [] = declined (rule_row_cause bytes class) (take (columns_in bytes) (drop place bytes)) [] h in
      let only : rule_row_cause bytes class ≡ 11 = cause_only (outside (classes_in bytes) class) 11 (second_cause (read_cause bytes) (cond (outside (classes_in bytes) class) 11 0) read) h in
      sym (part_empty (rule_row bytes class) out (ap length is)).answer ∙ cause_first (buffer_cause (columns_in bytes) out) (sym only) eleven

  pub rule_row_passed : {n : ℕ} {part out' : List ℕ} → read_cause bytes ≡ 0 → part ≡ rule_row bytes class → PartPost part out n out' → RuleRowCall bytes class out n out'
  rule_row_passed {n} {part} {out'} read e put =
      let found : PartPost (rule_row bytes class) out n out' = subst (λ x. PartPost x out n out') e put in
      record { answer = found.answer ∙ same_number read (ℕ_discrete (rule_row_cause bytes class) 0); rules = found.filled }

  pub rule_row_stopped : {n : ℕ} → n ≡ read_cause bytes → (n ≡ 0 → ⊥) → RuleRowCall bytes class out n out
  rule_row_stopped e some = record { answer = cause_first _ (row_read bytes class e some) some; rules = unfilled _ _ some }
