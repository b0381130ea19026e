-- The cause and the bytes of a rule row, by cases.
use Rattle.std.specs.Prelude.{ℕ, suc, ◌+◌, ◌-◌, ◌≤◌, ◌<◌, ◌≡◌, List, [], cond, length, take, drop}
use Rattle.std.proofs.Common.{sym, ◌∙◌, mul-le-mul_right}
use native.Mathlib.Omega.{arith}
use borrow.Author.Tests.{eq-eqb, ne_eqb}
use Rattle.scheme.specs.Cause.{outside}
use Rattle.scheme.proofs.Laws.FirstCause.{first_cause, second_cause, first_none, second_none}
use Rattle.scheme.proofs.Laws.Cause.{class_fits}
use Rattle.record_spec.specs.Layout.{layout_in, row_place, classes_in, columns_in}
use Rattle.record_spec.specs.Frame.{Framed}
use Rattle.record_spec.specs.Read.{read_cause}
use Rattle.record_spec.proofs.Laws.Read.{read_framed}
use Rattle.record_spec.specs.RuleRow.{rule_row_cause, rule_row}

module _ (bytes : List ℕ) (class : ℕ) where
  pub row_read : {n : ℕ} → n ≡ read_cause bytes → (n ≡ 0 → ⊥) → n ≡ rule_row_cause bytes class
  row_read e some = rw e (sym (first_cause (read_cause bytes) _ (λ z. some (e ∙ z))))

  pub row_next : {n : ℕ} → read_cause bytes ≡ 0 → n ≡ cond (outside (classes_in bytes) class) 11 0 → n ≡ rule_row_cause bytes class
  row_next none e = e ∙ sym (second_cause (read_cause bytes) _ none)

  pub row_empty : {n : ℕ} → n ≡ rule_row_cause bytes class → (n ≡ 0 → ⊥) → [] ≡ rule_row bytes class
  unfolding rule_row
  row_empty {n} e some = rw (← e, ne_eqb n 0 some)

  -- A row that is shown: its class is one of 1 to s, and the bands follow it.
  pub row_framed : rule_row_cause bytes class ≡ 0 → Framed bytes
  row_framed e = read_framed bytes (first_none (read_cause bytes) _ e)

  pub row_class : rule_row_cause bytes class ≡ 0 → (1 ≤ class) × (class ≤ classes_in bytes)
  row_class e = class_fits (classes_in bytes) class (second_none (read_cause bytes) (cond (outside (classes_in bytes) class) 11 0) e)

  -- Where it stands.
  abbrev place : ℕ
  place = row_place (layout_in bytes) (columns_in bytes) (class - 1)

  pub row_within : rule_row_cause bytes class ≡ 0 → place + columns_in bytes < length bytes
  row_within e =
      let fits = row_class e in
      let framed = row_framed e in
      let less : suc (class - 1) ≤ classes_in bytes = omega arith in
      omega (arith, mul-le-mul_right (columns_in bytes) less)

  pub row_shown : {at : ℕ} → at ≡ place → rule_row_cause bytes class ≡ 0 → take (at + columns_in bytes - at) (drop at bytes) ≡ rule_row bytes class
  unfolding rule_row
  row_shown {at} e none =
      let size : at + columns_in bytes - at ≡ columns_in bytes = omega arith in
      rw (size, e, eq-eqb (rule_row_cause bytes class) 0 none)
