-- The edges of a class as bits, from the tight row that is answered.
use Rattle.std.specs.Prelude.{ℕ, ◌-◌, ◌≤◌, ◌≡◌, ltb, length, take}
use Rattle.std.proofs.Common.{ap, ◌∙◌, arith, get_or-take, length-take-le}
use Rattle.setchain.specs.Sums.{at}
use Rattle.setchain.specs.Tight.{tight_row}
use Rattle.scheme.specs.declared.Scheme.{Scheme}
use Rattle.scheme.specs.RowAnswer.{RowAnswer}
use Rattle.scheme.specs.Cause.{cause_of, class_cause}
use Rattle.scheme.specs.Rows.{chain_of}
use Rattle.scheme.specs.RowAnswer.{row_cause, row_refused, row_answered, row_answer, row_at}
use Rattle.scheme.proofs.Laws.Cause.{inside_outside}
use Rattle.scheme.proofs.Laws.FirstCause.{answered, second_cause, cond_false}
use Rattle.scheme.proofs.Laws.Judged.{accepted_cause}
use Rattle.scheme.proofs.Laws.RowAnswer.{answered_size, answered_agrees}
use Rattle.mixing_spec.specs.MixingAnswer.{scheme_edges}
use Rattle.mixing.specs.Bits.{bits_of}
use Rattle.mixing.specs.Laws.Bits.{bits_eq}

-- An accepted scheme has at most 32 classes.
pub classes_few : (s : Scheme) → cause_of s ≡ 0 → s.classes ≤ 32
classes_few s ok = (accepted_cause s ok).size.classes

module _ (s : Scheme) (class : ℕ) (ok : cause_of s ≡ 0) (low : 1 ≤ class) (high : class ≤ s.classes) {answer : RowAnswer} (is : answer ≡ row_answer s class) where
  -- The row is answered.
  row_answered_lem : answer ≡ row_at s (class - 1)
  row_answered_lem =
      is ∙ answered (row_cause s class) (row_at s (class - 1)) (row_refused (row_cause s class))
      (second_cause (cause_of s) (class_cause s class) ok ∙ cond_false _ 11 0 (inside_outside s.classes class low high))

  -- So it is not refused.
  pub row_given : answer.number ≡ 0
  unfolding row_answered
  row_given = ap (λ r. r.number) row_answered_lem

  pub row_size : length answer.lower ≡ 32
  row_size = ap (λ r. length r.lower) row_answered_lem ∙ (answered_size s.classes (tight_row s.classes ((chain_of s).row (class - 1)))).0

  -- Its front of as many entries as there are classes.
  pub row_front : length (take s.classes answer.lower) ≡ s.classes
  row_front = length-take-le s.classes answer.lower (omega (arith, row_size, classes_few s ok))

  pub row_edges : {bits : ℕ} → bits ≡ bits_of (length (take s.classes answer.lower)) (λ j. ltb 0 (at (take s.classes answer.lower) j))
      → bits ≡ bits_of s.classes (scheme_edges s (class - 1))
  row_edges e =
      let n = s.classes in
      e ∙ ap (λ m. bits_of m (λ j. ltb 0 (at (take n answer.lower) j))) row_front
      ∙ bits_eq n (λ j. ltb 0 (at (take n answer.lower) j)) (scheme_edges s (class - 1))
      (λ j l. ap (ltb 0) (get_or-take n answer.lower j 0 l ∙ ap (λ r. at r.lower j) row_answered_lem
      ∙ (answered_agrees n (tight_row n ((chain_of s).row (class - 1))) (classes_few s ok)).lower j l))
