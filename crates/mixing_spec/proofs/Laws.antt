-- Laws of the mixing check's answer: which of its causes applies, and the first count.
use Rattle.std.specs.Prelude.{ℕ, ◌≡◌, false}
use Rattle.std.proofs.Common.{ap, ap₂, sym, ◌∙◌, arith, eq-eqb, ne_eqb}
use Rattle.setchain.proofs.Mixed.{none_mixing}
use Rattle.scheme.specs.declared.Scheme.{Scheme}
use Rattle.scheme.specs.Cause.{cause_of}
use Rattle.scheme.specs.FirstCause.{◌when◌}
use Rattle.scheme.proofs.Laws.FirstCause.{answered, declined, cause_first, cause_second}
use Rattle.mixing_spec.specs.MixingAnswer.{MixingAnswer, scheme_edges, mixes_scheme, first_count, mixing_cause, mixing_number, mixing_answer}

module _ (s : Scheme) where
  -- There is no first count where 1,024 does not mix.
  pub none_to_last : mixes_scheme s 1024 ≡ false → first_count s ≡ 0
  unfolding mixes_scheme first_count
  none_to_last e = none_mixing 1024 s.classes (scheme_edges s) e

  -- Cause 16 by the first count.
  pub first_cause_none : (first_count s ≡ 0 → ⊥) → mixing_cause s ≡ 0
  first_cause_none some = ap (λ b. 16 when b) (ne_eqb (first_count s) 0 some)

  pub first_cause_some : first_count s ≡ 0 → mixing_cause s ≡ 16
  first_cause_some z = ap (λ b. 16 when b) (eq-eqb (first_count s) 0 z)

  abbrev answer : (number count : ℕ) → MixingAnswer
  answer number count = record { number = number; count = count }

  -- The three answers: a scheme that is declined, one of which no count mixes, and the first count.
  pub scheme_declined : {number : ℕ} → number ≡ cause_of s → (number ≡ 0 → ⊥) → answer number 0 ≡ mixing_answer s
  scheme_declined is some =
      let told = cause_first (mixing_cause s) is some in
      ap₂ answer told (sym (declined (mixing_number s) (first_count s) 0 (λ z. some (told ∙ z))))

  module _ (ok : cause_of s ≡ 0) {count : ℕ} (is : count ≡ first_count s) where
    pub answer_not_mixing : count ≡ 0 → answer 16 count ≡ mixing_answer s
    answer_not_mixing z =
        let told = cause_second ok (sym (first_cause_some (sym is ∙ z))) in
        ap₂ answer told (z ∙ sym (declined (mixing_number s) (first_count s) 0 (λ f. sixteen (told ∙ f))))
      where
        sixteen : ◌≡◌ {A = ℕ} 16 0 → ⊥
        sixteen e = omega arith

    pub answer_count : (count ≡ 0 → ⊥) → answer 0 count ≡ mixing_answer s
    answer_count some =
        let told = cause_second ok (sym (first_cause_none (λ z. some (is ∙ z)))) in
        ap₂ answer told (is ∙ sym (answered (mixing_number s) (first_count s) 0 (sym told)))
