-- The answer of a writing and what the slice holds afterwards, by cases.
use Rattle.std.specs.Prelude.{ℕ, ◌≤◌, ◌<◌, ◌≡◌, true, false, List, ◌++◌, ltb, length, drop}
use Rattle.std.proofs.Common.{sym, ◌∙◌, arith}
use Rattle.std.proofs.Math.Decide.{ℕ_discrete}
use borrow.Author.Tests.{eq-eqb, ne_eqb, lt-ltb, le-ltb, ltb-false}
use Rattle.scheme.specs.declared.Scheme.{Scheme}
use Rattle.scheme.specs.Cause.{cause_of}
use Rattle.scheme.specs.FirstCause.{◌when◌, or_else}
use Rattle.scheme.proofs.Laws.FirstCause.{first_cause, second_cause, first_none, second_none, test_none}
use Rattle.record_spec.specs.Write.{Written, Declined, record_of, record_length, write_cause, write_answer, write_leaves, write_number, written_length}
use Rattle.record_spec.specs.Layout.{other_version}

module _ (s : Scheme) (version : ℕ) (out : List ℕ) where
  -- A cause n.
  pub declined : {n : ℕ} → n ≡ write_cause s version out → (n ≡ 0 → ⊥) → (Declined n ≡ write_answer s version out) × (out ≡ write_leaves s version out)
  unfolding write_answer write_leaves
  declined {n} e some = (rw (← e, ne_eqb n 0 some), rw (← e, ne_eqb n 0 some))

  pub by_version : other_version version ≡ true → 1 ≡ write_cause s version out
  by_version other = rw other

  -- There is such a version: the scheme's cause, and the slice's.
  pub past_version : other_version version ≡ false → write_cause s version out ≡ or_else (cause_of s) (13 when ltb (length out) (record_length s version))
  past_version known = rw known

  pub by_scheme : {n : ℕ} → other_version version ≡ false → n ≡ cause_of s → (n ≡ 0 → ⊥) → n ≡ write_cause s version out
  by_scheme known e some = rw (past_version known, e) (sym (first_cause (cause_of s) _ (λ z. some (e ∙ z))))

  pub by_slice : other_version version ≡ false → cause_of s ≡ 0 → length out < record_length s version → 13 ≡ write_cause s version out
  by_slice known none short = sym (past_version known ∙ second_cause (cause_of s) _ none ∙ rw (lt-ltb (length out) (record_length s version) short))

  -- none.
  pub written : {size : ℕ} {left : List ℕ} → other_version version ≡ false → cause_of s ≡ 0 → size ≡ record_length s version → size ≤ length out
      → left ≡ record_of s version ++ drop size out → (Written size ≡ write_answer s version out) × (left ≡ write_leaves s version out)
  unfolding write_answer write_leaves
  written known none is fits e =
      let clear : write_cause s version out ≡ 0 = past_version known ∙ second_cause (cause_of s) _ none ∙ rw (le-ltb (length out) (record_length s version) (rw is at fits)) in
      (rw (eq-eqb (write_cause s version out) 0 clear, is), rw (eq-eqb (write_cause s version out) 0 clear, e, is))

  -- What holds where there is none.
  pub write_clear : write_cause s version out ≡ 0 → (other_version version ≡ false) × (cause_of s ≡ 0) × (record_length s version ≤ length out)
  write_clear none =
      let rest : or_else (cause_of s) (13 when ltb (length out) (record_length s version)) ≡ 0 = second_none (1 when other_version version) _ none in
      let slice : 13 when ltb (length out) (record_length s version) ≡ 0 = second_none (cause_of s) _ rest in (
        test_none (other_version version) 1 (omega arith) (first_none (1 when other_version version) _ none),
        first_none (cause_of s) _ rest,
        ltb-false (length out) (record_length s version) (test_none (ltb (length out) (record_length s version)) 13 (omega arith) slice),
      )

  -- The number and the value of the answer.
  pub answer_number : write_number (write_answer s version out) ≡ write_cause s version out
  unfolding write_answer
  answer_number = by (ℕ_discrete (write_cause s version out) 0)
    where
      by : Dec (write_cause s version out ≡ 0) → write_number (write_answer s version out) ≡ write_cause s version out
      by (yes none) = rw (eq-eqb (write_cause s version out) 0 none) (sym none)
      by (no some) = rw (ne_eqb (write_cause s version out) 0 some)

  pub answer_value : write_cause s version out ≡ 0 → written_length (write_answer s version out) ≡ record_length s version
  unfolding write_answer
  answer_value none = rw (eq-eqb (write_cause s version out) 0 none)
