-- A record written again, which has its bytes, and a ready scheme as a record: with a cause before writing, and without.
-- Assumes nothing.
use Prim.Native.Nat.{ℕ, ◌≤◌}
use mathlib.Core.Path.{◌≡◌, ap, sym, ◌∙◌, subst}
use mathlib.Core.Bool.{true, false}
use mathlib.Core.List.{List, [], ◌∷◌}
use lib.ListN.{length, take}
use native.Mathlib.Omega.{arith}
use Rattle.scheme.specs.declared.Scheme.{Scheme}
use Rattle.scheme.specs.FirstCause.{◌when◌, or_else}
use Rattle.scheme.proofs.Laws.FirstCause.{first_none, answered, cause_first, cause_second, cond_true, cond_false}
use Rattle.record_spec.specs.Read.{ReadAnswer, read_answer}
use Rattle.record_spec.specs.Layout.{other_version, version_in, scheme_in}
use Rattle.record_spec.proofs.Laws.Read.{read_passed, read_in}
use Rattle.record_spec.specs.Write.{write_number, record_length, write_cause, write_answer, write_leaves}
use Rattle.big_endian_spec.specs.Numbers.{Bytes}
use Rattle.record_write.specs.Agreement.{rewritten_length, copied, read_again}
use Rattle.record_write.specs.Laws.Write.{write_clear, answer_number, answer_value}
use Rattle.ready_spec.specs.Answer.{ReadyAnswer, ready_answer}
use Rattle.joguyvi_spec.specs.Buffers.{buffer_cause}
use Rattle.joguyvi_spec.proofs.Laws.Buffers.{unfilled}
use Rattle.joguyvi_spec.proofs.Laws.Causes.{stopped_number, passed_number}
use Rattle.joguyvi_spec.specs.Records.{record_number, length_alone, RecordPost, rewrite_number, RewriteCall, ready_number, ReadyCall}

-- There is no such version: the cause is 1, whatever comes after it.
before : (version rest : ℕ) → other_version version ≡ true → 1 ≡ or_else (1 when other_version version) rest
before version rest other = cause_first rest (sym (cond_true (other_version version) 1 0 other)) (λ z. omega arith)

-- There is such a version: the cause is one of those after it.
after : (version : ℕ) → other_version version ≡ false → {n rest : ℕ} → n ≡ rest → n ≡ or_else (1 when other_version version) rest
after version known e = cause_second (cond_false (other_version version) 1 0 known) e

-- A record written again.
module _ (bytes : List ℕ) (version : ℕ) (out size : List ℕ) where
  -- A call with a cause leaves the buffers as they were.
  rewrite_declined : {n : ℕ} → n ≡ rewrite_number bytes version out size → (n ≡ 0 → ⊥) → RewriteCall bytes version out size n out size
  rewrite_declined e some =
      record {
        answer = e;
        written = unfilled _ _ some;
        lengths = unfilled _ _ some;
        copied = λ z. absurd (some z);
        counted = λ z. absurd (some z);
        read_again = λ z. absurd (some z);
      }

  pub rewrite_other : other_version version ≡ true → RewriteCall bytes version out size 1 out size
  rewrite_other other = rewrite_declined (before version _ other) (λ z. omega arith)

  module _ (known : other_version version ≡ false) {a : ReadAnswer} (is : a ≡ read_answer bytes) where
    pub rewrite_stopped : (a.number ≡ 0 → ⊥) → RewriteCall bytes version out size a.number out size
    rewrite_stopped some = rewrite_declined (after version known (stopped_number bytes is _ some)) some

    -- The scheme in the bytes.
    abbrev s : Scheme
    s = scheme_in bytes

    -- Written with no cause.
    clear : record_number s version out size ≡ 0 → write_cause s version out ≡ 0
    clear z = sym (answer_number s version out) ∙ first_none (write_number (write_answer s version out)) (buffer_cause 1 size) z

    space : record_number s version out size ≡ 0 → record_length s version ≤ length out
    space z = (write_clear s version out (clear z)).2

    whole : a.number ≡ 0 → version ≡ version_in bytes → length bytes ≡ record_length s version
    whole none own = rewritten_length bytes (read_passed bytes is none) ∙ ap (record_length s) (sym own)

    pub rewrite_passed : Bytes bytes → {n : ℕ} {out' size' : List ℕ} → a.number ≡ 0 → RecordPost a.scheme version out size n out' size' → RewriteCall bytes version out size n out' size'
    rewrite_passed small {n} {out'} {size'} none put =
        let found : RecordPost s version out size n out' size' = subst (λ x. RecordPost x version out size n out' size') (read_in bytes is none) put in
        let done : n ≡ 0 → record_number s version out size ≡ 0 = λ z. sym found.answer ∙ z in
        let read = read_passed bytes is none in
        let left : n ≡ 0 → out' ≡ write_leaves s version out = λ z. found.filled ∙ answered n (write_leaves s version out) out z in
        record {
          answer = after version known (passed_number bytes is none found.answer);
          written = found.filled;
          lengths = found.other_filled;
          copied = λ z own.
              left z ∙ ap (λ v. write_leaves s v out) own ∙ copied bytes read out small (omega (arith, whole none own, space (done z)));
          counted = λ z own.
              found.other_filled
              ∙ answered n (length_alone s version out) size z
              ∙ ap (λ x. x ∷ []) (answer_value s version out (clear (done z)) ∙ sym (whole none own));
          read_again = λ z. ap (λ l. read_answer (take (record_length s version) l)) (left z) ∙ read_again bytes read version known out (space (done z));
        }

-- A ready scheme as a record.
module _ (ready base version : ℕ) (out size : List ℕ) where
  ready_declined : {n : ℕ} → n ≡ ready_number ready base version out size → (n ≡ 0 → ⊥) → ReadyCall ready base version out size n out size
  ready_declined e some = record { answer = e; written = unfilled _ _ some; lengths = unfilled _ _ some }

  pub ready_other : other_version version ≡ true → ReadyCall ready base version out size 1 out size
  ready_other other = ready_declined (before version _ other) (λ z. omega arith)

  module _ (known : other_version version ≡ false) {a : ReadyAnswer} (is : a ≡ ready_answer ready base) where
    pub ready_stopped : (a.number ≡ 0 → ⊥) → ReadyCall ready base version out size a.number out size
    ready_stopped some = ready_declined (after version known (cause_first _ (ap (λ r. r.number) is) some)) some

    pub ready_passed : {n : ℕ} {out' size' : List ℕ} → a.number ≡ 0 → RecordPost a.scheme version out size n out' size' → ReadyCall ready base version out size n out' size'
    ready_passed {n} {out'} {size'} none put =
        let found : RecordPost (ready_answer ready base).scheme version out size n out' size' = subst (λ r. RecordPost r.scheme version out size n out' size') is put in
        record { answer = after version known (cause_second (sym (ap (λ r. r.number) is) ∙ none) found.answer); written = found.filled; lengths = found.other_filled }
