-- A part of a record, and a count, put into a buffer, by cases.
-- Assumes nothing.
use Prim.Native.Nat.{ℕ}
use mathlib.Core.Path.{◌≡◌, ap, sym, ◌∙◌}
use mathlib.Core.Bool.{cond}
use mathlib.Core.List.{List, [], ◌∷◌, ◌++◌, append-nil}
use native.Mathlib.Omega.{arith}
use lib.Dec.{eqb}
use lib.ListN.{length, take, drop, set}
use lib.Seq.{sets, take-length, drop-length}
use Rattle.scheme.proofs.Laws.FirstCause.{second_cause, second_none, declined, answered, cause_first}
use Rattle.big_endian_spec.specs.Numbers.{part_put}
use Rattle.big_endian_spec.proofs.Laws.{part_held}
use Rattle.record.specs.Laws.Lists.{sets_front}
use Rattle.joguyvi_spec.specs.Buffers.{buffer_cause}
use Rattle.mixing_spec.specs.MixingAnswer.{MixingAnswer}
use Rattle.joguyvi_spec.proofs.Laws.Buffers.{buffer_out, buffer_fits, buffer_size, thirteen, unfilled, one}
use Rattle.joguyvi_spec.specs.Rows.{part_number, PartPost}
use Rattle.joguyvi_spec.specs.Mixing.{put_count_number, PutCountPost}

pub eleven : ◌≡◌ {A = ℕ} 11 0 → ⊥
eleven e = omega arith

-- An empty part, a buffer of another length, and one that fits.
module _ (part out : List ℕ) where
  abbrev empty : ℕ
  empty = cond (eqb (length part) 0) 11 0

  pub part_empty : length part ≡ 0 → PartPost part out 11 out
  part_empty e = record { answer = cause_first (buffer_cause (length part) out) (sym (answered (length part) 11 0 e)) eleven; filled = unfilled part out eleven }

  pub part_some : (length part ≡ 0 → ⊥) → part_number part out ≡ buffer_cause (length part) out
  part_some h = second_cause empty (buffer_cause (length part) out) (declined (length part) 11 0 h)

  pub part_out : (length part ≡ 0 → ⊥) → (length out ≡ length part → ⊥) → PartPost part out 13 out
  part_out h wrong = record { answer = sym (part_some h ∙ buffer_out (length part) out wrong); filled = unfilled part out thirteen }

  -- As many bytes laid from the front are all that the buffer then holds.
  whole : length out ≡ length part → sets out 0 (take (length part) part) ≡ part
  whole fits =
      ap (sets out 0) (take-length part)
      ∙ sets_front out part (omega arith)
      ∙ ap (λ n. part ++ drop n out) (sym fits)
      ∙ ap (λ l. part ++ l) (drop-length out)
      ∙ append-nil part

  pub part_copied : {out' : List ℕ} → (length part ≡ 0 → ⊥) → length out ≡ length part → out' ≡ part_put (length part) part 0 out 0 → PartPost part out 0 out'
  part_copied h fits e =
      record {
        answer = sym (part_some h ∙ buffer_fits (length part) out fits);
        filled = e ∙ part_held (length part) part 0 out 0 (omega arith) (omega arith) ∙ whole fits;
      }

-- A count: the number is the first cause of the answer's and the buffer's.
module _ (m : MixingAnswer) (out : List ℕ) {n : ℕ} (is : n ≡ put_count_number m out) where
  pub count_refused : (n ≡ 0 → ⊥) → PutCountPost m out n out
  count_refused some = record { answer = is; filled = unfilled (m.count ∷ []) out some }

  module _ (none : n ≡ 0) where
    pub count_fits : length out ≡ 1
    count_fits = buffer_size 1 out (second_none m.number (buffer_cause 1 out) (sym is ∙ none))

    pub count_put : PutCountPost m out 0 (set out 0 m.count)
    count_put = record { answer = sym none ∙ is; filled = one out m.count count_fits }
