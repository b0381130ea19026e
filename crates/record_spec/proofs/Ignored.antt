-- A reading sets the values beyond s and m to 0, and a writing looks at none of them (document 01, "Units and the scheme").
use Rattle.std.specs.Prelude.{ℕ, ◌≡◌, refl, Bool, true, false, cond, List, ◌++◌, eqb, ltb, length, drop}
use Rattle.std.proofs.Common.{ap, ap₂}
use Rattle.scheme.specs.declared.Scheme.{Scheme}
use Rattle.scheme.specs.Cause.{cause_of}
use Rattle.scheme.specs.Stored.{cleared}
use Rattle.scheme.specs.Values.{SameButBands, SameValues}
use Rattle.scheme.specs.FirstCause.{◌when◌, or_else}
use Rattle.scheme.proofs.Laws.FirstCause.{first_none, second_none, by_cause}
use Rattle.scheme.proofs.Laws.Judged.{accepted_cause}
use Rattle.scheme.proofs.Laws.Stored.{made_cleared, none_cleared}
use Rattle.scheme.proofs.Laws.Values.{Alike, same, alike_values, alike_same, next_same, cleared_alike}
use Rattle.record_spec.specs.Read.{ReadAnswer, read_cause, declined_with, read_answer}
use Rattle.record_spec.specs.Write.{Written, Declined, record_length, write_cause, write_answer, write_leaves}
use Rattle.record_spec.specs.Layout.{other_version, layout_of, length_of, scheme_in}
use Rattle.record_spec.proofs.Laws.Joined.{bytes_same}

-- "every operation that makes a scheme sets them to 0": a reading of any bytes.
pub read_cleared : (bytes : List ℕ) → cleared (read_answer bytes).scheme ≡ (read_answer bytes).scheme
unfolding read_answer
read_cleared bytes = by (eqb (read_cause bytes) 0)
  where
    answer : Bool → ReadAnswer
    answer passed = cond passed (record { number = 0; scheme = scheme_in bytes }) (declined_with (read_cause bytes))

    by : (passed : Bool) → cleared (answer passed).scheme ≡ (answer passed).scheme
    by true = made_cleared _ _ _ _ _ _ _ _
    by false = none_cleared

-- A writing in any version answers the same for both schemes, and leaves the same in the slice.
pub record SameWriting (s s' : Scheme) : Type 0 where
  pub answer : (version : ℕ) (out : List ℕ) → write_answer s version out ≡ write_answer s' version out
  pub leaves : (version : ℕ) (out : List ℕ) → write_leaves s version out ≡ write_leaves s' version out

alike_writing : {s s' : Scheme} → Alike s s' → SameWriting s s'
unfolding write_answer write_leaves
alike_writing {s} {s'} w =
    record {
      answer = λ v out. by_cause (cause v out) (λ z. ap Written (size v (values v out z).others)) (ap Declined (cause v out));
      leaves = λ v out.
          by_cause (cause v out)
          (λ z. ap₂ (λ l n. l ++ drop n out) (bytes_same (layout_of v) (values v out z) (accepted_cause s (none v out z)).size.some_class) (size v (values v out z).others))
          refl;
    }
  where
    size : (v : ℕ) → SameButBands s s' → record_length s v ≡ record_length s' v
    size v b = ap₂ (length_of (layout_of v)) b.classes b.columns

    cause : (v : ℕ) (out : List ℕ) → write_cause s v out ≡ write_cause s' v out
    cause v out = ap (or_else (1 when other_version v)) (next_same (alike_same w) (λ b. ap (λ n. cond (ltb (length out) n) 13 0) (size v b)))

    none : (v : ℕ) (out : List ℕ) → write_cause s v out ≡ 0 → cause_of s ≡ 0
    none v out z = first_none (cause_of s) (cond (ltb (length out) (record_length s v)) 13 0) (second_none (1 when other_version v) _ z)

    values : (v : ℕ) (out : List ℕ) → write_cause s v out ≡ 0 → SameValues s s'
    values v out z = alike_values w (none v out z)

-- Schemes with the same values are written the same, or declined the same.
pub same_writing : {s s' : Scheme} → SameValues s s' → SameWriting s s'
same_writing v = alike_writing (same v)

-- "Values stored beyond s or m are ignored": every scheme, accepted or not, is written as with 0 for them.
pub write_ignored : (s : Scheme) → SameWriting s (cleared s)
write_ignored s = alike_writing (cleared_alike s)
