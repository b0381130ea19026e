-- The sheet of 65,536 bytes or more is the refusal that their first bytes bring, so that input may be cut there: a record's length field says at most 65,535 (document 01, "Record").
use Rattle.std.specs.Prelude.{ℕ, ◌≤◌, ◌≡◌, refl, Bool, true, false, ◌||◌, List, eqb, ltb, length, take}
use Rattle.std.proofs.Math.Path.{ap}
use Rattle.std.proofs.Common.{sym, ◌∙◌, true≢false, arith, length-take-le, take_all, get_or-take}
use Rattle.std.proofs.Math.Bool.{cond, not}
use Rattle.std.proofs.Math.Decide.{dec_le}
use borrow.Author.Tests.{ne_eqb, le-ltb}
use Rattle.scheme.specs.FirstCause.{◌when◌, or_else}
use Rattle.big_endian_spec.specs.Numbers.{Bytes, be_at}
use Rattle.big_endian_spec.proofs.Laws.{bytes_take, be_at_fits}
use Rattle.record_spec.specs.Layout.{HEADER, other_version, version_in}
use Rattle.record_spec.specs.Read.{frame_cause, read_cause}
use Rattle.sheet_spec.specs.Sheet.{refused_line, sheet_text}
use Rattle.sheet_spec.proofs.Laws.Space.{text_refused}

-- The causes 1 and 2, of which the second applies.
first_two : (a b : Bool) (rest after : ℕ) → b ≡ true → or_else (or_else (1 when a) (or_else (2 when b) rest)) after ≡ cond a 1 2
first_two true true rest after e = refl
first_two true false rest after e = refl
first_two false true rest after e = refl
first_two false false rest after e = absurd (true≢false (sym e))

-- Bytes that are more than a length field can say are refused by their version, or by that field.
module _ (bytes : List ℕ) (small : Bytes bytes) (long : 65536 ≤ length bytes) where
  differs : be_at 2 bytes 1 ≡ length bytes → ⊥
  differs e = omega (arith, be_at_fits 2 bytes 1 small)

  long_cause : read_cause bytes ≡ cond (other_version (version_in bytes)) 1 2
  unfolding frame_cause
  long_cause =
      first_two (eqb (length bytes) 0 || other_version (version_in bytes)) (ltb (length bytes) HEADER || not (eqb (be_at 2 bytes 1) (length bytes))) _ _
      (simp (le-ltb (length bytes) HEADER (omega arith), ne_eqb (be_at 2 bytes 1) (length bytes) differs))
      ∙ ap (λ b. cond (b || other_version (version_in bytes)) 1 2) (ne_eqb (length bytes) 0 (λ e. omega arith))

  pub long_text : sheet_text bytes ≡ refused_line (cond (other_version (version_in bytes)) 1 2)
  long_text = text_refused bytes (λ z. some (other_version (version_in bytes)) (sym long_cause ∙ z)) ∙ ap refused_line long_cause
    where
      some : (b : Bool) → ◌≡◌ {A = ℕ} (cond b 1 2) 0 → ⊥
      some true e = omega arith
      some false e = omega arith

-- "All of the input is the record": its first bytes, 65,536 or more of them where it has so many, bring its sheet.
pub cut_text : (most : ℕ) → 65536 ≤ most → (input : List ℕ) → Bytes input → sheet_text (take most input) ≡ sheet_text input
cut_text most enough input small = by (dec_le most (length input))
  where
    first : version_in (take most input) ≡ version_in input
    first = get_or-take most input 0 0 (omega arith)

    by : Dec (most ≤ length input) → sheet_text (take most input) ≡ sheet_text input
    by (yes long) =
        long_text (take most input) (bytes_take most input small) (omega (arith, length-take-le most input long))
        ∙ ap (λ version. refused_line (cond (other_version version) 1 2)) first
        ∙ sym (long_text input small (omega arith))
    by (no short) = ap sheet_text (take_all most input (omega arith))
