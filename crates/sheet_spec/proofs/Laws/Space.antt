-- The sheet of any bytes has space where the answer says so.
use Prim.Native.Nat.{ℕ, suc, ◌+◌, ◌*◌, ◌≤◌}
use Rattle.std.specs.Prelude.{◌≡◌, Bool, cond, List, ◌++◌, ◌⊎◌, ltb, length, take, drop, replicate}
use Rattle.std.proofs.Math.Path.{refl}
use Rattle.std.proofs.Math.Bool.{true, false}
use Rattle.std.proofs.Common.{inl, inr, ⊎_elim, eq-eqb, ne_eqb, length-take-le, take_at}
use native.Mathlib.Omega.{arith}
use Rattle.std.proofs.Math.Nat.{mul-le-mul}
use Rattle.std.proofs.Math.Decide.{ℕ_discrete}
use Rattle.std.proofs.lemmas.List.{length-replicate}
use Rattle.scheme.proofs.Laws.FirstCause.{or_holds}
use Rattle.scheme.specs.declared.Scheme.{Scheme}
use Rattle.scheme.specs.Accepted.{Accepted}
use Rattle.scheme.specs.Cause.{cause_of}
use Rattle.scheme.proofs.Laws.Judged.{accepted_cause, cause_most}
use Rattle.record_spec.specs.Layout.{scheme_in}
use Rattle.record_spec.specs.Read.{frame_cause, read_cause}
use Rattle.record_spec.proofs.Laws.Frame.{frame_number}
use Rattle.record_spec.proofs.Laws.Read.{scheme_none}
use Rattle.record_spec.specs.Write.{Written, Declined}
use Rattle.sheet_spec.specs.Sheet.{class_lines, year_premium, year_lines, sheet_of, refused_line, sheet_text}
use Rattle.sheet_spec.specs.Answer.{space_of, space_for, sheet_answer, sheet_leaves, TextPromise}
use Rattle.sheet_spec.proofs.Laws.Figures.{share_at_most, mean_at_most, total_at_most}
use Rattle.sheet_spec.proofs.Laws.Widths.{Within, within_append, within_joined, scheme_line_within, class_line_within, premium_line_within, total_line_within, refused_line_within}

-- The lines of a year, and the sheet of an accepted scheme.
module _ (s : Scheme) (ok : Accepted s) where
  -- "a line for each class in order …, and its PREMIUM line".
  year_order : (t : ℕ) → year_lines s t ≡ class_lines s t ++ year_premium s t
  unfolding year_lines
  year_order t = refl

  year_within : (t : ℕ) → t ≤ s.horizon → Within (s.classes * 40 + 35) (year_lines s t)
  year_within t h =
      rw (year_order t)
      (within_append
      (within_joined 40 s.classes _ (λ j l.
      class_line_within t j _ _ (omega (arith, ok.horizon.within)) (omega (arith, ok.size.classes)) (share_at_most false s ok j t) (share_at_most true s ok j t)))
      (premium_line_within t _ _ (omega (arith, ok.horizon.within)) (mean_at_most false s ok t) (mean_at_most true s ok t)))

  pub sheet_within : Within (space_of s) (sheet_of s)
  unfolding space_of sheet_of
  sheet_within =
      within_append
      (within_append (scheme_line_within s ok) (within_joined (s.classes * 40 + 35) (suc s.horizon) (year_lines s) (λ t l. year_within t (omega arith))))
      (total_line_within _ _
      (omega (arith, ok.horizon.within, total_at_most false s ok s.horizon))
      (omega (arith, ok.horizon.within, total_at_most true s ok s.horizon)))

  pub space_at_most : space_of s ≤ 132862
  unfolding space_of
  space_at_most =
      let years : suc s.horizon ≤ 101 = omega (arith, ok.horizon.within) in
      let lines : s.classes * 40 + 35 ≤ 1315 = omega (arith, ok.size.classes) in
      omega (arith, mul-le-mul years lines)

  -- The space as the code makes it.
  pub space_coded : 19 + (s.horizon + 1) * (s.classes * 40 + 35) + 28 ≡ space_of s
  unfolding space_of
  space_coded = omega arith

-- A part of an array of zeros.
pub zeros_part : (m n : ℕ) → n ≤ m → length {A = ℕ} (take n (replicate m 0)) ≡ n
zeros_part m n h = length-take-le n (replicate m 0) (omega (arith, length-replicate {A = ℕ} m 0))

-- The causes of a record are 10 at most, or 17.
pub read_number : (bytes : List ℕ) → (read_cause bytes ≤ 10) ⊎ (read_cause bytes ≡ 17)
read_number bytes =
    or_holds (λ n. (n ≤ 10) ⊎ (n ≡ 17)) (frame_cause bytes) (cause_of (scheme_in bytes)) (⊎_elim (λ l. inl (omega arith)) inr (frame_number bytes)) (inl (cause_most (scheme_in bytes)))

pub read_cause_most : (bytes : List ℕ) → read_cause bytes ≤ 17
read_cause_most bytes = ⊎_elim (λ l. omega arith) (λ e. omega arith) (read_number bytes)

-- Bytes without a cause hold an accepted scheme.
pub read_accepted : (bytes : List ℕ) → read_cause bytes ≡ 0 → Accepted (scheme_in bytes)
read_accepted bytes e = accepted_cause _ (scheme_none bytes e)

-- The text and the space of any bytes, by cases.
module _ (bytes : List ℕ) where
  pub text_accepted : read_cause bytes ≡ 0 → sheet_text bytes ≡ sheet_of (scheme_in bytes)
  unfolding sheet_text
  text_accepted e = rw (eq-eqb (read_cause bytes) 0 e)

  pub space_accepted : read_cause bytes ≡ 0 → space_for bytes ≡ space_of (scheme_in bytes)
  unfolding space_for
  space_accepted e = rw (eq-eqb (read_cause bytes) 0 e)

  pub text_refused : (read_cause bytes ≡ 0 → ⊥) → sheet_text bytes ≡ refused_line (read_cause bytes)
  unfolding sheet_text
  text_refused e = rw (ne_eqb (read_cause bytes) 0 e)

  pub space_refused : (read_cause bytes ≡ 0 → ⊥) → space_for bytes ≡ 11
  unfolding space_for
  space_refused e = rw (ne_eqb (read_cause bytes) 0 e)

-- The space of any bytes is enough for their text, and at most 132,862.
pub record EnoughSpace (bytes : List ℕ) : Type 0 where
  pub enough : length (sheet_text bytes) ≤ space_for bytes
  pub most : space_for bytes ≤ 132862

pub enough_space : (bytes : List ℕ) → EnoughSpace bytes
enough_space bytes = by (ℕ_discrete (read_cause bytes) 0)
  where
    by : Dec (read_cause bytes ≡ 0) → EnoughSpace bytes
    by (yes none) =
        record {
          enough = rw (text_accepted bytes none, space_accepted bytes none) (sheet_within (scheme_in bytes) (read_accepted bytes none)).fits;
          most = rw (space_accepted bytes none) (space_at_most (scheme_in bytes) (read_accepted bytes none));
        }
    by (no some) =
        record {
          enough = rw (text_refused bytes some, space_refused bytes some) (refused_line_within (read_cause bytes) (omega (arith, read_cause_most bytes))).fits;
          most = rw (space_refused bytes some) (omega arith);
        }

-- The answer keeps its promise.
pub text_kept : (bytes out : List ℕ) → TextPromise bytes (sheet_leaves bytes out) (sheet_answer bytes out)
unfolding sheet_answer sheet_leaves
text_kept bytes out = by (ltb (length out) (space_for bytes))
  where
    by : (short : Bool) → TextPromise bytes (cond short out (sheet_text bytes ++ drop (length (sheet_text bytes)) out)) (cond short (Declined 13) (Written (length (sheet_text bytes))))
    by true e = absurd (omega arith)
    by false e = take_at (sheet_text bytes) (drop (length (sheet_text bytes)) out) (length (sheet_text bytes)) refl
