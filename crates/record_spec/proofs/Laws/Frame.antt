-- The causes 1 to 4 and 17 of a record's bytes, by cases.
use Rattle.std.specs.Prelude.{ℕ, ◌+◌, ◌-◌, ◌≤◌, ◌≡◌, not, List, ◌⊎◌, eqb, ltb, length, get_or}
use Rattle.std.proofs.Math.Path.{refl, ap, sym}
use Rattle.std.proofs.Common.{◌∙◌, subst, inl, inr, arith}
use borrow.Author.Tests.{ltb-false, eqb-true, eqb-false, not-false, eq-eqb, ne_eqb, le-ltb}
use Rattle.setchain.specs.Tests.{any_below}
use Rattle.setchain.proofs.Laws.Tests.{or_false, or_false_left, or_false_right, any_clear, any_false}
use Rattle.scheme.specs.FirstCause.{◌when◌, or_else}
use Rattle.scheme.specs.Cause.{sizes_out, sizes_cause}
use Rattle.scheme.proofs.Laws.FirstCause.{first_cause, second_cause, first_none, second_none, test_none, or_assoc, Tells, Told, all_fit, none_applies_lem, first_holds}
use Rattle.scheme.proofs.Laws.Cause.{inside_outside, sizes_inside}
use Rattle.big_endian_spec.specs.Numbers.{be_at}
use Rattle.record_spec.specs.Layout.{Layout, HEADER, other_version, version_in, layout_in, length_of, classes_in, columns_in}
use Rattle.record_spec.specs.Frame.{VersionFits, FieldFits, SizesFit, LengthFits, FurtherFits, Framed}
use Rattle.record_spec.specs.Read.{version_out, field_out, length_out, further_out, frame_table, frame_cause}
use Rattle.record_spec.proofs.Laws.Layout.{first_layout, second_layout, length_most, version_told, version_known}

-- Each test of the table tells what its line asks for.
module _ (bytes : List ℕ) where
  version_tells : Tells (version_out bytes) (VersionFits bytes)
  version_tells =
      record {
        fits = λ e.
            let some : (length bytes ≡ 0 → ⊥) = eqb-false (length bytes) 0 (or_false_left (eqb (length bytes) 0) (other_version (version_in bytes)) e) in
            record { some = omega arith; version = version_told (version_in bytes) (or_false_right (eqb (length bytes) 0) (other_version (version_in bytes)) e) };
        passes = λ h. or_false (ne_eqb (length bytes) 0 (λ e. omega (arith, h.some))) (version_known (version_in bytes) h.version);
      }

  field_tells : Tells (field_out bytes) (FieldFits bytes)
  field_tells =
      record {
        fits = λ e.
            record {
              header = ltb-false (length bytes) HEADER (or_false_left (ltb (length bytes) HEADER) (not (eqb (be_at 2 bytes 1) (length bytes))) e);
              field = eqb-true (be_at 2 bytes 1) (length bytes) (not-false _ (or_false_right (ltb (length bytes) HEADER) _ e));
            };
        passes = λ h. simp (le-ltb (length bytes) HEADER h.header, eq-eqb (be_at 2 bytes 1) (length bytes) h.field);
      }

  sizes_tell : Tells (sizes_out (classes_in bytes) (columns_in bytes)) (SizesFit bytes)
  sizes_tell =
      record {
        fits = λ e.
            let sizes = sizes_inside (classes_in bytes) (columns_in bytes) e in
            record { some_class = sizes.0.0; classes = sizes.0.1; some_column = sizes.1.0; columns = sizes.1.1 };
        passes = λ h. simp (inside_outside 32 (classes_in bytes) h.some_class h.classes, inside_outside 8 (columns_in bytes) h.some_column h.columns);
      }

  length_tells : Tells (length_out bytes) (LengthFits bytes)
  length_tells =
      record {
        fits = λ e. record { whole = eqb-true (length bytes) _ (not-false _ e) };
        passes = λ h. simp (eq-eqb (length bytes) (length_of (layout_in bytes) (classes_in bytes) (columns_in bytes)) h.whole);
      }

  further_tells : Tells (further_out bytes) (FurtherFits bytes)
  further_tells =
      let y : Layout = layout_in bytes in
      record {
        fits = λ e. record { further = λ k l. eqb-true (get_or bytes (HEADER + k) 0) (y.holds (columns_in bytes) k) (not-false _ (any_false y.further _ e k l)) };
        passes = λ h. any_clear y.further _ (λ k l. simp (eq-eqb (get_or bytes (HEADER + k) 0) (y.holds (columns_in bytes) k) (h.further k l)));
      }

  told : Told (frame_table bytes)
  told =
      ((omega arith, version_tells), ((omega arith, field_tells), ((omega arith, sizes_tell), ((omega arith, length_tells), ((omega arith, further_tells), tt)))))

  -- Bytes without the causes 1 to 4 and 17 are framed.
  pub frame_clear : frame_cause bytes ≡ 0 → Framed bytes
  unfolding frame_cause
  frame_clear e =
      let (version, (field, (sizes, (length, (further, last))))) = all_fit (frame_table bytes) told e in
      record {
        version = version.version;
        header = field.header;
        field = field.field;
        some_class = sizes.some_class;
        classes = sizes.classes;
        some_column = sizes.some_column;
        columns = sizes.columns;
        whole = length.whole;
        further = further.further;
      }

  -- Framed bytes have none of the causes 1 to 4 and 17.
  pub framed : Framed bytes → frame_cause bytes ≡ 0
  unfolding frame_cause
  framed h =
      none_applies_lem (frame_table bytes) told (
        record { some = omega (arith, h.header); version = h.version },
        (
          record { header = h.header; field = h.field },
          (
            record { some_class = h.some_class; classes = h.classes; some_column = h.some_column; columns = h.columns },
            (record { whole = h.whole }, (record { further = h.further }, tt)),
          ),
        ),
      )

  -- They are 4 at most, or 17.
  pub frame_number : (frame_cause bytes ≤ 4) ⊎ (frame_cause bytes ≡ 17)
  unfolding frame_cause
  frame_number =
      first_holds (λ n. (n ≤ 4) ⊎ (n ≡ 17)) (inl (omega arith)) (frame_table bytes)
      (inl (omega arith), (inl (omega arith), (inl (omega arith), (inl (omega arith), (inr refl, tt)))))

-- The header of bytes without the causes 1 and 2.
pub head_long : (bytes : List ℕ) → or_else (1 when version_out bytes) (2 when field_out bytes) ≡ 0 → HEADER ≤ length bytes
head_long bytes e = ((field_tells bytes).fits (test_none (field_out bytes) 2 (omega arith) (second_none (1 when version_out bytes) (2 when field_out bytes) e))).header

-- Cause 17 by the version and byte 7.
module _ (bytes : List ℕ) where
  pub none_further : (version_in bytes ≡ 2 → ⊥) → 0 ≡ 17 when further_out bytes
  unfolding any_below
  none_further other = rw (first_layout other)

  pub last_differs : version_in bytes ≡ 2 → (get_or bytes 7 0 ≡ columns_in bytes - 1 → ⊥) → 17 ≡ 17 when further_out bytes
  unfolding any_below
  last_differs two other = rw (second_layout two, ne_eqb (get_or bytes 7 0) (columns_in bytes - 1) other)

  pub last_same : version_in bytes ≡ 2 → get_or bytes 7 0 ≡ columns_in bytes - 1 → 0 ≡ 17 when further_out bytes
  unfolding any_below
  last_same two same = rw (second_layout two, eq-eqb (get_or bytes 7 0) (columns_in bytes - 1) same)

-- "at most 455".
pub framed_short : {bytes : List ℕ} → Framed bytes → length bytes ≤ 455
framed_short {bytes} f = subst (λ n. n ≤ 455) (sym f.whole) (length_most (version_in bytes) f.classes f.columns)

-- The causes 1 to 4 and 17 in three steps.
module _ (bytes : List ℕ) where
  head : ℕ
  head = or_else (1 when version_out bytes) (2 when field_out bytes)

  shape : ℕ
  shape = or_else (sizes_cause (classes_in bytes) (columns_in bytes)) (4 when length_out bytes)

  last : ℕ
  last = 17 when further_out bytes

  in_turn : frame_cause bytes ≡ or_else head (or_else shape last)
  unfolding frame_cause head shape last
  in_turn =
      sym
      (or_assoc (1 when version_out bytes) (2 when field_out bytes) (or_else shape last)
      ∙ ap (λ n. or_else (1 when version_out bytes) (or_else (2 when field_out bytes) n)) (or_assoc (sizes_cause (classes_in bytes) (columns_in bytes)) (4 when length_out bytes) last))

  pub frame_head : {number : ℕ} → number ≡ or_else (1 when version_out bytes) (2 when field_out bytes) → (number ≡ 0 → ⊥) → number ≡ frame_cause bytes
  unfolding head
  frame_head e some = e ∙ sym (in_turn ∙ first_cause head (or_else shape last) (λ z. some (e ∙ z)))

  pub frame_shape : {number : ℕ} → or_else (1 when version_out bytes) (2 when field_out bytes) ≡ 0
      → number ≡ or_else (sizes_cause (classes_in bytes) (columns_in bytes)) (4 when length_out bytes) → (number ≡ 0 → ⊥) → number ≡ frame_cause bytes
  unfolding head shape
  frame_shape none e some = e ∙ sym (in_turn ∙ second_cause head (or_else shape last) none ∙ first_cause shape last (λ z. some (e ∙ z)))

  pub frame_last : {number : ℕ} → or_else (1 when version_out bytes) (2 when field_out bytes) ≡ 0
      → or_else (sizes_cause (classes_in bytes) (columns_in bytes)) (4 when length_out bytes) ≡ 0 → number ≡ 17 when further_out bytes → number ≡ frame_cause bytes
  unfolding head shape last
  frame_last none fits e = e ∙ sym (in_turn ∙ second_cause head (or_else shape last) none ∙ second_cause shape last fits)

  -- What bytes without the causes 3 and 4 have.
  pub shape_fits : or_else (sizes_cause (classes_in bytes) (columns_in bytes)) (4 when length_out bytes) ≡ 0 → SizesFit bytes × LengthFits bytes
  shape_fits e = (
    (sizes_tell bytes).fits (test_none _ 3 (omega arith) (first_none (sizes_cause (classes_in bytes) (columns_in bytes)) (4 when length_out bytes) e)),
    (length_tells bytes).fits (test_none (length_out bytes) 4 (omega arith) (second_none (sizes_cause (classes_in bytes) (columns_in bytes)) (4 when length_out bytes) e)),
  )
