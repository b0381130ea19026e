-- Worked cases, computed: Example A's rows (document 01, "Sheet program and examples"), and the order of the causes.
use Rattle.std.specs.Prelude.{ℕ, ◌≡◌, refl, List, [], ◌∷◌, ◌++◌, replicate}
use Rattle.setchain.specs.Sums.{sum_to, only_if}
use Rattle.setchain.specs.Tests.{any_below}
use Rattle.scheme.specs.declared.Scheme.{Scheme}
use Rattle.scheme.specs.Access.{class_bands}
use Rattle.scheme.specs.Cause.{size_out, start_out, horizon_out, rule_out, band_out, sum_out, premium_out, cause_of, slice_cause, slices_cause}
use Rattle.scheme.specs.Rows.{chain_of}
use Rattle.scheme.specs.Stored.{no_scheme}

-- Numbers followed by 0 up to a length.
abbrev pub padded : ℕ → List ℕ → List ℕ
padded rest l = l ++ replicate rest 0

-- Example A: two classes, three columns, start 2, horizon 2.
abbrev pub scheme_a : Scheme
scheme_a =
    record {
      classes = 2;
      columns = 3;
      start = 2;
      horizon = 2;
      rules = padded 245 (1 ∷ 1 ∷ 2 ∷ 0 ∷ 0 ∷ 0 ∷ 0 ∷ 0 ∷ 1 ∷ 2 ∷ 2 ∷ []);
      lowers = padded 5 (800000000 ∷ 100000000 ∷ 0 ∷ []);
      uppers = padded 5 (900000000 ∷ 200000000 ∷ 50000000 ∷ []);
      premiums = padded 30 (10000 ∷ 15000 ∷ []);
    }

-- "class 1 row: lower 900000000, 0; upper 1000000000, 50000000. Class 2: lower 800000000, 100000000; upper 900000000, 250000000."
pub record RowsA : Type 0 where
  pub accepted : cause_of scheme_a ≡ 0
  pub lower1 : (((chain_of scheme_a).row 0).lower 0 ≡ 900000000) × (((chain_of scheme_a).row 0).lower 1 ≡ 0)
  pub upper1 : (((chain_of scheme_a).row 0).upper 0 ≡ 1000000000) × (((chain_of scheme_a).row 0).upper 1 ≡ 50000000)
  pub lower2 : (((chain_of scheme_a).row 1).lower 0 ≡ 800000000) × (((chain_of scheme_a).row 1).lower 1 ≡ 100000000)
  pub upper2 : (((chain_of scheme_a).row 1).upper 0 ≡ 900000000) × (((chain_of scheme_a).row 1).upper 1 ≡ 250000000)

pub rows_a : RowsA
unfolding cause_of size_out start_out horizon_out rule_out band_out sum_out premium_out any_below sum_to only_if
rows_a =
    record { accepted = refl; lower1 = (refl, refl); upper1 = (refl, refl); lower2 = (refl, refl); upper2 = (refl, refl) }

-- A scheme of one class and one column.
abbrev pub single : (rule lower upper premium : ℕ) → Scheme
single rule lower upper premium =
    record {
      classes = 1;
      columns = 1;
      start = 1;
      horizon = 100;
      rules = padded 255 (rule ∷ []);
      lowers = padded 7 (lower ∷ []);
      uppers = padded 7 (upper ∷ []);
      premiums = padded 31 (premium ∷ []);
    }

-- Several causes at once: the smallest number is returned; and the edges of the ranges.
pub record CausesInOrder : Type 0 where
  pub rule : cause_of (single 2 1000000002 1000000001 10000001) ≡ 7
  pub band : cause_of (single 1 1000000002 1000000001 10000001) ≡ 8
  pub sums : cause_of (single 1 0 999999999 10000001) ≡ 9
  pub premium : cause_of (single 1 1000000000 1000000000 10000001) ≡ 10
  pub none : cause_of (single 1 1000000000 1000000000 10000000) ≡ 0

pub causes_in_order : CausesInOrder
unfolding cause_of size_out start_out horizon_out rule_out band_out sum_out premium_out any_below sum_to
causes_in_order = record { rule = refl; band = refl; sums = refl; premium = refl; none = refl }

-- The bands of any class: as many as there are cells, or all where there are fewer.
pub bands_of_a_class : (class_bands 2 (5 ∷ 6 ∷ 7 ∷ []) 1 ≡ 5 ∷ 6 ∷ []) × (class_bands 4 (5 ∷ 6 ∷ []) 0 ≡ 5 ∷ 6 ∷ [])
unfolding class_bands
bands_of_a_class = (refl, refl)

-- "number only": what stands beside it is 0 in every place.
pub record NoScheme : Type 0 where
  pub form : (no_scheme.classes ≡ 0) × (no_scheme.columns ≡ 0) × (no_scheme.start ≡ 0) × (no_scheme.horizon ≡ 0)
  pub stored : (no_scheme.rules ≡ padded 256 []) × (no_scheme.lowers ≡ padded 8 []) × (no_scheme.uppers ≡ padded 8 []) × (no_scheme.premiums ≡ padded 32 [])

pub no_scheme_lem : NoScheme
unfolding no_scheme
no_scheme_lem = record { form = (refl, refl, refl, refl); stored = (refl, refl, refl, refl) }

-- A slice of the size asked for, one that is longer and one that is shorter; and two slices, of which each is tested.
pub slice_causes : (slice_cause 2 2 ≡ 0) × (slice_cause 2 3 ≡ 13) × (slice_cause 2 1 ≡ 13) × (slices_cause 2 2 2 ≡ 0) × (slices_cause 2 3 2 ≡ 13) × (slices_cause 2 2 3 ≡ 13)
slice_causes = (refl, refl, refl, refl, refl, refl)
