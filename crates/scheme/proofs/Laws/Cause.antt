-- What each test tells, and how the stages of the code make the first cause of a scheme.
use Prim.Native.Nat.{ℕ, ◌≤◌}
use Rattle.std.specs.Prelude.{◌≡◌, false, not, [], ◌∷◌, eqb, ltb}
use Rattle.std.proofs.Math.Path.{ap, ap₂, sym}
use Rattle.std.proofs.Common.{◌∙◌, true≢false, arith, ltb-false, ne_eqb, le-ltb}
use Rattle.std.proofs.Math.Decide.{ℕ_discrete}
use Rattle.std.proofs.lemmas.Bool.{eqb-false}
use Rattle.setchain.proofs.Laws.Tests.{or_false_left, or_false_right, any_same}
use Rattle.scheme.specs.declared.Scheme.{Scheme}
use Rattle.scheme.specs.Access.{cell_count, shared_lower, shared_upper}
use Rattle.scheme.specs.Cause.{outside, sizes_out, sizes_cause, size_out, start_out, horizon_out, rule_out, band_out, sum_out, premium_out, cause_of, slice_cause, slices_cause}
use Rattle.scheme.specs.FirstCause.{◌when◌, or_else, first_of}
use Rattle.scheme.specs.Accepted.{SizeFits}
use Rattle.scheme.specs.Stages.{form_cause, band_cause}
use Rattle.scheme.proofs.Laws.FirstCause.{first_cause, second_cause, first_none, second_none, test_none, or_assoc}

-- A number that passed the test is one of 1 to max.
pub outside_false : (max x : ℕ) → outside max x ≡ false → (1 ≤ x) × (x ≤ max)
outside_false max x e =
    let zero-not : (x ≡ 0 → ⊥) = eqb-false x 0 (or_false_left (eqb x 0) (ltb max x) e) in
    (omega arith, ltb-false max x (or_false_right (eqb x 0) (ltb max x) e))

pub inside_outside : (max x : ℕ) → 1 ≤ x → x ≤ max → outside max x ≡ false
inside_outside max x h k = simp (ne_eqb x 0 (λ e. omega arith), le-ltb max x k)

-- Sizes that passed the test.
pub sizes_inside : (s m : ℕ) → sizes_out s m ≡ false → ((1 ≤ s) × (s ≤ 32)) × ((1 ≤ m) × (m ≤ 8))
sizes_inside s m test =
    (outside_false 32 s (or_false_left (outside 32 s) (outside 8 m) test), outside_false 8 m (or_false_right (outside 32 s) (outside 8 m) test))

-- A slice without cause 13 is of the size asked for, and so are two.
pub slice_fits : (size given : ℕ) → slice_cause size given ≡ 0 → given ≡ size
slice_fits size given e = by (ℕ_discrete given size)
  where
    by : Dec (given ≡ size) → given ≡ size
    by (yes z) = z
    by (no h) = absurd (true≢false (sym (ap not (ne_eqb given size h)) ∙ test_none (not (eqb given size)) 13 (omega arith) e))

pub slices_fit : (size one other : ℕ) → slices_cause size one other ≡ 0 → (one ≡ size) × (other ≡ size)
slices_fit size one other e = (
  slice_fits size one (first_none (slice_cause size one) (slice_cause size other) e),
  slice_fits size other (second_none (slice_cause size one) (slice_cause size other) e),
)

-- No cause in the sizes.
pub sizes_clear : (s m : ℕ) → sizes_cause s m ≡ 0 → ((1 ≤ s) × (s ≤ 32)) × ((1 ≤ m) × (m ≤ 8))
sizes_clear s m e = sizes_inside s m (test_none (sizes_out s m) 3 (omega arith) e)

-- No cause in the number of a class.
pub class_fits : (s class : ℕ) → ◌≡◌ {A = ℕ} (11 when outside s class) 0 → (1 ≤ class) × (class ≤ s)
class_fits s class e = outside_false s class (test_none (outside s class) 11 (omega arith) e)

-- The form's causes come first, then the others.
module _ (s : Scheme) where
  form : ℕ
  form = form_cause s.classes s.columns s.start s.horizon

  others : ℕ
  others = first_of (7 when rule_out s ∷ 8 when band_out s ∷ 9 when sum_out s ∷ 10 when premium_out s ∷ [])

  in_turn : cause_of s ≡ or_else form others
  unfolding cause_of size_out start_out horizon_out form others
  in_turn =
      let size : ℕ = 3 when size_out s in
      let start : ℕ = 5 when start_out s in
      let horizon : ℕ = 6 when horizon_out s in
      sym (or_assoc size (or_else start horizon) others ∙ ap (or_else size) (or_assoc start horizon others))

  module _ {number : ℕ} (is : number ≡ form_cause s.classes s.columns s.start s.horizon) where
    -- A cause of the form is the scheme's.
    pub cause_form : (number ≡ 0 → ⊥) → number ≡ cause_of s
    unfolding form
    cause_form some = is ∙ sym (in_turn ∙ first_cause form others (λ z. some (is ∙ z)))

    module _ (none : number ≡ 0) where
      -- Without one the size fits.
      pub size_fits : SizeFits s
      size_fits =
          let sizes = sizes_clear s.classes s.columns (first_none (sizes_cause s.classes s.columns) _ (sym is ∙ none)) in
          record { some_class = sizes.0.0; classes = sizes.0.1; some_column = sizes.1.0; columns = sizes.1.1 }

      -- All classes share their bands.
      same_bands : band_cause (cell_count s) (shared_lower s) (shared_upper s) ≡ or_else (8 when band_out s) (9 when sum_out s)
      unfolding band_out sum_out
      same_bands =
          let some = size_fits.some_class in
          ap₂ (λ x y. or_else (8 when x) (9 when y)) (sym (any_same s.classes _ some)) (sym (any_same s.classes _ some))

      -- And the others' first is the scheme's.
      pub cause_later : or_else (7 when rule_out s) (or_else (band_cause (cell_count s) (shared_lower s) (shared_upper s)) (10 when premium_out s)) ≡ cause_of s
      unfolding form others
      cause_later =
          ap (λ n. or_else (7 when rule_out s) (or_else n (10 when premium_out s))) same_bands
          ∙ ap (or_else (7 when rule_out s)) (or_assoc (8 when band_out s) (9 when sum_out s) (10 when premium_out s))
          ∙ sym (in_turn ∙ second_cause form others (sym is ∙ none))
