-- The layouts by their versions.
use Rattle.std.specs.Prelude.{ℕ, ◌*◌, ◌≤◌, ◌≡◌, refl, Bool, true, false, ◌⊎◌, eqb}
use Rattle.std.proofs.Common.{ap, sym, ◌∙◌, subst, true≢false, inl, inr, ⊎_elim, arith, mul-le-mul, eqb-true, eq-eqb, ne_eqb}
use Rattle.std.proofs.Math.Decide.{ℕ_discrete}
use Rattle.record_spec.specs.Layout.{Layout, version1, version2, other_version, layout_of, length_of}

-- The layout of version 2, and that of every other number.
pub second_layout : {v : ℕ} → v ≡ 2 → layout_of v ≡ version2
unfolding layout_of
second_layout e = rw e

pub first_layout : {v : ℕ} → (v ≡ 2 → ⊥) → layout_of v ≡ version1
unfolding layout_of
first_layout {v} h = rw (ne_eqb v 2 h)

pub layout_either : (v : ℕ) → (layout_of v ≡ version1) ⊎ (layout_of v ≡ version2)
layout_either v = by (ℕ_discrete v 2)
  where
    by : Dec (v ≡ 2) → (layout_of v ≡ version1) ⊎ (layout_of v ≡ version2)
    by (yes two) = inr (second_layout two)
    by (no other) = inl (first_layout other)

-- What holds of both layouts holds of every layout that is found.
pub of_both : (P : Layout → Type 0) → P version1 → P version2 → (v : ℕ) → P (layout_of v)
of_both P first second v = ⊎_elim (λ e. subst P (sym e) first) (λ e. subst P (sym e) second) (layout_either v)

-- A header has at most one further byte, and a premium at most 4.
pub further_most : (v : ℕ) → (layout_of v).further ≤ 1
further_most = of_both (λ y. y.further ≤ 1) (omega arith) (omega arith)

pub width_most : (v : ℕ) → (layout_of v).width ≤ 4
width_most = of_both (λ y. y.width ≤ 4) (omega arith) (omega arith)

-- "at most 455": so is the length in either version.
pub length_most : (v : ℕ) {s m : ℕ} → s ≤ 32 → m ≤ 8 → length_of (layout_of v) s m ≤ 455
length_most v {s} {m} few low =
    let most : s * m ≤ 32 * 8 = mul-le-mul few low in
    of_both (λ y. length_of y s m ≤ 455) (omega arith) (omega arith) v

-- There is such a version exactly where its layout has it in byte 0.
pub version_told : (v : ℕ) → other_version v ≡ false → v ≡ (layout_of v).version
unfolding layout_of
version_told v = by (eqb v 1) (eqb v 2) refl refl
  where
    by : (a b : Bool) → eqb v 1 ≡ a → eqb v 2 ≡ b → other_version v ≡ false → v ≡ (layout_of v).version
    by a true e f h = rw f (eqb-true v 2 f)
    by true false e f h = rw f (eqb-true v 1 e)
    by false false e f h = absurd (true≢false (sym (rw (e, f)) ∙ h))

pub version_known : (v : ℕ) → v ≡ (layout_of v).version → other_version v ≡ false
unfolding layout_of
version_known v e = by (eqb v 2) refl
  where
    by : (b : Bool) → eqb v 2 ≡ b → other_version v ≡ false
    by true f = rw (f, eqb-true v 2 f)
    by false f = let one : v ≡ 1 = rw f at e in rw (eq-eqb v 1 one)

-- Such a version is at most 2, and where it is not 2 it is 1.
pub version_most : (v : ℕ) → other_version v ≡ false → v ≤ 2
version_most v is = subst (λ n. n ≤ 2) (sym (version_told v is)) (of_both (λ y. y.version ≤ 2) (omega arith) (omega arith) v)

pub version_first : (v : ℕ) → other_version v ≡ false → (v ≡ 2 → ⊥) → v ≡ 1
version_first v is other = version_told v is ∙ ap (λ y. y.version) (first_layout other)
