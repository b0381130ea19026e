-- Equal lists laid one after another are equal, and so are the records of schemes with the same values.
use Rattle.std.specs.Prelude.{ℕ, zero, suc, ◌<◌, ◌≡◌, refl}
use Rattle.std.proofs.Common.{ap, ◌∙◌, arith, le_refl}
use Rattle.std.proofs.Math.Path.{ap₂}
use mathlib.Core.List.{List, ◌++◌}
use Rattle.scheme.specs.declared.Scheme.{Scheme}
use Rattle.scheme.specs.Tables.{tab}
use Rattle.scheme.specs.Access.{rule_at}
use Rattle.scheme.specs.Values.{SameValues}
use Rattle.scheme.proofs.Laws.Tab.{tab_eq}
use Rattle.big_endian_spec.specs.Numbers.{be_bytes}
use Rattle.record_spec.specs.Joined.{joined}
use Rattle.record_spec.specs.Layout.{Layout, length_of}
use Rattle.record_spec.specs.Bytes.{header_bytes, header_of, rules_of, band_bytes, bands_of, premiums_of, bytes_of}

-- Equal lists one after another.
pub joined_eq : (n : ℕ) (f g : ℕ → List ℕ) → ((i : ℕ) → i < n → f i ≡ g i) → joined n f ≡ joined n g
unfolding joined
joined_eq zero f g h = refl
joined_eq (suc n) f g h = let e : joined n f ≡ joined n g = joined_eq n f g (λ i lt. h i (omega arith)) in rw (e, h n (le_refl (suc n)))

as_many : {n n' : ℕ} → n ≡ n' → (f g : ℕ → List ℕ) → ((i : ℕ) → i < n → f i ≡ g i) → joined n f ≡ joined n' g
as_many {n} e f g h = joined_eq n f g h ∙ ap (λ k. joined k g) e

-- The record is that of the values up to s and m: the bands are those of the first class.
module _ (y : Layout) {s s' : Scheme} (v : SameValues s s') (some : 0 < s.classes) where
  header_same : header_of y s ≡ header_of y s'
  header_same = λ t. header_bytes y (length_of y (v.others.classes t) (v.others.columns t)) (v.others.classes t) (v.others.columns t) (v.others.start t) (v.others.horizon t)

  rules_same : rules_of s ≡ rules_of s'
  rules_same =
      as_many v.others.classes _ _
      (λ i l. tab_eq 0 s.columns (rule_at s i) (rule_at s' i) (λ k g. v.others.rules i k l g) ∙ ap (λ m. tab m (rule_at s' i)) v.others.columns)

  bands_same : bands_of s 0 ≡ bands_of s' 0
  bands_same = as_many v.others.columns _ _ (λ k g. ap₂ band_bytes (v.lowers 0 k some g) (v.uppers 0 k some g))

  premiums_same : premiums_of y s ≡ premiums_of y s'
  premiums_same = as_many v.others.classes _ _ (λ i l. ap (be_bytes y.width) (v.others.premiums i l))

  pub bytes_same : bytes_of y s ≡ bytes_of y s'
  unfolding bytes_of
  bytes_same = ap₂ ◌++◌ (ap₂ ◌++◌ (ap₂ ◌++◌ header_same rules_same) bands_same) premiums_same
