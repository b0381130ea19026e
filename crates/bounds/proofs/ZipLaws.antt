-- Loops over two slices side by side: the pair of a turn stands at the place of the slices that has as many before it as there were turns before it.
-- A counted loop numbers its turns so; a loop over the first n pairs ends after n turns.
-- Assumes nothing.
use Prim.Native.Nat.{ℕ, ◌+◌, ◌≤◌, ◌<◌}
use mathlib.Core.Path.{◌≡◌, refl, ap, ◌∙◌, subst}
use mathlib.Core.List.{List, [], ◌∷◌, map}
use native.Mathlib.Omega.{arith}
use denote.Ref.{Bor}
use lib.ListN.{length, take, length-take}
use lib.Seq.{get_or-take}
use Rattle.std.proofs.lemmas.List.{length-map, get_or_default}
use Rattle.std.specs.List.{zip}
use Rattle.std.specs.Prelude.{Option, None, Some}
use Rattle.std.specs.declared.iter.Enumerate.{Enumerate}
use Rattle.std.specs.declared.iter.Take.{Take}
use Rattle.std.specs.declared.iter.Zip.{Zip}
use Rattle.std.specs.declared.slice.Iter.{Iter}
use Rattle.std.specs.Iterator.{Yields}
use Rattle.std.specs.Iterator.Adapters.{enumerate_source, enumerate_count, enumerate_steps, take_source, take_count, take_steps, zip_first, zip_second}
use Rattle.std.specs.Slice.Iter.{iter_rest}
use Rattle.std.proofs.iter.Yields.{fronts}
use Rattle.std.proofs.lemmas.Iterator.{zips, YieldsList, YieldsList-from_slice, YieldsList-from_zip, YieldsList-from_take}
use Rattle.std.proofs.lemmas.Iterator.Consumers.{YieldsList-turn, YieldsList-end}
use Rattle.std.proofs.lemmas.Slice.Zip.{zip_turn, length-zip, get_or-zip}
use Rattle.setchain.specs.Sums.{at}

-- The count rises by one with each item, and the items are those of the source.
counted_items : {S A : Type 0} (steps : S → Option A → S → Type 0) (xs : List (ℕ × A)) (s t : Enumerate S) → Yields (enumerate_steps steps) s xs t
    → (enumerate_count t ≡ enumerate_count s + length xs) × Yields steps (enumerate_source s) (map (λ x. x.1) xs) (enumerate_source t)
counted_items steps [] s t y = (omega (arith, ap enumerate_count y), ap enumerate_source y)
counted_items steps (x ∷ xs) s t y =
    let k = counted_items steps xs y.0 t y.2 in (omega (arith, k.0, y.1.2), (enumerate_source y.0, y.1.0, k.1))

module _ (lower upper : List ℕ) (xs : List (ℕ × (Bor ℕ × Bor ℕ))) (s t u : Enumerate (Zip (Iter ℕ) (Iter ℕ))) (r : Option (ℕ × (Bor ℕ × Bor ℕ)))
    (first : iter_rest (zip_first (enumerate_source s)) ≡ lower) (second : iter_rest (zip_second (enumerate_source s)) ≡ upper) (none : enumerate_count s ≡ 0)
    (y : Yields (enumerate_steps (zips fronts fronts)) s xs t) where
  pub counted_turn : (p : ℕ × (Bor ℕ × Bor ℕ)) → r ≡ Some p → enumerate_steps (zips fronts fronts) t r u
      → (p.0 ≡ length xs) × (length xs < length upper) × (p.1.0.now ≡ at lower (length xs)) × (p.1.1.now ≡ at upper (length xs))
  counted_turn p is step =
      let k = counted_items (zips fronts fronts) xs s t y in
      let now = subst (λ o. enumerate_steps (zips fronts fronts) t o u) is step in
      let z = zip_turn lower upper (map (λ x. x.1) xs) (enumerate_source s) (enumerate_source t) (enumerate_source u) (Some p.1) first second k.1 p.1 refl now.0 in
      let count : length (map (λ (x : ℕ × (Bor ℕ × Bor ℕ)). x.1) xs) ≡ length xs = length-map xs (λ x. x.1) in (
        omega (arith, k.0, none, now.1),
        omega (arith, count, z.1),
        z.2 0 ∙ ap (at lower) count,
        z.3 0 ∙ ap (at upper) count,
      )

module _ (n : ℕ) (lower upper : List ℕ) (few : n ≤ length lower) (fits : n ≤ length upper) (xs : List (Bor ℕ × Bor ℕ)) (s t u : Take (Zip (Iter ℕ) (Iter ℕ)))
    (r : Option (Bor ℕ × Bor ℕ)) (first : iter_rest (zip_first (take_source s)) ≡ lower) (second : iter_rest (zip_second (take_source s)) ≡ upper)
    (count : take_count s ≡ n) (y : Yields (take_steps (zips fronts fronts)) s xs t) where
  abbrev pairs : List (ℕ × ℕ)
  pairs = take n (zip lower upper)

  pairs_long : length pairs ≡ n
  pairs_long = omega (arith, length-take n (zip lower upper), length-zip lower upper, few, fits)

  road : YieldsList (take_steps (zips fronts fronts)) (λ p. (p.0.now, p.1.now)) s pairs
  road = YieldsList-from_take n (YieldsList-from_zip (YieldsList-from_slice lower first) (YieldsList-from_slice upper second)) count

  pub taken_turn : (p : Bor ℕ × Bor ℕ) → r ≡ Some p → take_steps (zips fronts fronts) t r u
      → (length xs < n) × (p.0.now ≡ at lower (length xs)) × (p.1.now ≡ at upper (length xs))
  taken_turn p is step =
      let k = YieldsList-turn road xs t y r u p is step in
      let inside : length xs < n = omega (arith, k.0, pairs_long) in
      let long : length xs < length (zip lower upper) = omega (arith, inside, length-zip lower upper, few, fits) in
      let q : (p.0.now, p.1.now) ≡ (at lower (length xs), at upper (length xs)) =
      k.1 ∙ get_or-take n (zip lower upper) (length xs) _ inside ∙ get_or_default (zip lower upper) (length xs) _ (0, 0) long
      ∙ get_or-zip lower upper (length xs) (0, 0) (omega (arith, inside, few)) (omega (arith, inside, fits)) in
      (inside, ap (λ (w : ℕ × ℕ). w.0) q, ap (λ (w : ℕ × ℕ). w.1) q)

  pub taken_end : r ≡ None → take_steps (zips fronts fronts) t r u → length xs ≡ n
  taken_end is step = (YieldsList-end road xs t y r u is step).1 ∙ pairs_long
