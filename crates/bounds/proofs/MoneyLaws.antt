-- Money in tenths and in cents: premiums written in tenths, answers in cents, and the places of a slice rounded one after the other.
-- Assumes nothing.
use Prim.Native.Nat.{ℕ, suc, ◌+◌, ◌*◌, ◌≤◌, ◌<◌}
use mathlib.Core.Path.{◌≡◌, refl, ap, sym, ◌∙◌}
use mathlib.Core.Bool.{Bool, true, false}
use mathlib.Core.Logic.{◌⊎◌, inl, inr}
use mathlib.Core.List.{List}
use native.Mathlib.Decide.{ℕ_discrete}
use native.Mathlib.Nat.{lt_of_mul-lt-mul_right, mul-lt-mul_of_pos_right, eq-or-lt_of_le, le_of_suc-le-suc}
use native.Mathlib.Omega.{arith}
use lib.ListN.{length, set, length-set}
use lib.Seq.{get_or-set_same, get_or-set_other}
use borrow.Author.Count.{below_none}
use Rattle.setchain.specs.Sums.{at}
use Rattle.setchain.specs.Rounding.{rounded}
use Rattle.setchain.specs.Years.{CENT, tenths}
use Rattle.scheme.proofs.Laws.FirstCause.{answered, declined}
use Rattle.order.proofs.Laws.Written.{Written}
use Rattle.bounds_spec.specs.Answers.{Answered, Refused, answer_by}
use Rattle.bounds.specs.Years.{SeriesStored}
use Rattle.bounds.specs.Money.{TenthsPost, in_cents, RoundMeansPost}

-- All premiums written in tenths.
pub tenths_all : {premiums out : List ℕ} {i : ℕ} → 32 ≤ i → Written 32 (tenths (at premiums)) out i → TenthsPost premiums out
tenths_all h w = record { each = λ k l. w.done k (omega arith) }

-- An answer in cents has the same cause.
pub cents_answer : (n low high : ℕ) → in_cents (answer_by n low high) ≡ answer_by n (rounded false CENT low) (rounded true CENT high)
cents_answer n low high = by (ℕ_discrete n 0)
  where
    by : Dec (n ≡ 0) → in_cents (answer_by n low high) ≡ answer_by n (rounded false CENT low) (rounded true CENT high)
    by (yes z) = ap in_cents (answered n (Answered low high) (Refused n) z) ∙ sym (answered n _ _ z)
    by (no h) = ap in_cents (declined n (Answered low high) (Refused n) h) ∙ sym (declined n _ _ h)

-- The places of the first `years` years are rounded, the next is `place`, and nothing else has changed.
pub record Rounded (high : Bool) (stride : ℕ) (before after : List ℕ) (place : ℕ) : Type 0 where
  pub years : ℕ
  pub next : place ≡ years * stride
  pub size : length after ≡ length before
  pub done : (u : ℕ) → u < years → at after (u * stride) ≡ rounded high CENT (at before (u * stride))
  pub rest : (p : ℕ) → ((u : ℕ) → u < years → p ≡ u * stride → ⊥) → at after p ≡ at before p

-- Places of different years are different.
places_apart : (stride u v : ℕ) → 1 ≤ stride → u < v → u * stride ≡ v * stride → ⊥
places_apart stride u v positive l e = let less : u * stride < v * stride = mul-lt-mul_of_pos_right l positive in omega arith

module _ {high : Bool} {stride : ℕ} {before : List ℕ} where
  pub rounded_none : Rounded high stride before before 0
  rounded_none = record { years = 0; next = omega arith; size = refl; done = below_none _; rest = λ p h. refl }

  pub rounded_more : {after : List ℕ} {place : ℕ} (v : ℕ) → 1 ≤ stride → place < length after → v ≡ rounded high CENT (at after place)
      → Rounded high stride before after place → Rounded high stride before (set after place v) (place + stride)
  rounded_more {after} {place} v positive l e w =
      record {
        years = suc w.years;
        next = omega (arith, w.next);
        size = length-set after place v ∙ w.size;
        done = λ u g. by u (eq-or-lt_of_le (le_of_suc-le-suc g));
        rest = λ p h. get_or-set_other after place p v 0 (λ g. h w.years (omega arith) (g ∙ w.next)) ∙ w.rest p (λ u g. h u (omega arith));
      }
    where
      untouched : at after place ≡ at before place
      untouched = w.rest place (λ u g k. places_apart stride u w.years positive g (sym k ∙ w.next))

      by : (u : ℕ) → (u ≡ w.years) ⊎ (u < w.years) → at (set after place v) (u * stride) ≡ rounded high CENT (at before (u * stride))
      by u (inl z) =
          let here : u * stride ≡ place = ap (λ y. y * stride) z ∙ sym w.next in
          ap (at (set after place v)) here
          ∙ get_or-set_same after place v 0 l
          ∙ e
          ∙ ap (rounded high CENT) (untouched ∙ ap (at before) (sym here))
      by u (inr g) =
          get_or-set_other after place (u * stride) v 0 (λ k. places_apart stride u w.years positive g (k ∙ w.next)) ∙ w.done u g

  pub rounded_all : {after : List ℕ} {place : ℕ} → length after ≤ place → Rounded high stride before after place → RoundMeansPost high stride before after
  rounded_all l w =
      record {
        size = w.size;
        own = λ u h. w.done u (lt_of_mul-lt-mul_right stride (omega (arith, w.next, w.size)));
        other = λ p h. w.rest p (λ u g. h u);
      }

-- A series whose places are rounded is the series of the rounded figures.
pub series_rounded : {figure : ℕ → ℕ} {high : Bool} {stride count : ℕ} {before middle after : List ℕ} → SeriesStored figure stride count before middle
    → RoundMeansPost high stride middle after → SeriesStored (λ u. rounded high CENT (figure u)) stride count before after
series_rounded {high = high} w r =
    record {
      size = r.size ∙ w.size;
      done = λ u l h. r.own u (omega (arith, w.size)) ∙ ap (rounded high CENT) (w.done u l h);
      other = λ p h. r.other p h ∙ w.other p h;
    }
