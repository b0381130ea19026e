-- The fill: the slack given along a strict order of the states leaves a row that sums to ONE, and a pivot state
-- before which every state is filled and after which none has got anything.
use Prim.Native.Nat.{ℕ, zero, suc, min, ◌+◌, ◌-◌, ◌≤◌, ◌<◌}
use Rattle.std.specs.Prelude.{◌≡◌, refl, ◌⊎◌, Bool, true, false, eqb}
use Rattle.std.proofs.Math.Path.{ap}
use Rattle.std.proofs.Common.{sym, ◌∙◌, inl, inr, ⊎_elim, true≢false, le_refl, eq-eqb, ne_eqb}
use Rattle.std.proofs.Math.Bool.{not}
use Rattle.std.proofs.Math.Decide.{dec_lt, ℕ_discrete}
use native.Mathlib.Omega.{arith}
use Rattle.std.proofs.Math.Nat.{le_step}
use Rattle.setchain.specs.Sums.{sum_to, only_if}
use Rattle.setchain.proofs.Laws.Sums.{only_if_true, only_if_false, only_if_le, sum_to_eq, sum_to_le, sum_to_add, sum_to_point}

-- A strict total order of the numbers, as a test.
pub record Strict (before : ℕ → ℕ → Bool) : Type 0 where
  pub itself : (j : ℕ) → before j j ≡ false
  pub either : (k j : ℕ) → (k ≡ j → ⊥) → before k j ≡ not (before j k)
  pub onward : (i k j : ℕ) → before i k ≡ true → before k j ≡ true → before i j ≡ true

-- The widths of the states before j.
unfoldable pub ahead : ℕ → (ℕ → ℕ) → (ℕ → ℕ → Bool) → ℕ → ℕ
ahead n w before j = sum_to n (λ k. only_if (before k j) (w k))

-- A test is true or false.
pub tested : (b : Bool) → (b ≡ true) ⊎ (b ≡ false)
tested true = inl refl
tested false = inr refl

pub positive_count : (n : ℕ) (f : ℕ → ℕ) → 0 < sum_to n f → 0 < n
unfolding sum_to
positive_count zero f h = h
positive_count (suc n) f h = omega arith

-- Where the slack s runs out.
pub record Pivot (n : ℕ) (w : ℕ → ℕ) (before : ℕ → ℕ → Bool) (s : ℕ) : Type 0 where
  pub at : ℕ
  pub place : at < n
  pub least : ahead n w before at ≤ s
  pub most : s ≤ ahead n w before at + w at

module _ (w : ℕ → ℕ) (before : ℕ → ℕ → Bool) (strict : Strict before) where
  -- What stands before a also stands before b.
  ahead_le : (n a b : ℕ) → before a b ≡ true → ahead n w before a ≤ ahead n w before b
  unfolding ahead
  ahead_le n a b h = sum_to_le n (λ k. only_if (before k a) (w k)) (λ k. only_if (before k b) (w k)) (λ k l. at k (tested (before k a)))
    where
      at : (k : ℕ) → (before k a ≡ true) ⊎ (before k a ≡ false) → only_if (before k a) (w k) ≤ only_if (before k b) (w k)
      at k (inl e) = omega (arith, only_if_true (before k a) (w k) e, only_if_true (before k b) (w k) (strict.onward k a b e h))
      at k (inr e) = omega (arith, only_if_false (before k a) (w k) e)

  -- And so does a itself.
  ahead_step : (n a b : ℕ) → a < n → before a b ≡ true → ahead n w before a + w a ≤ ahead n w before b
  unfolding ahead
  ahead_step n a b l h =
      omega (
        arith,
        sum_to_add n (λ k. only_if (before k a) (w k)) (λ k. only_if (eqb k a) (w k)),
        sum_to_point n w a l,
        sum_to_le n (λ k. only_if (before k a) (w k) + only_if (eqb k a) (w k)) (λ k. only_if (before k b) (w k))
            (λ k m. at k (tested (before k a)) (ℕ_discrete k a)),
      )
    where
      at : (k : ℕ) → (before k a ≡ true) ⊎ (before k a ≡ false) → Dec (k ≡ a)
          → only_if (before k a) (w k) + only_if (eqb k a) (w k) ≤ only_if (before k b) (w k)
      at k (inl e) (yes i) = absurd (true≢false (sym e ∙ ap (λ x. before x a) i ∙ strict.itself a))
      at k (inl e) (no d) =
          omega (
            arith,
            only_if_true (before k a) (w k) e,
            only_if_false (eqb k a) (w k) (ne_eqb k a d),
            only_if_true (before k b) (w k) (strict.onward k a b e h),
          )
      at k (inr e) (yes i) =
          omega (
            arith,
            only_if_false (before k a) (w k) e,
            only_if_true (eqb k a) (w k) (eq-eqb k a i),
            only_if_true (before k b) (w k) (ap (λ x. before x b) i ∙ h),
          )
      at k (inr e) (no d) =
          omega (arith, only_if_false (before k a) (w k) e, only_if_false (eqb k a) (w k) (ne_eqb k a d))

  ahead_all : (n j : ℕ) → ahead n w before j ≤ sum_to n w
  unfolding ahead
  ahead_all n j = sum_to_le n (λ k. only_if (before k j) (w k)) w (λ k l. only_if_le (before k j) (w k))

  -- One state more, n, stands before j or does not.
  ahead_with : (n j : ℕ) → before n j ≡ true → ahead (suc n) w before j ≡ ahead n w before j + w n
  unfolding ahead sum_to
  ahead_with n j e = omega (arith, only_if_true (before n j) (w n) e)

  ahead_without : (n j : ℕ) → before n j ≡ false → ahead (suc n) w before j ≡ ahead n w before j
  unfolding ahead sum_to
  ahead_without n j e = omega (arith, only_if_false (before n j) (w n) e)

  -- A pivot among n states, with fewer parts to give, is one among n and a state more that comes after it, or before it.
  pivot_early : (n s : ℕ) → Pivot n w before s → s < ahead n w before n → Pivot (suc n) w before s
  pivot_early n s p h = ⊎_elim earlier later (tested (before n p.at))
    where
      earlier : before n p.at ≡ true → Pivot (suc n) w before s
      earlier e = absurd (omega (arith, ahead_le n n p.at e, p.least))

      later : before n p.at ≡ false → Pivot (suc n) w before s
      later e =
          record {
            at = p.at;
            place = le_step p.place;
            least = omega (arith, ahead_without n p.at e, p.least);
            most = omega (arith, ahead_without n p.at e, p.most);
          }

  pivot_late : (n s : ℕ) → Pivot n w before (s - w n) → ahead n w before n + w n < s → Pivot (suc n) w before s
  pivot_late n s p h = ⊎_elim earlier later (tested (before n p.at))
    where
      earlier : before n p.at ≡ true → Pivot (suc n) w before s
      earlier e =
          record {
            at = p.at;
            place = le_step p.place;
            least = omega (arith, ahead_with n p.at e, p.least);
            most = omega (arith, ahead_with n p.at e, p.most);
          }

      later : before n p.at ≡ false → Pivot (suc n) w before s
      later e =
          absurd
          (omega (
            arith,
            p.most,
            ahead_step n p.at n p.place (strict.either p.at n (λ i. omega (arith, p.place)) ∙ ap not e),
          ))

  -- With n states and one more, by where the parts run out.
  pivot_more : (n s : ℕ) → ((s' : ℕ) → s' ≤ sum_to n w → 0 < n → Pivot n w before s') → s ≤ sum_to n w + w n → Pivot (suc n) w before s
  pivot_more n s ih h = by (dec_lt s (ahead n w before n)) (dec_lt (ahead n w before n + w n) s)
    where
      by : Dec (s < ahead n w before n) → Dec (ahead n w before n + w n < s) → Pivot (suc n) w before s
      by (yes l) d =
          let all = ahead_all n n in
          pivot_early n s (ih s (omega arith) (positive_count n w (omega arith))) l
      by (no l) (yes g) = pivot_late n s (ih (s - w n) (omega arith) (positive_count n w (omega arith))) g
      by (no l) (no g) =
          record {
            at = n;
            place = le_refl (suc n);
            least = omega (arith, ahead_without n n (strict.itself n));
            most = omega (arith, ahead_without n n (strict.itself n));
          }

  pub pivot : (n s : ℕ) → s ≤ sum_to n w → 0 < n → Pivot n w before s
  unfolding sum_to
  pivot zero s h pos = absurd (omega arith)
  pivot (suc n) s h pos = pivot_more n s (pivot n) h

  -- The parts that state j gets.
  unfoldable pub given : ℕ → ℕ → ℕ → ℕ
  given n s j = min (w j) (s - ahead n w before j)

  module _ (n s : ℕ) (p : Pivot n w before s) where
    pub given_before : (j : ℕ) → j < n → before j p.at ≡ true → given n s j ≡ w j
    unfolding given
    given_before j l e = omega (arith, ahead_step n j p.at l e, p.least)

    pub given_after : (j : ℕ) → before p.at j ≡ true → given n s j ≡ 0
    unfolding given
    given_after j e = omega (arith, ahead_step n p.at j p.place e, p.most)

    given_pivot : given n s p.at ≡ s - ahead n w before p.at
    unfolding given
    given_pivot = omega (arith, p.most)

    -- All that there is to give is given.
    pub given_all : sum_to n (given n s) ≡ s
    unfolding ahead
    given_all =
        omega (
          arith,
          sum_to_eq n (given n s) (λ k. only_if (before k p.at) (w k) + only_if (eqb k p.at) (given n s k))
              (λ k l. at k l (tested (before k p.at)) (ℕ_discrete k p.at)),
          sum_to_add n (λ k. only_if (before k p.at) (w k)) (λ k. only_if (eqb k p.at) (given n s k)),
          sum_to_point n (given n s) p.at p.place,
          given_pivot,
          p.least,
        )
      where
        at : (k : ℕ) → k < n → (before k p.at ≡ true) ⊎ (before k p.at ≡ false) → Dec (k ≡ p.at)
            → given n s k ≡ only_if (before k p.at) (w k) + only_if (eqb k p.at) (given n s k)
        at k l (inl e) (yes i) = absurd (true≢false (sym e ∙ ap (λ x. before x p.at) i ∙ strict.itself p.at))
        at k l (inl e) (no d) =
            omega (
              arith,
              given_before k l e,
              only_if_true (before k p.at) (w k) e,
              only_if_false (eqb k p.at) (given n s k) (ne_eqb k p.at d),
            )
        at k l (inr e) (yes i) =
            omega (
              arith,
              only_if_false (before k p.at) (w k) e,
              only_if_true (eqb k p.at) (given n s k) (eq-eqb k p.at i),
            )
        at k l (inr e) (no d) =
            omega (
              arith,
              given_after k (strict.either p.at k (λ i. d (sym i)) ∙ ap not e),
              only_if_false (before k p.at) (w k) e,
              only_if_false (eqb k p.at) (given n s k) (ne_eqb k p.at d),
            )
