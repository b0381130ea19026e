-- The fill: from the lowers, the slack goes along the order until none is left.
-- Assumes nothing.
use Rattle.std.specs.Prelude.{ℕ, suc, ◌+◌, ◌-◌, ◌≤◌, ◌<◌, ◌≡◌, refl, ◌⊎◌, List, set}
use Rattle.std.proofs.Common.{◌∙◌, inl, inr, ⊎_elim, le_refl, arith}
use Rattle.std.proofs.Math.Decide.{ℕ_discrete, dec_lt}
use Rattle.std.proofs.Math.ListN.{length, length-set}
use Rattle.std.proofs.Math.Seq.{get_or-set_same, get_or-set_other}
use borrow.Author.Count.{below_none, below_more}
use Rattle.setchain.specs.Sums.{at, sum_to}
use Rattle.setchain.specs.Rows.{ONE}
use Rattle.setchain.proofs.Laws.Sums.{sum_to_eq}
use Rattle.setchain.proofs.Laws.Fill.{positive_count}
use Rattle.order.specs.Order.{Occurs}
use Rattle.step.specs.Fill.{FillPre, FillPost, FillSlackPre}
use Rattle.step.specs.Laws.Sums.{sum_to_set}

-- The fill at place k: classes passed are full, the others bare, and the row with what is left sums to ONE.
pub record Filling (lower upper order row : List ℕ) (slack k : ℕ) : Type 0 where
  pub inside : k < length lower
  pub size : length row ≡ length lower
  pub above : (j : ℕ) → j < length lower → at lower j ≤ at row j
  pub below : (j : ℕ) → j < length lower → at row j ≤ at upper j
  pub sums : sum_to (length lower) (at row) + slack ≡ ONE
  pub full : (p : ℕ) → p < k → at row (at order p - 1) ≡ at upper (at order p - 1)
  pub rest : (j : ℕ) → j < length lower → (at row j ≡ at lower j) ⊎ Occurs order k j

later : {order : List ℕ} {k j : ℕ} → Occurs order k j → Occurs order (k + 1) j
later s = record { place = s.place; early = omega (arith, s.early); held = s.held }

-- What the fill asks of its row and its slack, once the row holds the lowers.
pub fill_takes_slack : {lower upper order row copied : List ℕ} {parts : ℕ} → FillPre lower upper order row → copied ≡ lower
    → sum_to (length lower) (at lower) + parts ≡ ONE → FillSlackPre copied upper order parts
fill_takes_slack h same whole = rw same (record { uppers = h.uppers; permutation = h.permutation; sound = h.sound; whole = whole })

module _ {lower upper order : List ℕ} {parts : ℕ} (able : FillSlackPre lower upper order parts) where
  pub filling_none : Filling lower upper order lower parts 0
  filling_none =
      record {
        inside = positive_count (length lower) (at upper) (omega (arith, able.sound.uppers));
        size = refl;
        above = λ j l. le_refl (at lower j);
        below = able.sound.ordered;
        sums = able.whole;
        full = below_none _;
        rest = λ j l. inl refl;
      }

  -- The class at place k, of state j, gets `given` parts.
  module _ {row : List ℕ} {slack k : ℕ} (w : Filling lower upper order row slack k) {j : ℕ} (here : j ≡ at order k - 1) where
    -- It is a state, whose entry lies between its ends.
    state_inside : j < length lower
    state_inside = omega (arith, able.permutation.within k w.inside)

    pub shift_inside : (j < length lower) × (at row j ≤ at upper j) × (at upper j ≤ ONE)
    shift_inside = omega (arith, state_inside, w.below j state_inside, able.sound.capped j state_inside)

    held : at order k ≡ suc j
    held = omega (arith, able.permutation.within k w.inside)

    module _ (given : ℕ) (fits : given ≤ at upper j - at row j) where
      row' : List ℕ
      row' = set row j (at row j + given)

      same : at row' j ≡ at row j + given
      unfolding row'
      same = get_or-set_same row j (at row j + given) 0 (omega (arith, w.size, state_inside))

      apart : (i : ℕ) → (i ≡ j → ⊥) → at row' i ≡ at row i
      unfolding row'
      apart i ne = get_or-set_other row j i (at row j + given) 0 ne

      added_size : length row' ≡ length lower
      unfolding row'
      added_size = length-set row j (at row j + given) ∙ w.size

      added_sums : given ≤ slack → sum_to (length lower) (at row') + (slack - given) ≡ ONE
      unfolding row'
      added_sums h = omega (arith, sum_to_set (length lower) row j (at row j + given) state_inside w.size, w.sums)

      added_between : (i : ℕ) → i < length lower → (at lower i ≤ at row' i) × (at row' i ≤ at upper i)
      added_between i l = by (ℕ_discrete i j)
        where
          by : Dec (i ≡ j) → (at lower i ≤ at row' i) × (at row' i ≤ at upper i)
          by (yes e) = rw e (omega (arith, same, w.above j state_inside, w.below j state_inside))
          by (no ne) = omega (arith, apart i ne, w.above i l, w.below i l)

      added_full : (i : ℕ) → at row i ≡ at upper i → at row' i ≡ at upper i
      added_full i f = by (ℕ_discrete i j)
        where
          by : Dec (i ≡ j) → at row' i ≡ at upper i
          by (yes e) = let g : at row j ≡ at upper j = rw e at f in rw e (omega (arith, same))
          by (no ne) = apart i ne ∙ f

      added_rest : (i : ℕ) → i < length lower → (at row' i ≡ at lower i) ⊎ Occurs order (k + 1) i
      added_rest i l = by (ℕ_discrete i j)
        where
          by : Dec (i ≡ j) → (at row' i ≡ at lower i) ⊎ Occurs order (k + 1) i
          by (yes e) = inr (record { place = k; early = omega arith; held = rw e held })
          by (no ne) = ⊎_elim (λ b. inl (apart i ne ∙ b)) (λ s. inr (later s)) (w.rest i l)

    -- The last of the slack.
    pub filling_last : slack ≤ at upper j - at row j → FillPost lower upper order (set row j (at row j + slack)) k
    unfolding row'
    filling_last h =
        record {
          size = added_size slack h;
          parts =
              record {
                positive = omega arith;
                sums = omega (arith, added_sums slack h (le_refl slack));
                above = λ i l. omega (arith, added_between slack h i l);
                below = λ i l. omega (arith, added_between slack h i l);
              };
          stops = w.inside;
          full = λ p l. added_full slack h (at order p - 1) (w.full p l);
          rest = added_rest slack h;
        }

    -- A class that is filled, with parts left over.
    module _ (more : at upper j - at row j < slack) where
      capacity : ℕ
      capacity = at upper j - at row j

      all_full : (p : ℕ) → p < k + 1 → at (set row j (at row j + capacity)) (at order p - 1) ≡ at upper (at order p - 1)
      unfolding row' capacity
      all_full =
          below_more _ k
          (λ p l. added_full capacity (le_refl capacity) (at order p - 1) (w.full p l))
          (rw (← here) (omega (arith, same capacity (le_refl capacity), w.below j state_inside)))

      further : k + 1 < length lower
      unfolding row' capacity
      further = by (dec_lt (k + 1) (length lower))
        where
          each : length lower ≤ k + 1 → (i : ℕ) → i < length lower → at (set row j (at row j + capacity)) i ≡ at upper i
          each z i l =
              let s : Occurs order (length lower) i = able.permutation.onto i l in
              let e : at order s.place - 1 ≡ i = omega (arith, s.held) in
              rw e at (all_full s.place (omega (arith, s.early)))

          by : Dec (k + 1 < length lower) → k + 1 < length lower
          by (yes l) = l
          by (no z) =
              absurd
              (omega (
                arith,
                sum_to_eq (length lower) (at (set row j (at row j + capacity))) (at upper) (each (omega arith)),
                added_sums capacity (le_refl capacity) (omega arith),
                able.sound.uppers,
              ))

      pub filling_more : Filling lower upper order (set row j (at row j + (at upper j - at row j))) (slack - (at upper j - at row j)) (k + 1)
      unfolding row' capacity
      filling_more =
          record {
            inside = further;
            size = added_size capacity (le_refl capacity);
            above = λ i l. (added_between capacity (le_refl capacity) i l).0;
            below = λ i l. (added_between capacity (le_refl capacity) i l).1;
            sums = added_sums capacity (le_refl capacity) (omega arith);
            full = all_full;
            rest = added_rest capacity (le_refl capacity);
          }
