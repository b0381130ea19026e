-- What the promises and the step's words allow and what they forbid, on small numbers and on Example A's interval rows (document 01, "One year" and "Years").
use Rattle.std.specs.Prelude.{ℕ, zero, suc, ◌+◌, ◌*◌, ◌≤◌, ◌<◌, ◌≡◌, refl, Bool, true, false, List, [], ◌∷◌}
use Rattle.std.proofs.Common.{◌∙◌, arith, zero-add}
use Rattle.setchain.specs.Sums.{at, sum_to, only_if}
use Rattle.setchain.specs.Fractions.{whole, sum_fractions}
use Rattle.setchain.specs.Rows.{ONE, IntervalRow, Inside, SoundRow, SoundChain}
use Rattle.setchain.specs.Picks.{Matrix, InsideEach, none, also, PicksFor, product, exact_share, exact_mean, exact_total}
use Rattle.setchain.specs.Promise.{share_in_parts, NoFurther, Nearer, cent_and_tenths}
use Rattle.setchain.specs.Step.{capacity_before, fill_row, step_figure, Parts, Reaches}
use Rattle.setchain.specs.Years.{years_figure, nothing, low_share, high_share, low_mean, high_mean}
use Rattle.setchain.proofs.Laws.Sums.{below_two}
use Rattle.setchain.proofs.Laws.Agreeing.{agree_refl, step_agrees}
use Rattle.setchain.proofs.Laws.Obeys.{years_obey}
use Rattle.setchain.proofs.Theorems.{share_promise, mean_promise, exact_proper}
use Rattle.setchain.proofs.Kept.{interval_no_further, interval_nearer}
use Rattle.setchain.proofs.Examples.{chain_a, premium_a, pair, first_year, second_year, picks_a, leaving_chain, ten_twenty}
use Rattle.setchain.proofs.DistanceExamples.{fraction, HasValue}

-- A year in which class 2 has a row outside: two thirds is less than its lower entry to class 1.
abbrev outside_year : Matrix
outside_year i = elim i [ zero ↦ pair 1 1 0 | suc k ↦ pair 3 2 1 ]

-- A row over two states, entry by entry.
module _ (r : IntervalRow) (m a b : ℕ) where
  inside_two : 1 ≤ m → a + b ≡ m → r.lower 0 * m ≤ a * ONE → a * ONE ≤ r.upper 0 * m → r.lower 1 * m ≤ b * ONE → b * ONE ≤ r.upper 1 * m
      → Inside 2 r (pair m a b)
  unfolding sum_to
  inside_two positive sums above₀ below₀ above₁ below₁ =
      record {
        positive = omega arith;
        sums = omega arith;
        above = below_two (λ j. r.lower j * m ≤ at (a ∷ b ∷ []) j * ONE) above₀ above₁;
        below = below_two (λ j. at (a ∷ b ∷ []) j * ONE ≤ r.upper j * m) below₀ below₁;
      }

-- What lies inside: rows over 1, 5, 20 and 7, also where an entry is at an end; and what does not: a row that does not sum to M, entries below a lower and above an upper end, and no row over 0.
pub record InsideExamples : Type 0 where
  pub over_one : Inside 2 (chain_a.row 0) (pair 1 1 0)
  pub over_five : Inside 2 (chain_a.row 1) (pair 5 4 1)
  pub over_twenty : Inside 2 (chain_a.row 0) (pair 20 19 1)
  pub over_seven : Inside 2 (chain_a.row 1) (pair 7 6 1)
  pub short_sum : Inside 2 (chain_a.row 0) (pair 20 19 0) → ⊥
  pub too_low : Inside 2 (chain_a.row 1) (pair 3 2 1) → ⊥
  pub too_high : Inside 2 (chain_a.row 1) (pair 1 1 0) → ⊥
  pub over_none : Inside 2 (chain_a.row 0) (pair 0 0 0) → ⊥

pub inside_examples : InsideExamples
unfolding sum_to
inside_examples =
    record {
      over_one = inside_two (chain_a.row 0) 1 1 0 (omega arith) refl (omega arith) (omega arith) (omega arith) (omega arith);
      over_five = inside_two (chain_a.row 1) 5 4 1 (omega arith) refl (omega arith) (omega arith) (omega arith) (omega arith);
      over_twenty = inside_two (chain_a.row 0) 20 19 1 (omega arith) refl (omega arith) (omega arith) (omega arith) (omega arith);
      over_seven = inside_two (chain_a.row 1) 7 6 1 (omega arith) refl (omega arith) (omega arith) (omega arith) (omega arith);
      short_sum = λ h. omega (arith, h.sums);
      too_low = λ h. omega (arith, h.above 0 (omega arith));
      too_high = λ h. omega (arith, h.below 0 (omega arith));
      over_none = λ h. omega (arith, h.positive);
    }

-- Class 2's row, with a payoff of 30 in class 1 and 10 in class 2.
abbrev ReachesA : Bool → (first second : ℕ) → ℕ → Type 0
ReachesA high first second figure = Reaches high 2 (chain_a.row 1) (at (30 ∷ 10 ∷ [])) (at (first ∷ second ∷ [])) figure

-- "a row inside the interval that reaches its unrounded figure": the least and the greatest row do; another row inside, another figure and a row outside do not.
pub record ReachesExamples : Type 0 where
  pub low : ReachesA false 800000000 200000000 26
  pub high : ReachesA true 900000000 100000000 28
  pub greatest_for_low : ReachesA false 900000000 100000000 28 → ⊥
  pub least_for_high : ReachesA true 800000000 200000000 26 → ⊥
  pub other_figure : ReachesA false 800000000 200000000 27 → ⊥
  pub outside : ReachesA false 700000000 300000000 24 → ⊥

pub reaches_examples : ReachesExamples
unfolding sum_to
reaches_examples =
    record {
      low = record { inside = least; extreme = λ q inside. omega (arith, inside.sums, inside.above 0 (omega arith)); rounded = refl };
      high = record { inside = greatest; extreme = λ q inside. omega (arith, inside.sums, inside.below 0 (omega arith)); rounded = refl };
      greatest_for_low = λ h. omega (arith, h.extreme (at (800000000 ∷ 200000000 ∷ [])) least);
      least_for_high = λ h. omega (arith, h.extreme (at (900000000 ∷ 100000000 ∷ [])) greatest);
      other_figure = λ h. omega (arith, h.rounded);
      outside = λ h. omega (arith, h.inside.above 0 (omega arith));
    }
  where
    least : Parts 2 (chain_a.row 1) (at (800000000 ∷ 200000000 ∷ []))
    least = inside_two (chain_a.row 1) ONE 800000000 200000000 (omega arith) refl (omega arith) (omega arith) (omega arith) (omega arith)

    greatest : Parts 2 (chain_a.row 1) (at (900000000 ∷ 100000000 ∷ []))
    greatest = inside_two (chain_a.row 1) ONE 900000000 100000000 (omega arith) refl (omega arith) (omega arith) (omega arith) (omega arith)

-- The year that has the row outside is no pick.
no_outside : {ps : List Matrix} → InsideEach chain_a (outside_year ∷ ps) → ⊥
no_outside (also inside rest) = inside_examples.too_low (inside 1 (omega arith))

-- "Picks for t years are a list of t matrices": two matrices are picks for 2 years alone, none for 0 years, and every row of every year has to lie inside.
pub record PicksExamples : Type 0 where
  pub two : PicksFor chain_a 2 picks_a
  pub not_one : PicksFor chain_a 1 picks_a → ⊥
  pub not_three : PicksFor chain_a 3 picks_a → ⊥
  pub empty : PicksFor chain_a 0 []
  pub outside_first : PicksFor chain_a 2 (outside_year ∷ second_year ∷ []) → ⊥
  pub outside_last : PicksFor chain_a 2 (first_year ∷ outside_year ∷ []) → ⊥

pub picks_examples : PicksExamples
picks_examples =
    record {
      two = record {
        years = refl;
        inside =
            also (below_two (λ i. Inside 2 (chain_a.row i) (first_year i)) inside_examples.over_one inside_examples.over_five)
            (also (below_two (λ i. Inside 2 (chain_a.row i) (second_year i)) inside_examples.over_twenty inside_examples.over_seven) none);
      };
      not_one = λ h. omega (arith, h.years);
      not_three = λ h. omega (arith, h.years);
      empty = record { years = refl; inside = none };
      outside_first = λ h. no_outside h.inside;
      outside_last = λ h. no_last h.inside;
    }
  where
    no_last : InsideEach chain_a (first_year ∷ outside_year ∷ []) → ⊥
    no_last (also inside rest) = no_outside rest

-- The exact figures that these picks bring from class 2: four fifths and one fifth after a year, then 163 and 12 of 175; the mean 72,400 / 7 cents, and the total 15,000 + 11,000 cents.
pub record ExactA : Type 0 where
  pub share1 : HasValue (exact_share 2 0 picks_a 1) 163 175
  pub share2 : HasValue (exact_share 2 1 picks_a 1) 12 175
  pub year_one : HasValue (exact_share 2 0 (first_year ∷ []) 1) 4 5
  pub year_none : HasValue (exact_share 2 1 [] 1) 1 1
  pub year_none_elsewhere : HasValue (exact_share 2 0 [] 1) 0 1
  pub parts : HasValue (share_in_parts 2 0 (first_year ∷ []) 1) 800000000 1
  pub mean : HasValue (exact_mean 2 premium_a picks_a 1) 72400 7
  pub total : HasValue (exact_total 2 premium_a picks_a 1) 26000 1

pub exact_a : ExactA
unfolding exact_total exact_mean product sum_fractions only_if
exact_a =
    record {
      share1 = record { proper = omega arith; same = refl };
      share2 = record { proper = omega arith; same = refl };
      year_one = record { proper = omega arith; same = refl };
      year_none = record { proper = omega arith; same = refl };
      year_none_elsewhere = record { proper = omega arith; same = refl };
      parts = record { proper = omega arith; same = refl };
      mean = record { proper = omega arith; same = refl };
      total = record { proper = omega arith; same = refl };
    }

-- A year in which a tenth of state 0 leaves, and state 1 is not left.
abbrev leaving_year : Matrix
leaving_year i = elim i [ zero ↦ pair 10 9 1 | suc k ↦ pair 1 0 1 ]

abbrev three_years : List Matrix
three_years = leaving_year ∷ leaving_year ∷ leaving_year ∷ []

-- The exact mean of year 3, and the exact total of 4 premiums of 10 and 20 cents: near what is answered, and too far from figures carried in cents.
pub record ExactMoney : Type 0 where
  pub mean : HasValue (exact_mean 2 ten_twenty three_years 0) 1271 100
  pub mean_near : Nearer (cent_and_tenths 3) 12 (fraction 1271 100)
  pub mean_by_cents : Nearer (cent_and_tenths 3) 11 (fraction 1271 100) → ⊥
  pub total : HasValue (exact_total 2 ten_twenty (leaving_year ∷ three_years) 0) 4561 100
  pub total_near : Nearer (cent_and_tenths 4) 45 (fraction 4561 100)
  pub total_by_cents : Nearer (cent_and_tenths 4) 44 (fraction 4561 100) → ⊥

pub exact_money : ExactMoney
unfolding exact_total exact_mean product sum_fractions only_if
exact_money =
    record {
      mean = record { proper = omega arith; same = refl };
      mean_near = record { under = omega arith; over = omega arith };
      mean_by_cents = λ h. omega (arith, h.under);
      total = record { proper = omega arith; same = refl };
      total_near = record { under = omega arith; over = omega arith };
      total_by_cents = λ h. omega (arith, h.under);
    }

-- Carried in cents, the low mean would be 11 in every year from 1 on.
cents_step : (i : ℕ) → i < 2
    → (years_figure false leaving_chain ten_twenty nothing 1 i ≡ at (11 ∷ 20 ∷ []) i) × (step_figure false 2 (leaving_chain.row i) (at (11 ∷ 20 ∷ [])) ≡ at (11 ∷ 20 ∷ []) i)
unfolding years_figure step_figure fill_row capacity_before sum_to only_if
cents_step = below_two _ (refl, refl) (refl, refl)

pub cents_stay : (t i : ℕ) → i < 2 → years_figure false leaving_chain ten_twenty nothing (suc t) i ≡ at (11 ∷ 20 ∷ []) i
cents_stay zero i l = (cents_step i l).0
cents_stay (suc t) i l =
    (years_obey false leaving_chain ten_twenty nothing).more (suc t) i l
    ∙ zero-add (step_figure false 2 (leaving_chain.row i) (years_figure false leaving_chain ten_twenty nothing (suc t)))
    ∙ step_agrees (agree_refl 2 (leaving_chain.row i)) (cents_stay t) false
    ∙ (cents_step i l).1

sound_a : SoundChain chain_a
unfolding sum_to
sound_a = below_two (λ i. SoundRow 2 (chain_a.row i)) first second
  where
    first : SoundRow 2 (chain_a.row 0)
    first =
        record {
          ordered = below_two (λ j. (chain_a.row 0).lower j ≤ (chain_a.row 0).upper j) (omega arith) (omega arith);
          capped = below_two (λ j. (chain_a.row 0).upper j ≤ ONE) (omega arith) (omega arith);
          lowers = omega arith;
          uppers = omega arith;
        }

    second : SoundRow 2 (chain_a.row 1)
    second =
        record {
          ordered = below_two (λ j. (chain_a.row 1).lower j ≤ (chain_a.row 1).upper j) (omega arith) (omega arith);
          capped = below_two (λ j. (chain_a.row 1).upper j ≤ ONE) (omega arith) (omega arith);
          lowers = omega arith;
          uppers = omega arith;
        }

-- The figures of year 1 from class 2.
year_one_lem : (low_share chain_a 0 1 1 ≡ 800000000) × (high_share chain_a 0 1 1 ≡ 900000000) × (low_mean chain_a premium_a 1 1 ≡ 10500) × (high_mean chain_a premium_a 1 1 ≡ 11000)
unfolding years_figure step_figure fill_row capacity_before sum_to only_if
year_one_lem = (refl, refl, refl, refl)

-- "always 0 and ONE for a share" is shut out by closeness: no picks for a year bring the share of class 1 within 1 of 0, or of ONE;
-- and none bring the mean nearer than a cent and a tenth to the lowest premium, or to the highest.
pub record WorthlessA (ps : List Matrix) : Type 0 where
  pub zero : NoFurther (whole 1) 0 (share_in_parts 2 0 ps 1) → ⊥
  pub one : NoFurther (whole 1) ONE (share_in_parts 2 0 ps 1) → ⊥
  pub lowest : Nearer (cent_and_tenths 1) 10000 (exact_mean 2 premium_a ps 1) → ⊥
  pub highest : Nearer (cent_and_tenths 1) 15000 (exact_mean 2 premium_a ps 1) → ⊥

pub worthless_a : (ps : List Matrix) → PicksFor chain_a 1 ps → WorthlessA ps
worthless_a ps picks =
    let proper = exact_proper chain_a sound_a premium_a 0 1 ps picks 1 (omega arith) in
    let share = (share_promise chain_a sound_a 0 1).contains ps picks 1 (omega arith) in
    let mean = (mean_promise chain_a sound_a premium_a 1).contains ps picks 1 (omega arith) in
    record {
      zero = λ near. omega (arith, (interval_no_further (whole 1) proper.0 share near).not_below, year_one_lem.0);
      one = λ near. omega (arith, (interval_no_further (whole 1) proper.0 share near).not_above, year_one_lem.1);
      lowest = λ near. omega (arith, (interval_nearer (cent_and_tenths 1) proper.1 mean near).not_below, year_one_lem.2);
      highest = λ near. omega (arith, (interval_nearer (cent_and_tenths 1) proper.1 mean near).not_above, year_one_lem.3);
    }
