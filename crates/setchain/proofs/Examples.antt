-- Worked figures, computed: document 01's two examples of the step, Example A's figures on its interval rows, exact figures of small picks, pooled figures, tight rows, and counts of years that mix.
use Rattle.std.specs.Prelude.{ℕ, zero, suc, ◌*◌, ◌≡◌, refl, Bool, true, false, ◌&&◌, ◌||◌, List, [], ◌∷◌, eqb, ltb, get_or}
use Rattle.setchain.specs.Sums.{at, sum_to, only_if}
use Rattle.setchain.specs.Tests.{any_below, all_below, first_from}
use Rattle.setchain.specs.Fractions.{◌≈◌, sum_fractions}
use Rattle.setchain.specs.Rows.{ONE, IntervalRow, Row, SetChain, lists_row}
use Rattle.setchain.specs.Cells.{Cells, row_of}
use Rattle.setchain.specs.Rounding.{rounded}
use Rattle.setchain.specs.Step.{capacity_before, fill_row, step_figure, low_step, high_step}
use Rattle.setchain.specs.Years.{years_figure, nothing, low_share, high_share, mean_tenths, low_mean, high_mean, total_tenths, low_total, high_total}
use Rattle.setchain.specs.Pooled.{pooled_figure, exact_pooled}
use Rattle.setchain.specs.Tight.{tight_row, tight_chain}
use Rattle.setchain.specs.Mixing.{edges_of, path, mixes}
use Rattle.setchain.specs.Picks.{Matrix, product, exact_mean, exact_total}

-- "Row lower .1 .2 .3, upper .5 .6 .4 of ONE, payoff 30 10 20".
abbrev pub uppers : ℕ → ℕ
uppers = at (500000000 ∷ 600000000 ∷ 400000000 ∷ [])

abbrev pub example_row : IntervalRow
example_row = record { lower = at (100000000 ∷ 200000000 ∷ 300000000 ∷ []); upper = uppers }

-- "Lower all 0".
abbrev pub bare_row : IntervalRow
bare_row = record { lower = at (0 ∷ 0 ∷ 0 ∷ []); upper = uppers }

abbrev pub payoff : ℕ → ℕ
payoff = at (30 ∷ 10 ∷ 20 ∷ [])

pub record StepExamples : Type 0 where
  pub low : low_step 3 example_row payoff ≡ 15
  pub high : high_step 3 example_row payoff ≡ 23
  pub bare_low : low_step 3 bare_row payoff ≡ 14
  pub bare_high : high_step 3 bare_row payoff ≡ 24

pub step_examples : StepExamples
unfolding step_figure fill_row capacity_before sum_to only_if
step_examples = record { low = refl; high = refl; bare_low = refl; bare_high = refl }

-- Rounded down and up: one part more than two units, and two units; tenths; and no unit, which gives 0.
pub record RoundedExamples : Type 0 where
  pub parts : (rounded false ONE 2000000001 ≡ 2) × (rounded true ONE 2000000001 ≡ 3) × (rounded false ONE 2000000000 ≡ 2) × (rounded true ONE 2000000000 ≡ 2)
  pub tenths : (rounded false 10 29 ≡ 2) × (rounded true 10 21 ≡ 3) × (rounded false 10 30 ≡ 3) × (rounded true 10 30 ≡ 3)
  pub wholes : (rounded false 1 7 ≡ 7) × (rounded true 1 7 ≡ 7)
  pub none : (rounded false 0 7 ≡ 0) × (rounded true 0 7 ≡ 0)

pub rounded_examples : RoundedExamples
rounded_examples = record { parts = (refl, refl, refl, refl); tenths = (refl, refl, refl, refl); wholes = (refl, refl); none = (refl, refl) }

-- Two states pooled, with two chambers and one: 10 and 12 weigh 32 thirds; the same in tenths, over 10 × 3; one chamber alone; counts of a third state left out; no chamber, which gives 0.
pub record PooledFigures : Type 0 where
  pub wholes : (pooled_figure false 1 2 (at (2 ∷ 1 ∷ 9 ∷ [])) (at (10 ∷ 12 ∷ [])) ≡ 10) × (pooled_figure true 1 2 (at (2 ∷ 1 ∷ 9 ∷ [])) (at (10 ∷ 12 ∷ [])) ≡ 11)
  pub tenths : (pooled_figure false 10 2 (at (2 ∷ 1 ∷ [])) (at (19 ∷ 21 ∷ [])) ≡ 1) × (pooled_figure true 10 2 (at (2 ∷ 1 ∷ [])) (at (19 ∷ 21 ∷ [])) ≡ 2)
  pub once : (pooled_figure false 10 2 (at (1 ∷ 1 ∷ [])) (at (19 ∷ 21 ∷ [])) ≡ 2) × (pooled_figure true 10 2 (at (1 ∷ 1 ∷ [])) (at (19 ∷ 21 ∷ [])) ≡ 2)
  pub alone : (pooled_figure false 1 2 (at (0 ∷ 1 ∷ [])) (at (10 ∷ 12 ∷ [])) ≡ 12) × (pooled_figure true 1 2 (at (0 ∷ 1 ∷ [])) (at (10 ∷ 12 ∷ [])) ≡ 12)
  pub none : (pooled_figure false 1 2 (at []) (at (10 ∷ 12 ∷ [])) ≡ 0) × (pooled_figure true 1 2 (at []) (at (10 ∷ 12 ∷ [])) ≡ 0)
  -- The exact mean of a half and two thirds: two chambers and one make 5/9.
  pub exact : exact_pooled 2 (at (2 ∷ 1 ∷ 9 ∷ [])) (λ i. record { num = suc i; den = suc (suc i) }) ≈ record { num = 5; den = 9 }

pub pooled_figures_lem : PooledFigures
unfolding sum_to sum_fractions
pooled_figures_lem = record { wholes = (refl, refl); tenths = (refl, refl); once = (refl, refl); alone = (refl, refl); none = (refl, refl); exact = refl }

-- Example A's class 1: the first two columns lead to class 1 and are summed, also the upper ends, which are held to ONE; the third leads to class 2.
abbrev cells_a : Cells
cells_a =
    record {
      count = 3;
      target = at (0 ∷ 0 ∷ 1 ∷ []);
      lower = at (800000000 ∷ 100000000 ∷ 0 ∷ []);
      upper = at (900000000 ∷ 200000000 ∷ 50000000 ∷ []);
    }

pub record MergedColumns : Type 0 where
  pub lower : ((row_of cells_a).lower 0 ≡ 900000000) × ((row_of cells_a).lower 1 ≡ 0)
  pub upper : ((row_of cells_a).upper 0 ≡ 1000000000) × ((row_of cells_a).upper 1 ≡ 50000000)
  pub none : ((row_of cells_a).lower 2 ≡ 0) × ((row_of cells_a).upper 2 ≡ 0)

pub merged_columns : MergedColumns
unfolding sum_to only_if
merged_columns = record { lower = (refl, refl); upper = (refl, refl); none = (refl, refl) }

-- From state 0: half stays in the first year, and all return to state 0 in the second.
abbrev spread : Matrix
spread i = record { over = 2; entry = at (1 ∷ 1 ∷ []) }

abbrev gathering : Matrix
gathering i = record { over = 1; entry = at (1 ∷ 0 ∷ []) }

-- First year leftmost: spread, then gathered, leaves all in state 0; gathered, then spread, leaves half.
pub record OrderExample : Type 0 where
  pub gathered : (product 2 (spread ∷ gathering ∷ []) 0 0).num ≡ (product 2 (spread ∷ gathering ∷ []) 0 0).den
  pub spread_out : (product 2 (gathering ∷ spread ∷ []) 0 0).num * 2 ≡ (product 2 (gathering ∷ spread ∷ []) 0 0).den

pub order_example : OrderExample
unfolding product sum_fractions only_if
order_example = record { gathered = refl; spread_out = refl }

-- The total of two premiums 10 and 20 over the same picks: 10 in year 0 and 15 in year 1.
pub record TotalExample : Type 0 where
  pub total : (exact_total 2 (at (10 ∷ 20 ∷ [])) (spread ∷ gathering ∷ []) 0).num ≡ 25 * (exact_total 2 (at (10 ∷ 20 ∷ [])) (spread ∷ gathering ∷ []) 0).den

pub total_example : TotalExample
unfolding exact_total exact_mean product sum_fractions only_if
total_example = record { total = refl }

-- Example A's interval rows (document 01, "Sheet program and examples") and premiums.
abbrev pub chain_a : SetChain
chain_a =
    record {
      states = 2;
      row = λ i.
          elim i [
            | zero ↦ record { lower = at (900000000 ∷ 0 ∷ []); upper = at (1000000000 ∷ 50000000 ∷ []) }
            | suc k ↦ record { lower = at (800000000 ∷ 100000000 ∷ []); upper = at (900000000 ∷ 250000000 ∷ []) }
          ];
    }

abbrev pub premium_a : ℕ → ℕ
premium_a = at (10000 ∷ 15000 ∷ [])

-- Its figures from class 2, which is state 1.
pub record FiguresA : Type 0 where
  pub share1 : (low_share chain_a 0 2 1 ≡ 920000000) × (high_share chain_a 0 2 1 ≡ 990000000)
  pub share2 : (low_share chain_a 1 2 1 ≡ 10000000) × (high_share chain_a 1 2 1 ≡ 80000000)
  pub mean : (low_mean chain_a premium_a 2 1 ≡ 10050) × (high_mean chain_a premium_a 2 1 ≡ 10400)
  pub total : (low_total chain_a premium_a 2 1 ≡ 25500) × (high_total chain_a premium_a 2 1 ≡ 26000)

pub figures_a : FiguresA
unfolding years_figure step_figure fill_row capacity_before sum_to only_if
figures_a = record { share1 = (refl, refl); share2 = (refl, refl); mean = (refl, refl); total = (refl, refl) }

-- Two whole numbers over M.
abbrev pub pair : ℕ → ℕ → ℕ → Row
pair m first second = record { over = m; entry = at (first ∷ second ∷ []) }

-- Picks inside Example A's interval rows. Class 1 in year 1 and 2: over 1, and over 20, where both entries are at an end of their intervals; class 2: over 5 and over 7.
abbrev pub first_year : Matrix
first_year i = elim i [ zero ↦ pair 1 1 0 | suc k ↦ pair 5 4 1 ]

abbrev pub second_year : Matrix
second_year i = elim i [ zero ↦ pair 20 19 1 | suc k ↦ pair 7 6 1 ]

abbrev pub picks_a : List Matrix
picks_a = first_year ∷ second_year ∷ []

-- A tenth of state 0 leaves for state 1 each year, and state 1 is never left: both rows are fixed, their lower entries being their upper ones.
abbrev pub leaving_chain : SetChain
leaving_chain =
    record {
      states = 2;
      row = λ i.
          elim i [
            | zero ↦ lists_row (900000000 ∷ 100000000 ∷ []) (900000000 ∷ 100000000 ∷ [])
            | suc k ↦ lists_row (0 ∷ 1000000000 ∷ []) (0 ∷ 1000000000 ∷ [])
          ];
    }

-- Premiums of 10 and 20 cents.
abbrev pub ten_twenty : ℕ → ℕ
ten_twenty = at (10 ∷ 20 ∷ [])

-- Money in tenths, and in cents (document 02, item 6): from state 0 the exact mean of year 3 is 12.71, and the exact total of 4 premiums 45.61.
-- Carried in cents, the low mean would be 11, as in every year from 1 on (`cents_stay` of PromiseExamples), and the low total 44.
pub record MoneyExamples : Type 0 where
  pub mean_in_tenths : (mean_tenths false leaving_chain ten_twenty 3 0 ≡ 127) × (mean_tenths true leaving_chain ten_twenty 3 0 ≡ 128)
  pub mean : (low_mean leaving_chain ten_twenty 3 0 ≡ 12) × (high_mean leaving_chain ten_twenty 3 0 ≡ 13)
  pub mean_by_cents : years_figure false leaving_chain ten_twenty nothing 3 0 ≡ 11
  pub total_in_tenths : (total_tenths false leaving_chain ten_twenty 4 0 ≡ 456) × (total_tenths true leaving_chain ten_twenty 4 0 ≡ 457)
  pub total : (low_total leaving_chain ten_twenty 4 0 ≡ 45) × (high_total leaving_chain ten_twenty 4 0 ≡ 46)
  pub total_by_cents : years_figure false leaving_chain nothing ten_twenty 4 0 ≡ 44

pub money_examples : MoneyExamples
unfolding years_figure step_figure fill_row capacity_before sum_to only_if
money_examples =
    record { mean_in_tenths = (refl, refl); mean = (refl, refl); mean_by_cents = refl; total_in_tenths = (refl, refl); total = (refl, refl); total_by_cents = refl }

-- A row over two states with these ends.
abbrev pub row_of_two : (lower lower' upper upper' : ℕ) → IntervalRow
row_of_two lower lower' upper upper' = record { lower = at (lower ∷ lower' ∷ []); upper = at (upper ∷ upper' ∷ []) }

-- One state, with a band from 0 to ONE.
abbrev one_state : IntervalRow
one_state = record { lower = at (0 ∷ []); upper = at (1000000000 ∷ []) }

pub record TightRows : Type 0 where
  -- "Example A's class 1 row becomes lower 950000000, 0 and upper 1000000000, 50000000".
  pub lowers_a1 : (((tight_chain chain_a).row 0).lower 0 ≡ 950000000) × (((tight_chain chain_a).row 0).lower 1 ≡ 0)
  pub uppers_a1 : (((tight_chain chain_a).row 0).upper 0 ≡ 1000000000) × (((tight_chain chain_a).row 0).upper 1 ≡ 50000000)
  -- "in its class 2 row only the last upper entry changes, to 200000000".
  pub lowers_a2 : (((tight_chain chain_a).row 1).lower 0 ≡ 800000000) × (((tight_chain chain_a).row 1).lower 1 ≡ 100000000)
  pub uppers_a2 : (((tight_chain chain_a).row 1).upper 0 ≡ 900000000) × (((tight_chain chain_a).row 1).upper 1 ≡ 200000000)
  -- Lower ends that rise from 0, since the other state takes .7 or .6 at most.
  pub rising : ((tight_row 2 (row_of_two 0 0 600000000 700000000)).lower 0 ≡ 300000000) × ((tight_row 2 (row_of_two 0 0 600000000 700000000)).lower 1 ≡ 400000000)
  pub rising_uppers : ((tight_row 2 (row_of_two 0 0 600000000 700000000)).upper 0 ≡ 600000000) × ((tight_row 2 (row_of_two 0 0 600000000 700000000)).upper 1 ≡ 700000000)
  -- Of a row that has entries for three states, over two: entries from 2 on are 0.
  pub beyond : ((tight_row 2 example_row).lower 2 ≡ 0) × ((tight_row 2 example_row).upper 2 ≡ 0)
  -- Both ends of one entry move, each by the old entries: .1 and .9 become .5 and .8.
  pub both_move : ((tight_row 2 (row_of_two 100000000 200000000 900000000 500000000)).lower 0 ≡ 500000000) × ((tight_row 2 (row_of_two 100000000 200000000 900000000 500000000)).upper 0 ≡ 800000000)
  -- The row of document 01's first step: nothing changes.
  pub kept_lowers : ((tight_row 3 example_row).lower 0 ≡ 100000000) × ((tight_row 3 example_row).lower 1 ≡ 200000000) × ((tight_row 3 example_row).lower 2 ≡ 300000000)
  pub kept_uppers : ((tight_row 3 example_row).upper 0 ≡ 500000000) × ((tight_row 3 example_row).upper 1 ≡ 600000000) × ((tight_row 3 example_row).upper 2 ≡ 400000000)
  -- One state: ONE and ONE.
  pub single : ((tight_row 1 one_state).lower 0 ≡ 1000000000) × ((tight_row 1 one_state).upper 0 ≡ 1000000000)

pub tight_rows : TightRows
unfolding sum_to only_if
tight_rows =
    record {
      lowers_a1 = (refl, refl);
      uppers_a1 = (refl, refl);
      lowers_a2 = (refl, refl);
      uppers_a2 = (refl, refl);
      rising = (refl, refl);
      rising_uppers = (refl, refl);
      beyond = (refl, refl);
      both_move = (refl, refl);
      kept_lowers = (refl, refl, refl);
      kept_uppers = (refl, refl, refl);
      single = (refl, refl);
    }

-- The edges that a matrix of 0 and 1 shows.
abbrev shown : List (List ℕ) → (i j : ℕ) → Bool
shown rows i j = eqb (at (get_or rows i []) j) 1

-- From state 0 to 1 to 2 and back to 0.
abbrev pub round : ℕ → ℕ → Bool
round = shown ((0 ∷ 1 ∷ 0 ∷ []) ∷ (0 ∷ 0 ∷ 1 ∷ []) ∷ (1 ∷ 0 ∷ 0 ∷ []) ∷ [])

-- States 0 to `last` in a cycle, each with an edge to the next and the last to state 0, and a chord: the one before the last has an edge to state 0 too.
abbrev pub cycle_with_chord : (last : ℕ) → (i j : ℕ) → Bool
cycle_with_chord last i j = eqb j (suc i) || eqb j 0 && (eqb i last || eqb (suc i) last)

pub record TestsBelow : Type 0 where
  pub some : (any_below 2 (eqb 1) ≡ true) × (any_below 2 (eqb 2) ≡ false) × (any_below 0 (eqb 0) ≡ false)
  pub every : (all_below 1 (eqb 0) ≡ true) × (all_below 2 (eqb 0) ≡ false) × (all_below 0 (eqb 1) ≡ true)

pub tests_below : TestsBelow
unfolding any_below
tests_below = record { some = (refl, refl, refl); every = (refl, refl, refl) }

-- The first number that passes: of those from 1 to 3, and 0 where it is none of them.
pub record FirstNumbers : Type 0 where
  pub ends : (first_from 3 1 (eqb 1) ≡ 1) × (first_from 3 1 (eqb 3) ≡ 3)
  pub outside : (first_from 3 1 (eqb 0) ≡ 0) × (first_from 3 1 (eqb 4) ≡ 0) × (first_from 0 1 (ltb 0) ≡ 0)
  pub several : (first_from 3 1 (ltb 1) ≡ 2) × (first_from 3 2 (ltb 0) ≡ 2)

pub first_numbers : FirstNumbers
unfolding first_from
first_numbers = record { ends = (refl, refl); outside = (refl, refl, refl); several = (refl, refl) }

-- Exactly so many years, along edges in their direction, and through states below n alone.
pub record Paths : Type 0 where
  pub stays : (path 3 round 0 1 1 ≡ true) × (path 3 round 0 1 2 ≡ false)
  pub one : (path 3 round 1 0 1 ≡ true) × (path 3 round 1 1 0 ≡ false) × (path 3 round 1 0 0 ≡ false)
  pub two : (path 3 round 2 0 2 ≡ true) × (path 3 round 2 0 1 ≡ false)
  pub three : (path 3 round 3 0 0 ≡ true) × (path 3 round 3 0 1 ≡ false)
  pub below : (path 2 round 3 0 0 ≡ false) × (path 2 (cycle_with_chord 2) 2 0 0 ≡ true)

pub paths : Paths
unfolding path any_below
paths = record { stays = (refl, refl); one = (refl, refl, refl); two = (refl, refl); three = (refl, refl); below = (refl, refl) }

-- Of three states in a round no count mixes; with the chord the first is 5, one more than the square of 2.
pub record CountsThatMix : Type 0 where
  pub turning : (mixes 3 round 1 ≡ false) × (mixes 3 round 3 ≡ false) × (mixes 3 round 6 ≡ false)
  pub slowest : (mixes 3 (cycle_with_chord 2) 4 ≡ false) × (mixes 3 (cycle_with_chord 2) 5 ≡ true) × (mixes 3 (cycle_with_chord 2) 6 ≡ true)
  -- Of one state with an edge to itself every count, without one none but 0.
  pub alone : (mixes 1 (shown ((1 ∷ []) ∷ [])) 1 ≡ true) × (mixes 1 (shown ((0 ∷ []) ∷ [])) 1 ≡ false) × (mixes 1 (shown ((0 ∷ []) ∷ [])) 0 ≡ true)

pub counts_that_mix : CountsThatMix
unfolding path any_below
counts_that_mix = record { turning = (refl, refl, refl); slowest = (refl, refl, refl); alone = (refl, refl, refl) }

-- A lower entry of 1 part is an edge, one of 0 is none whatever the upper entry.
abbrev parts_chain : SetChain
parts_chain = record { states = 2; row = λ i. lists_row (1 ∷ 0 ∷ []) (1 ∷ 1000000000 ∷ []) }

pub lower_edges : (edges_of parts_chain 0 0 ≡ true) × (edges_of parts_chain 0 1 ≡ false)
lower_edges = (refl, refl)
