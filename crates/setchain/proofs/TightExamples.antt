-- Which rows are tight, and which entries are the least and the greatest (document 02, item 2).
use Rattle.std.specs.Prelude.{ℕ, ◌+◌, ◌≤◌, ◌≡◌, refl, true, false, [], ◌∷◌}
use Rattle.std.proofs.Common.{arith}
use Rattle.setchain.specs.Sums.{at, sum_to}
use Rattle.setchain.specs.Rows.{ONE, IntervalRow, of_parts}
use Rattle.setchain.specs.Step.{Parts}
use Rattle.setchain.specs.Tight.{ExtremeEntry, Tight}
use Rattle.setchain.proofs.Laws.Sums.{below_two}
use Rattle.setchain.proofs.Examples.{row_of_two, chain_a}

-- Example A's class 1, made tight: the first state has .95 at least, since the other has .05 at most.
abbrev tight_a : IntervalRow
tight_a = row_of_two 950000000 0 1000000000 50000000

-- .95 and .05, and ONE and 0: the rows of whole parts that reach its ends.
abbrev least_first : ℕ → ℕ
least_first = at (950000000 ∷ 50000000 ∷ [])

abbrev all_first : ℕ → ℕ
all_first = at (1000000000 ∷ 0 ∷ [])

-- A row over two states by its entries.
inside_two : (r : IntervalRow) (p : ℕ → ℕ) → p 0 + p 1 ≡ ONE → r.lower 0 ≤ p 0 → p 0 ≤ r.upper 0 → r.lower 1 ≤ p 1 → p 1 ≤ r.upper 1 → Parts 2 r p
unfolding sum_to
inside_two r p sums above below above' below' =
    record { positive = omega arith; sums = omega arith; above = below_two _ (omega arith) (omega arith); below = below_two _ (omega arith) (omega arith) }

least_first_lem : Parts 2 (chain_a.row 0) least_first × Parts 2 tight_a least_first
least_first_lem = (inside_two _ _ refl (omega arith) (omega arith) (omega arith) (omega arith), inside_two _ _ refl (omega arith) (omega arith) (omega arith) (omega arith))

all_first_lem : Parts 2 (chain_a.row 0) all_first × Parts 2 tight_a all_first
all_first_lem = (inside_two _ _ refl (omega arith) (omega arith) (omega arith) (omega arith), inside_two _ _ refl (omega arith) (omega arith) (omega arith) (omega arith))

-- The least entry of Example A's class 1 at the first state: .95, and not .9, which no row has, nor ONE, which some go below; nor is .95 the greatest.
pub record LeastEntry : Type 0 where
  pub least : ExtremeEntry false 2 (chain_a.row 0) 0 950000000
  pub reached_by_none : ¬ ExtremeEntry false 2 (chain_a.row 0) 0 900000000
  pub passed_by_some : ¬ ExtremeEntry false 2 (chain_a.row 0) 0 1000000000
  pub not_greatest : ¬ ExtremeEntry true 2 (chain_a.row 0) 0 950000000

pub least_entry : LeastEntry
unfolding sum_to
least_entry =
    record {
      least = record { witness = of_parts least_first; inside = least_first_lem.0; reached = refl; extreme = λ q h. omega (arith, h.sums, h.below 1 (omega arith)) };
      reached_by_none = λ e. let h = e.inside in omega (arith, e.reached, h.sums, h.positive, h.below 1 (omega arith));
      passed_by_some = λ e. omega (arith, e.extreme (of_parts least_first) least_first_lem.0);
      not_greatest = λ e. omega (arith, e.extreme (of_parts all_first) all_first_lem.0);
    }

-- Source 001's tight intervals: the tight row, and not document 01's rows of Example A, of which one lower and one upper end is reached by none.
pub record TightOrNot : Type 0 where
  pub tight : Tight 2 tight_a
  pub class1 : ¬ Tight 2 (chain_a.row 0)
  pub class2 : ¬ Tight 2 (chain_a.row 1)

pub tight_or_not : TightOrNot
unfolding sum_to
tight_or_not =
    record {
      tight =
          record {
            minima = below_two _
                (record { witness = of_parts least_first; inside = least_first_lem.1; reached = refl; extreme = λ q h. h.above 0 (omega arith) })
                (record { witness = of_parts all_first; inside = all_first_lem.1; reached = refl; extreme = λ q h. h.above 1 (omega arith) });
            maxima = below_two _
                (record { witness = of_parts all_first; inside = all_first_lem.1; reached = refl; extreme = λ q h. h.below 0 (omega arith) })
                (record { witness = of_parts least_first; inside = least_first_lem.1; reached = refl; extreme = λ q h. h.below 1 (omega arith) });
          };
      class1 = λ w. least_entry.reached_by_none (w.minima 0 (omega arith));
      class2 = λ w. let e = w.maxima 1 (omega arith) in let h = e.inside in omega (arith, e.reached, h.sums, h.positive, h.above 0 (omega arith));
    }
