-- All rows listed, each in turn: the rows passed have their entries, and of the others there is none.
-- Assumes nothing.
use Prim.Native.Nat.{ℕ, ◌+◌, ◌-◌, ◌*◌, ◌≤◌, ◌<◌}
use mathlib.Core.Path.{◌≡◌, refl, ap, sym, ◌∙◌, subst}
use mathlib.Core.List.{List}
use native.Mathlib.Omega.{arith}
use lib.Dec.{eqb}
use lib.ListN.{length, take, drop, set, length-set}
use lib.Seq.{get_or-set_same, get_or-set_other}
use borrow.Author.Count.{below_none, below_more}
use borrow.Author.Tests.{eq-eqb, ne_eqb}
use Rattle.scheme.specs.Access.{CELL_STRIDE, class_bands}
use Rattle.setchain.specs.Sums.{at, sum_to, only_if}
use Rattle.setchain.specs.Rows.{ONE, IntervalRow, SetChain}
use Rattle.setchain.specs.Step.{capacity}
use Rattle.setchain.proofs.Laws.Sums.{sum_to_eq, only_if_true, only_if_false, total_start}
use Rattle.setchain.proofs.Laws.Agreeing.{Agree, agree_sym, sound_agrees}
use Rattle.bounds.specs.Entries.{rules_row, lower_ends, capacities, sum_of, list_sum, listed_row, rules_chain, ShortLists, AddRowPre, AddRowPost, ListRowsPre, ListRowsPost}

-- What the lists have for each row, of the lower ends or of the capacities: for the rows below i what v says, for the others nothing.
pub record RowSums (n : ℕ) (v : ℕ → ℕ → ℕ) (ends : ℕ) (entries : List ℕ) (i : ℕ) : Type 0 where
  pub listed : (k : ℕ) → k < i → (j : ℕ) → j < n → list_sum entries ends j k ≡ v k j
  pub later : (k : ℕ) → i ≤ k → (j : ℕ) → j < n → list_sum entries ends j k ≡ 0

-- With the entries of row i more.
sums_more : {n : ℕ} {v : ℕ → ℕ → ℕ} {ends : ℕ} {entries entries' : List ℕ} {i : ℕ}
    → ((j k : ℕ) → j < n → list_sum entries' ends j k ≡ list_sum entries ends j k + only_if (eqb i k) (v i j))
    → RowSums n v ends entries i → RowSums n v ends entries' (i + 1)
sums_more {n} {v} {ends} {entries} {entries'} {i} added w =
    record {
      listed =
          below_more _ i (λ k h j l. other k (λ e. omega arith) j l ∙ w.listed k h j l)
          (λ j l. omega (arith, added j i l, w.later i (omega arith) j l, only_if_true (eqb i i) (v i j) (eq-eqb i i refl)));
      later = λ k h j l. other k (λ e. omega arith) j l ∙ w.later k (omega arith) j l;
    }
  where
    other : (k : ℕ) → (i ≡ k → ⊥) → (j : ℕ) → j < n → list_sum entries' ends j k ≡ list_sum entries ends j k
    other k d j l = omega (arith, added j k l, only_if_false (eqb i k) (v i j) (ne_eqb i k d))

-- The lists at row i: the rows below it are listed, and of the others there is no entry.
pub record Listing (c : SetChain) (entries slack : List ℕ) (i : ℕ) : Type 0 where
  pub lists : ShortLists c.states i entries
  pub slack_size : length slack ≡ 32
  pub inside : i ≤ c.states
  pub lower_sums : RowSums c.states (λ k. (c.row k).lower) lower_ends entries i
  pub capacity_sums : RowSums c.states (λ k. capacity (c.row k)) capacities entries i
  pub whole : (k : ℕ) → k < i → sum_to c.states (c.row k).lower + at slack k ≡ ONE

module _ {n m : ℕ} {rules lowers uppers entries₀ slack₀ : List ℕ} (able : ListRowsPre n m rules lowers uppers entries₀ slack₀) where
  abbrev chain : SetChain
  chain = rules_chain n m rules lowers uppers

  none : (ends k j : ℕ) → j < n → list_sum entries₀ ends j k ≡ 0
  none ends k j l =
      ap (λ c. sum_of entries₀ ends (j * 32) c k) (able.empty.none j (omega (arith, able.states)))
      ∙ sym (total_start (λ e. only_if (eqb (at entries₀ (j * 32 + e)) k) (at entries₀ (ends + (j * 32 + e)))))

  pub listing_none : Listing chain entries₀ slack₀ 0
  listing_none =
      record {
        lists =
            record {
              size = able.empty.size;
              rows = λ e l. omega (arith, able.empty.rows e l, able.positive);
              short = λ j l. omega (arith, able.empty.none j (omega (arith, able.states)));
            };
        slack_size = able.empty.slack_size;
        inside = omega arith;
        lower_sums = record { listed = below_none _; later = λ k h j l. none lower_ends k j l };
        capacity_sums = record { listed = below_none _; later = λ k h j l. none capacities k j l };
        whole = below_none _;
      }

  module _ {entries slack : List ℕ} (i : ℕ) (w : Listing chain entries slack i) where
    -- The row of the class's own rules and bands, as the code lends them.
    module _ {ownLowers ownUppers : List ℕ} (lowersAre : ownLowers ≡ class_bands m lowers i) (uppersAre : ownUppers ≡ class_bands m uppers i) where
      abbrev own : IntervalRow
      own = rules_row (take (i * CELL_STRIDE + m - i * CELL_STRIDE) (drop (i * CELL_STRIDE) rules)) ownLowers ownUppers

      own_is : own ≡ chain.row i
      own_is = let count : i * CELL_STRIDE + m - i * CELL_STRIDE ≡ m = omega arith in λ t. rules_row (take (count t) (drop (i * CELL_STRIDE) rules)) (lowersAre t) (uppersAre t)

      pub listing_adds : i < n → AddRowPre n own i entries
      listing_adds l = subst (λ r. AddRowPre n r i entries) (sym own_is) (record { states = able.states; inside = l; sound = able.sound i l; lists = w.lists })

      pub own_added : {entries' : List ℕ} → AddRowPost n own i entries entries' → AddRowPost n (chain.row i) i entries entries'
      own_added {entries'} = subst (λ r. AddRowPost n r i entries entries') own_is

      pub own_left : (r : ℕ) → sum_to n own.lower + r ≡ ONE → sum_to n (chain.row i).lower + r ≡ ONE
      own_left r = subst (λ q. sum_to n q.lower + r ≡ ONE) own_is

    module _ {entries' : List ℕ} (r : ℕ) (l : i < n) (added : AddRowPost n (chain.row i) i entries entries') (left : sum_to n (chain.row i).lower + r ≡ ONE) where
      pub listing_more : Listing chain entries' (set slack i r) (i + 1)
      listing_more =
          record {
            lists = added.lists;
            slack_size = length-set slack i r ∙ w.slack_size;
            inside = omega arith;
            lower_sums = sums_more added.lower_sums w.lower_sums;
            capacity_sums = sums_more added.capacity_sums w.capacity_sums;
            whole =
                below_more (λ k. sum_to n (chain.row k).lower + at (set slack i r) k ≡ ONE) i
                (λ k h. omega (arith, get_or-set_other slack i k r 0 (λ e. omega arith), w.whole k h))
                (omega (arith, get_or-set_same slack i r 0 (omega (arith, w.slack_size, able.states)), left));
          }

    -- When all rows are listed.
    module _ (done : n ≤ i) where
      agree : (k : ℕ) → k < n → Agree n (listed_row entries k) (chain.row k)
      agree k l =
          record {
            lower = w.lower_sums.listed k (omega arith);
            upper = λ j g. omega (arith, w.lower_sums.listed k (omega arith) j g, w.capacity_sums.listed k (omega arith) j g, (able.sound k l).ordered j g);
          }

      pub listing_all : ListRowsPost chain entries slack
      listing_all =
          record {
            lists =
                record {
                  states = able.states;
                  lists = record { size = w.lists.size; rows = w.lists.rows; short = λ j l. omega (arith, w.lists.short j l, w.inside, able.states) };
                  slack_size = omega (arith, w.slack_size, able.states);
                  sound = λ k l. sound_agrees (agree_sym (agree k l)) (able.sound k l);
                  whole = λ k l. omega (arith, sum_to_eq n (listed_row entries k).lower (chain.row k).lower (agree k l).lower, w.whole k (omega arith));
                };
            agrees = agree;
          }
