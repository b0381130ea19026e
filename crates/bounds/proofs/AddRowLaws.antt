-- The entries of one row, added to the lists of the states that they lead to: the lists passed have one entry more, the others are as they were.
-- Assumes nothing.
use Prim.Native.Nat.{ℕ, ◌+◌, ◌*◌, ◌≤◌, ◌<◌}
use mathlib.Core.Path.{◌≡◌, refl, ap, ap₂, ◌∙◌}
use mathlib.Core.Logic.{◌⊎◌, inl, inr, ⊎_elim}
use mathlib.Core.List.{List}
use native.Mathlib.Decide.{ℕ_discrete, dec_lt}
use native.Mathlib.Omega.{arith}
use lib.Dec.{eqb}
use lib.ListN.{length, set, length-set}
use lib.Seq.{get_or-set_same, get_or-set_other}
use borrow.Author.Count.{below_none, below_more}
use Rattle.setchain.specs.Sums.{at, only_if}
use Rattle.setchain.specs.Rows.{ONE, IntervalRow}
use Rattle.setchain.specs.Step.{capacity}
use Rattle.setchain.proofs.Laws.Sums.{sum_to_eq, only_if_zero, sum_to_more}
use Rattle.bounds.specs.Entries.{lower_ends, capacities, counts, sum_of, list_sum, AddRowPre, AddRowPost}

-- The lists before and after one entry is stored, of the lower ends or of the capacities.
record Stored (entries entries' : List ℕ) (ends place a v : ℕ) : Type 0 where
  row : at entries' place ≡ a
  end : at entries' (ends + place) ≡ v
  rows : (e : ℕ) → e < 1024 → (e ≡ place → ⊥) → at entries' e ≡ at entries e
  others : (e : ℕ) → e < 1024 → (e ≡ place → ⊥) → at entries' (ends + e) ≡ at entries (ends + e)

-- An entry outside some others leaves their sum as it was.
store_outside : {entries entries' : List ℕ} {ends place a v : ℕ} → Stored entries entries' ends place a v
    → (first count q : ℕ) → first + count ≤ 1024 → ((e : ℕ) → e < count → first + e ≡ place → ⊥)
    → sum_of entries' ends first count q ≡ sum_of entries ends first count q
store_outside w first count q f h =
    sum_to_eq count _ _ (λ e l. ap₂ (λ x y. only_if (eqb x q) y) (w.rows (first + e) (omega arith) (h e l)) (w.others (first + e) (omega arith) (h e l)))

-- And one right after them is one term more.
store_after : {entries entries' : List ℕ} {ends a v : ℕ} (first count q : ℕ) → Stored entries entries' ends (first + count) a v → first + count < 1024
    → sum_of entries' ends first (count + 1) q ≡ sum_of entries ends first count q + only_if (eqb a q) v
store_after first count q w f =
    sum_to_more _ count
    ∙ ap₂ (λ x y. x + y)
    (store_outside w first count q (omega arith) (λ e l z. omega arith))
    (ap₂ (λ x y. only_if (eqb x q) y) w.row w.end)

-- The lists with an entry of row i more at a place, and a count that says so.
abbrev pub listed : List ℕ → (place i low rise j count : ℕ) → List ℕ
listed entries place i low rise j count =
    set (set (set (set entries place i) (lower_ends + place) low) (capacities + place) rise) (counts + j) count

module _ (entries : List ℕ) (size : length entries ≡ 3104) (place i low rise j count : ℕ) (p : place < 1024) (q : j < 32) where
  abbrev first : List ℕ
  first = set entries place i

  abbrev second : List ℕ
  second = set first (lower_ends + place) low

  abbrev third : List ℕ
  third = set second (capacities + place) rise

  first_size : length first ≡ 3104
  first_size = length-set entries place i ∙ size

  second_size : length second ≡ 3104
  second_size = length-set first (lower_ends + place) low ∙ first_size

  third_size : length third ≡ 3104
  third_size = length-set second (capacities + place) rise ∙ second_size

  listed_size : length (listed entries place i low rise j count) ≡ 3104
  listed_size = length-set third (counts + j) count ∙ third_size

  listed_count : at (listed entries place i low rise j count) (counts + j) ≡ count
  listed_count = get_or-set_same third (counts + j) count 0 (omega (arith, third_size))

  -- What stands at no place of this entry.
  listed_other : (e : ℕ) → (e ≡ place → ⊥) → (e ≡ lower_ends + place → ⊥) → (e ≡ capacities + place → ⊥) → (e ≡ counts + j → ⊥)
      → at (listed entries place i low rise j count) e ≡ at entries e
  listed_other e a b c d =
      get_or-set_other third (counts + j) e count 0 d
      ∙ get_or-set_other second (capacities + place) e rise 0 c
      ∙ get_or-set_other first (lower_ends + place) e low 0 b
      ∙ get_or-set_other entries place e i 0 a

  listed_row_lem : at (listed entries place i low rise j count) place ≡ i
  listed_row_lem =
      get_or-set_other third (counts + j) place count 0 (λ z. omega arith)
      ∙ get_or-set_other second (capacities + place) place rise 0 (λ z. omega arith)
      ∙ get_or-set_other first (lower_ends + place) place low 0 (λ z. omega arith)
      ∙ get_or-set_same entries place i 0 (omega arith)

  listed_lower : Stored entries (listed entries place i low rise j count) lower_ends place i low
  listed_lower =
      record {
        row = listed_row_lem;
        end =
            get_or-set_other third (counts + j) (lower_ends + place) count 0 (λ z. omega arith)
            ∙ get_or-set_other second (capacities + place) (lower_ends + place) rise 0 (λ z. omega arith)
            ∙ get_or-set_same first (lower_ends + place) low 0 (omega (arith, first_size));
        rows = λ e l d. listed_other e d (λ z. omega arith) (λ z. omega arith) (λ z. omega arith);
        others = λ e l d. listed_other (lower_ends + e) (λ z. omega arith) (λ z. d (omega arith)) (λ z. omega arith) (λ z. omega arith);
      }

  listed_capacity : Stored entries (listed entries place i low rise j count) capacities place i rise
  listed_capacity =
      record {
        row = listed_row_lem;
        end =
            get_or-set_other third (counts + j) (capacities + place) count 0 (λ z. omega arith)
            ∙ get_or-set_same second (capacities + place) rise 0 (omega (arith, second_size));
        rows = λ e l d. listed_other e d (λ z. omega arith) (λ z. omega arith) (λ z. omega arith);
        others = λ e l d. listed_other (capacities + e) (λ z. omega arith) (λ z. omega arith) (λ z. d (omega arith)) (λ z. omega arith);
      }

-- What the lists have at state j, of the lower ends or of the capacities: those of the states passed the row's ends more, the others what they had.
pub record Sums (n : ℕ) (v : ℕ → ℕ) (i ends : ℕ) (entries entries' : List ℕ) (j : ℕ) : Type 0 where
  pub passed : (k : ℕ) → k < j → (q : ℕ) → list_sum entries' ends k q ≡ list_sum entries ends k q + only_if (eqb i q) (v k)
  pub later : (k : ℕ) → j ≤ k → k < n → (q : ℕ) → list_sum entries' ends k q ≡ list_sum entries ends k q

sums_none : {n : ℕ} {v : ℕ → ℕ} {i ends : ℕ} {entries : List ℕ} → Sums n v i ends entries entries 0
sums_none = record { passed = below_none _; later = λ k h l q. refl }

-- A state to which the row has no entry.
sums_skip : {n : ℕ} {v : ℕ → ℕ} {i ends : ℕ} {entries entries' : List ℕ} {j : ℕ} → j < n → v j ≡ 0
    → Sums n v i ends entries entries' j → Sums n v i ends entries entries' (j + 1)
sums_skip {v = v} {i = i} {j = j} here z w =
    record {
      passed = below_more _ j w.passed (λ q. omega (arith, w.later j (omega arith) here q, ap (only_if (eqb i q)) z, only_if_zero (eqb i q)));
      later = λ k h l. w.later k (omega arith) l;
    }

-- The lists at state j: those of the states passed have the row's entries, the others what they had.
pub record Adding (n : ℕ) (r : IntervalRow) (i : ℕ) (entries entries' : List ℕ) (j : ℕ) : Type 0 where
  pub size : length entries' ≡ 3104
  pub inside : j ≤ n
  pub rows : (e : ℕ) → e < 1024 → at entries' e < n
  pub short : (k : ℕ) → k < j → at entries' (counts + k) ≤ i + 1
  pub short_later : (k : ℕ) → j ≤ k → k < n → at entries' (counts + k) ≤ i
  pub lower_sums : Sums n r.lower i lower_ends entries entries' j
  pub capacity_sums : Sums n (capacity r) i capacities entries entries' j

module _ {n : ℕ} {r : IntervalRow} {i : ℕ} {entries : List ℕ} (able : AddRowPre n r i entries) where
  pub adding_none : Adding n r i entries entries 0
  adding_none =
      record {
        size = able.lists.size;
        inside = omega arith;
        rows = able.lists.rows;
        short = below_none _;
        short_later = λ k h l. able.lists.short k l;
        lower_sums = sums_none;
        capacity_sums = sums_none;
      }

  module _ {entries' : List ℕ} {j : ℕ} (w : Adding n r i entries entries' j) (here : j < n) where
    -- The list of state j has a free place, and the entry fits.
    pub adding_here : (at entries' (counts + j) ≤ i) × (i < 32) × (j < 32) × (r.lower j ≤ r.upper j) × (r.upper j ≤ ONE)
    adding_here = omega (arith, w.short_later j (omega arith) here, able.inside, able.states, able.sound.ordered j here, able.sound.capped j here)

    -- No entry of this row.
    pub adding_skip : r.upper j ≡ 0 → Adding n r i entries entries' (j + 1)
    adding_skip e =
        record {
          size = w.size;
          inside = omega arith;
          rows = w.rows;
          short = below_more _ j w.short (omega (arith, w.short_later j (omega arith) here));
          short_later = λ k h l. w.short_later k (omega arith) l;
          lower_sums = sums_skip here (omega (arith, able.sound.ordered j here)) w.lower_sums;
          capacity_sums = sums_skip here (omega arith) w.capacity_sums;
        }

    -- An entry of this row, with its ends.
    abbrev place : ℕ
    place = j * 32 + at entries' (counts + j)

    abbrev pub added : List ℕ
    added = listed entries' (j * 32 + at entries' (counts + j)) i (r.lower j) (capacity r j) j (at entries' (counts + j) + 1)

    place_inside : place < 1024
    place_inside = omega (arith, adding_here)

    counted : at added (counts + j) ≡ at entries' (counts + j) + 1
    counted = listed_count entries' w.size place i (r.lower j) (capacity r j) j (at entries' (counts + j) + 1) place_inside adding_here.2

    uncounted : (k : ℕ) → (k < j) ⊎ (j < k) → at added (counts + k) ≡ at entries' (counts + k)
    uncounted k h =
        listed_other entries' w.size place i (r.lower j) (capacity r j) j (at entries' (counts + j) + 1) place_inside adding_here.2 (counts + k)
        (λ e. omega (arith, place_inside))
        (λ e. omega (arith, place_inside))
        (λ e. omega (arith, place_inside))
        (λ e. ⊎_elim (λ l. omega arith) (λ l. omega arith) h)

    lower_stored : Stored entries' added lower_ends place i (r.lower j)
    lower_stored = listed_lower entries' w.size place i (r.lower j) (capacity r j) j (at entries' (counts + j) + 1) place_inside adding_here.2

    capacity_stored : Stored entries' added capacities place i (capacity r j)
    capacity_stored = listed_capacity entries' w.size place i (r.lower j) (capacity r j) j (at entries' (counts + j) + 1) place_inside adding_here.2

    -- No list has more than 32 entries.
    short : (k : ℕ) → k < n → at entries' (counts + k) ≤ 32
    short k l = by (dec_lt k j)
      where
        by : Dec (k < j) → at entries' (counts + k) ≤ 32
        by (yes g) = omega (arith, w.short k g, adding_here)
        by (no g) = omega (arith, w.short_later k (omega arith) l, adding_here)

    -- What the lists have with the entry stored.
    sums_more : (v : ℕ → ℕ) (ends : ℕ) → Stored entries' added ends place i (v j) → Sums n v i ends entries entries' j → Sums n v i ends entries added (j + 1)
    sums_more v ends s t =
        record {
          passed =
              below_more (λ k. (q : ℕ) → list_sum added ends k q ≡ list_sum entries ends k q + only_if (eqb i q) (v k)) j
              (λ k l q. other k (omega arith) (inl l) q ∙ t.passed k l q)
              (λ q. own q ∙ ap (λ x. x + only_if (eqb i q) (v j)) (t.later j (omega arith) here q));
          later = λ k h l q. other k l (inr (omega arith)) q ∙ t.later k (omega arith) l q;
        }
      where
        own : (q : ℕ) → list_sum added ends j q ≡ list_sum entries' ends j q + only_if (eqb i q) (v j)
        own q = ap (λ c. sum_of added ends (j * 32) c q) counted ∙ store_after (j * 32) (at entries' (counts + j)) q s place_inside

        other : (k : ℕ) → k < n → (k < j) ⊎ (j < k) → (q : ℕ) → list_sum added ends k q ≡ list_sum entries' ends k q
        other k m d q =
            ap (λ c. sum_of added ends (k * 32) c q) (uncounted k d)
            ∙ store_outside s (k * 32) (at entries' (counts + k)) q (omega (arith, short k m, able.states))
            (λ e l z. ⊎_elim (λ g. omega (arith, short k m, adding_here)) (λ g. omega (arith, short k m, adding_here)) d)

    entry_row : (e : ℕ) → e < 1024 → at added e < n
    entry_row e l = by (ℕ_discrete e place)
      where
        by : Dec (e ≡ place) → at added e < n
        by (yes z) = omega (arith, ap (at added) z, lower_stored.row, able.inside)
        by (no ne) = omega (arith, lower_stored.rows e l ne, w.rows e l)

    pub adding_more : Adding n r i entries added (j + 1)
    adding_more =
        record {
          size = listed_size entries' w.size place i (r.lower j) (capacity r j) j (at entries' (counts + j) + 1) place_inside adding_here.2;
          inside = omega arith;
          rows = entry_row;
          short =
              below_more (λ k. at added (counts + k) ≤ i + 1) j
              (λ k l. omega (arith, uncounted k (inl l), w.short k l))
              (omega (arith, counted, adding_here));
          short_later = λ k h l. omega (arith, uncounted k (inr (omega arith)), w.short_later k (omega arith) l);
          lower_sums = sums_more r.lower lower_ends lower_stored w.lower_sums;
          capacity_sums = sums_more (capacity r) capacities capacity_stored w.capacity_sums;
        }

-- The same of lists that are equal.
pub adding_as : {n : ℕ} {r : IntervalRow} {i : ℕ} {entries a a' : List ℕ} {j : ℕ} → a' ≡ a → Adding n r i entries a j → Adding n r i entries a' j
adding_as e w = rw e w

-- When all states are passed.
pub adding_all : {n : ℕ} {r : IntervalRow} {i : ℕ} {entries entries' : List ℕ} {j : ℕ} → n ≤ j → Adding n r i entries entries' j → AddRowPost n r i entries entries'
adding_all h w =
    record {
      lists = record { size = w.size; rows = w.rows; short = λ j l. w.short j (omega arith) };
      lower_sums = λ j k l. w.lower_sums.passed j (omega arith) k;
      capacity_sums = λ j k l. w.capacity_sums.passed j (omega arith) k;
    }
