-- The tables read and written in the one list that they are joined to.
-- Assumes nothing.
use Rattle.std.proofs.Common.{◌≡◌, ◌+◌, ◌-◌, ◌*◌, ◌<◌, ◌≤◌, ℕ, ap, sym, ◌∙◌, subst, arith, List, ◌++◌, length}
use Rattle.std.proofs.lemmas.List.{get_or_append_left, get_or-append_right, set-append_left, set-append_right, length-set}
use Prim.Native.Nat.{min}
use lib.ListN.{set}
use Rattle.setchain.specs.Sums.{at}
use Rattle.setchain.specs.Rows.{ONE, IntervalRow}
use Rattle.setchain.specs.Step.{capacity}
use Rattle.step_spec.specs.StepAnswer.{MOST_PAYOFF}
use Rattle.bounds.specs.Fill.{FillStatePre, FillStatePost}
use Rattle.bounds.specs.declared.entries.Entries.{Entries}
use Rattle.bounds.specs.Joined.{joined}
use Rattle.bounds.specs.Entries.{lower_ends, capacities, counts, AddRowPre}
use Rattle.bounds.proofs.AddRowLaws.{listed, Adding, adding_here, adding_more, adding_as}
use Rattle.bounds.proofs.FillStateLaws.{EntriesTaken, parts_fit, parts_more}

-- Four tables, the first three of 1024.
module _ (a b c d : List ℕ) (aSize : length a ≡ 1024) where
  abbrev all : List ℕ
  all = a ++ (b ++ (c ++ d))

  state_at : (e : ℕ) → e < 1024 → at all e ≡ at a e
  state_at e l = get_or_append_left a (b ++ (c ++ d)) 0 e (omega arith)

  set_state : (i v : ℕ) → i < 1024 → set all i v ≡ set a i v ++ (b ++ (c ++ d))
  set_state i v l = set-append_left a (b ++ (c ++ d)) i v (omega arith)

  behind : (n e : ℕ) → n ≡ 1024 + e → at all n ≡ at (b ++ (c ++ d)) e
  behind n e is = let k : n - 1024 ≡ e = omega arith in get_or-append_right a (b ++ (c ++ d)) 1024 n 0 aSize (omega arith) ∙ ap (at (b ++ (c ++ d))) k

  set_behind : (n e v : ℕ) → n ≡ 1024 + e → set all n v ≡ a ++ set (b ++ (c ++ d)) e v
  set_behind n e v is =
      let k : n - 1024 ≡ e = omega arith in
      set-append_right a (b ++ (c ++ d)) 1024 n v aSize (omega arith) ∙ ap (λ q. a ++ set (b ++ (c ++ d)) q v) k

  module _ (bSize : length b ≡ 1024) where
    lower_at : (e : ℕ) → e < 1024 → at all (lower_ends + e) ≡ at b e
    lower_at e l = behind (lower_ends + e) e (omega arith) ∙ get_or_append_left b (c ++ d) 0 e (omega arith)

    set_lower : (e v : ℕ) → e < 1024 → set all (lower_ends + e) v ≡ a ++ (set b e v ++ (c ++ d))
    set_lower e v l = set_behind (lower_ends + e) e v (omega arith) ∙ ap (λ x. a ++ x) (set-append_left b (c ++ d) e v (omega arith))

    further : (n e : ℕ) → n ≡ 1024 + e → at (b ++ (c ++ d)) n ≡ at (c ++ d) e
    further n e is = let k : n - 1024 ≡ e = omega arith in get_or-append_right b (c ++ d) 1024 n 0 bSize (omega arith) ∙ ap (at (c ++ d)) k

    set_further : (n e v : ℕ) → n ≡ 1024 + e → set (b ++ (c ++ d)) n v ≡ b ++ set (c ++ d) e v
    set_further n e v is =
        let k : n - 1024 ≡ e = omega arith in set-append_right b (c ++ d) 1024 n v bSize (omega arith) ∙ ap (λ q. b ++ set (c ++ d) q v) k

    module _ (cSize : length c ≡ 1024) where
      capacity_at : (e : ℕ) → e < 1024 → at all (capacities + e) ≡ at c e
      capacity_at e l =
          behind (capacities + e) (1024 + e) (omega arith) ∙ further (1024 + e) e (omega arith) ∙ get_or_append_left c d 0 e (omega arith)

      set_capacity : (e v : ℕ) → e < 1024 → set all (capacities + e) v ≡ a ++ (b ++ (set c e v ++ d))
      set_capacity e v l =
          set_behind (capacities + e) (1024 + e) v (omega arith)
          ∙ ap (λ x. a ++ x) (set_further (1024 + e) e v (omega arith))
          ∙ ap (λ x. a ++ (b ++ x)) (set-append_left c d e v (omega arith))

      count_at : (j : ℕ) → at all (counts + j) ≡ at d j
      count_at j =
          let k : 1024 + j - 1024 ≡ j = omega arith in
          behind (counts + j) (2048 + j) (omega arith) ∙ further (2048 + j) (1024 + j) (omega arith)
          ∙ get_or-append_right c d 1024 (1024 + j) 0 cSize (omega arith) ∙ ap (at d) k

      set_count : (j v : ℕ) → set all (counts + j) v ≡ a ++ (b ++ (c ++ set d j v))
      set_count j v =
          let k : 1024 + j - 1024 ≡ j = omega arith in
          set_behind (counts + j) (2048 + j) v (omega arith)
          ∙ ap (λ x. a ++ x) (set_further (2048 + j) (1024 + j) v (omega arith))
          ∙ ap (λ x. a ++ (b ++ x)) (set-append_right c d 1024 (1024 + j) v cSize (omega arith) ∙ ap (λ q. c ++ set d q v) k)

-- The tables, each of its size.
module _ (t : Entries) (aSize : length t.states ≡ 1024) (bSize : length t.lower_ends ≡ 1024) (cSize : length t.capacities ≡ 1024) where
  count_is : (j : ℕ) → at (joined t) (counts + j) ≡ at t.counts j
  count_is = count_at t.states t.lower_ends t.capacities t.counts aSize bSize cSize

  -- An entry stored in the tables is stored in the list.
  stored : (place i low rise j count : ℕ) → place < 1024
      → listed (joined t) place i low rise j count
      ≡ set t.states place i ++ (set t.lower_ends place low ++ (set t.capacities place rise ++ set t.counts j count))
  stored place i low rise j count l =
      let a : List ℕ = set t.states place i in
      let b : List ℕ = set t.lower_ends place low in
      let c : List ℕ = set t.capacities place rise in
      let first : length a ≡ 1024 = length-set t.states place i ∙ aSize in
      let second : length b ≡ 1024 = length-set t.lower_ends place low ∙ bSize in
      let third : length c ≡ 1024 = length-set t.capacities place rise ∙ cSize in
      ap (λ x. set (set (set x (lower_ends + place) low) (capacities + place) rise) (counts + j) count) (set_state t.states t.lower_ends t.capacities t.counts aSize place i l)
      ∙ ap (λ x. set (set x (capacities + place) rise) (counts + j) count) (set_lower a t.lower_ends t.capacities t.counts first bSize place low l)
      ∙ ap (λ x. set x (counts + j) count) (set_capacity a b t.capacities t.counts first second cSize place rise l)
      ∙ set_count a b c t.counts first second third j count

  -- So the lists have the row's entry at state j more.
  module _ {n : ℕ} {r : IntervalRow} {i : ℕ} {entries : List ℕ} (able : AddRowPre n r i entries) {j : ℕ} (w : Adding n r i entries (joined t) j) (here : j < n) where
    pub place_free : (at t.counts j ≤ i) × (i < 32) × (j < 32)
    place_free = let own = adding_here able w here in omega (arith, count_is j, own.0, own.1, own.2)

    pub adding_stored : Adding n r i entries
        (set t.states (j * 32 + at t.counts j) i
        ++ (set t.lower_ends (j * 32 + at t.counts j) (r.lower j)
        ++ (set t.capacities (j * 32 + at t.counts j) (capacity r j) ++ set t.counts j (at t.counts j + 1)))) (j + 1)
    adding_stored =
        adding_as (sym (stored (j * 32 + at t.counts j) i (r.lower j) (capacity r j) j (at t.counts j + 1) (omega (arith, place_free))))
        (subst (λ k. Adding n r i entries (listed (joined t) (j * 32 + k) i (r.lower j) (capacity r j) j (k + 1)) (j + 1)) (count_is j) (adding_more able w here))

  -- One entry of a state, taken from the tables.
  module _ {first end payoff : ℕ} {left sums : List ℕ} (able : FillStatePre (joined t) first end payoff left sums)
      {left' sums' : List ℕ} {e : ℕ} (w : EntriesTaken (joined t) first end payoff left sums left' sums' e) (further : e < end) where
    inside : e < 1024
    inside = omega (arith, able.inside)

    row_is : at t.states e ≡ at (joined t) e
    row_is = sym (state_at t.states t.lower_ends t.capacities t.counts aSize e inside)

    lower_is : at (joined t) (lower_ends + e) ≡ at t.lower_ends e
    lower_is = lower_at t.states t.lower_ends t.capacities t.counts aSize bSize e inside

    capacity_is : at (joined t) (capacities + e) ≡ at t.capacities e
    capacity_is = capacity_at t.states t.lower_ends t.capacities t.counts aSize bSize cSize e inside

    pub row_stored : at t.states e < length left
    row_stored = omega (arith, row_is, able.rows e inside)

    pub entry_small : at t.lower_ends e + at t.capacities e ≤ ONE
    entry_small = omega (arith, lower_is, capacity_is, able.small e w.begun further)

    module _ {given : ℕ} (is : given ≡ min (at t.capacities e) (at left' (at t.states e))) {parts : ℕ} (are : parts ≡ at t.lower_ends e + given) where
      given_is : given ≡ min (at (joined t) (capacities + e)) (at left' (at t.states e))
      given_is = is ∙ ap (λ x. min x (at left' (at t.states e))) (sym capacity_is)

      parts_are : parts ≡ at (joined t) (lower_ends + e) + given
      parts_are = are ∙ ap (λ x. x + given) (sym lower_is)

      pub entry_fits : at sums' (at t.states e) + parts * payoff ≤ MOST_PAYOFF * ONE
      entry_fits = parts_fit able w further row_is given_is parts_are

      pub entry_taken : EntriesTaken (joined t) first end payoff left sums
          (set left' (at t.states e) (at left' (at t.states e) - given)) (set sums' (at t.states e) (at sums' (at t.states e) + parts * payoff)) (e + 1)
      entry_taken = parts_more able w further row_is given_is parts_are

  -- The count of a state's list, in what its fill takes and leaves.
  module _ (j : ℕ) {payoff : ℕ} {left sums : List ℕ} where
    pub fills_counted : FillStatePre (joined t) (j * 32) (j * 32 + at (joined t) (counts + j)) payoff left sums
        → FillStatePre (joined t) (j * 32) (j * 32 + at t.counts j) payoff left sums
    fills_counted = subst (λ k. FillStatePre (joined t) (j * 32) (j * 32 + k) payoff left sums) (count_is j)

    pub filled_counted : {left' sums' : List ℕ} → FillStatePost (joined t) (j * 32) (j * 32 + at t.counts j) payoff left sums left' sums'
        → FillStatePost (joined t) (j * 32) (j * 32 + at (joined t) (counts + j)) payoff left sums left' sums'
    filled_counted {left'} {sums'} = subst (λ k. FillStatePost (joined t) (j * 32) (j * 32 + k) payoff left sums left' sums') (sym (count_is j))
