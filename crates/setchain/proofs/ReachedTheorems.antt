-- Theorems about the chance of having reached a state (document 02, item 9): its bounds keep demand 3 over the original rows, never fall from year to year
-- and move inward; each sequence is counted once; and where one state's row leads to itself alone, the share of that state is the chance.
use Prim.Native.Nat.{ℕ, zero, suc, ◌+◌, ◌*◌, ◌≤◌, ◌<◌}
use Rattle.std.specs.Prelude.{◌≡◌, Bool, ◌&&◌, eqb, length}
use Rattle.std.proofs.Math.Path.{refl, ap, sym}
use Rattle.std.proofs.Common.{◌∙◌, subst, eq-eqb, ne_eqb}
use Rattle.std.proofs.Math.Bool.{true, false, cond}
use mathlib.Core.List.{List, [], ◌∷◌, ◌++◌, map}
use Rattle.std.proofs.Math.Decide.{ℕ_discrete}
use native.Mathlib.Omega.{arith}
use Rattle.std.proofs.Math.Nat.{le_refl}
use Rattle.setchain.specs.Sums.{only_if, dot}
use Rattle.setchain.specs.Fractions.{Fraction, whole, ◌⊕◌, sum_fractions}
use Rattle.setchain.specs.Rows.{ONE, IntervalRow, SoundRow, SetChain, SoundChain, CoversChain}
use Rattle.setchain.specs.Step.{NotAfter, extreme_row, step_figure}
use Rattle.setchain.specs.Rounding.{rounded}
use Rattle.setchain.specs.Years.{years_figure, share_payoff, share_figure}
use Rattle.setchain.specs.Picks.{Matrix}
use Rattle.setchain.specs.Turns.{add, stay, turned, Obeys}
use Rattle.setchain.specs.Promise.{NoFurther, Promise}
use Rattle.setchain.specs.Reached.{reached_figure, Sequence, begins_at, holds, along, sum_sequences, exact_reached, reached_in_parts}
use Rattle.setchain.proofs.Laws.Sums.{sum_to_only, only_if_true}
use Rattle.setchain.proofs.Laws.Fractions.{add_comm, add_assoc, zero_add, sum_eq}
use Rattle.setchain.proofs.Laws.NotAfter.{not_after_same}
use Rattle.setchain.proofs.Laws.Rounding.{rounded_proportion, rounded_one}
use Rattle.setchain.proofs.Laws.Step.{extreme_parts}
use Rattle.setchain.proofs.Laws.Agreeing.{Agree, step_agrees}
use Rattle.setchain.specs.Sequences.{SequenceOf, empty, more, each_of, sequences, sum_of, filter, same}
use Rattle.setchain.proofs.Laws.Sequences.{first_fixed}
use Rattle.setchain.proofs.Laws.Reached.{reached_turn, reached_obeys, reached_follows}
use Rattle.setchain.proofs.Theorems.{promised}
use Rattle.setchain.proofs.Inward.{obeys_inward}

-- "No picks of yearly matrices inside the interval may carry the true chance outside, and some bring it within t parts."
pub reached_promise : (c : SetChain) → SoundChain c → (j t : ℕ)
    → Promise c t (NoFurther (whole t)) (reached_figure false c j t) (reached_figure true c j t) (reached_in_parts c.states j)
reached_promise c sound j = promised c sound (reached_follows c j) (reached_obeys false c j) (reached_obeys true c j)

-- "ONE in every year for the class itself".
pub own_figure : (high : Bool) (c : SetChain) (j t : ℕ) → reached_figure high c j t j ≡ ONE
unfolding reached_figure
own_figure high c j zero = only_if_true (eqb j j) ONE (eq-eqb j j refl)
own_figure high c j (suc t) = ap (λ b. cond b ONE (step_figure high c.states (c.row j) (reached_figure high c j t))) (eq-eqb j j refl)

-- A state that stays keeps the order, as do the others.
turns_inward : (high : Bool) (b : Bool) (x y : ℕ) → NotAfter high x y → NotAfter high (turned (cond b (stay ONE) (add 0)) x) (turned (cond b (stay ONE) (add 0)) y)
turns_inward high true x y h = not_after_same high refl
turns_inward false false x y h = omega arith
turns_inward true false x y h = omega arith

-- Narrower rows move the figures inward (item 1).
pub reached_inward : (high : Bool) {wide narrow : SetChain} → SoundChain wide → SoundChain narrow → CoversChain wide narrow
    → (j t i : ℕ) → i < wide.states → NotAfter high (reached_figure high wide j t i) (reached_figure high narrow j t i)
reached_inward high {wide} {narrow} soundWide soundNarrow covers j =
    obeys_inward high soundWide soundNarrow covers (reached_obeys high wide j) (reached_obeys high narrow j) (λ i l. not_after_same high refl)
    (λ i l. turns_inward high (eqb i j))

-- Chances never fall: with one year more the low figure is no smaller, nor the high figure.
module _ (c : SetChain) (sound : SoundChain c) (j : ℕ) where
  covers : CoversChain c c
  covers = record { states = refl; rows = λ i l q h. h }

  -- The figures of one year more obey too, from the figures of year 1.
  later_obeys : (high : Bool) → Obeys high c (reached_figure high c j 1) (reached_turn ONE j) (λ t. reached_figure high c j (suc t))
  later_obeys high = record { start = λ i l. refl; more = λ t. (reached_obeys high c j).more (suc t) }

  first_year_lem : (high : Bool) (i : ℕ) → share_payoff j i ≤ reached_figure high c j 1 i
  unfolding reached_figure only_if
  first_year_lem high i = by (eqb i j) (step_figure high c.states (c.row i) (reached_figure high c j 0))
    where
      by : (b : Bool) (x : ℕ) → only_if b ONE ≤ cond b ONE x
      by true x = le_refl ONE
      by false x = omega arith

  pub never_falls : (high : Bool) (t i : ℕ) → i < c.states → reached_figure high c j t i ≤ reached_figure high c j (suc t) i
  never_falls false = obeys_inward false sound sound covers (reached_obeys false c j) (later_obeys false) (λ i l. first_year_lem false i) (λ i l. turns_inward false (eqb i j))
  never_falls true = obeys_inward true sound sound covers (later_obeys true) (reached_obeys true c j) (λ i l. first_year_lem true i) (λ i l. turns_inward true (eqb i j))

-- A row over n states that cannot leave state j.
pub record StaysAt (n j : ℕ) (r : IntervalRow) : Type 0 where
  pub sound : SoundRow n r
  pub itself : (k : ℕ) → k < n → (k ≡ j → ⊥) → r.upper k ≡ 0

-- All its parts are at j, so that a step has j's own payoff for its figure.
module _ (high : Bool) {n j : ℕ} {r : IntervalRow} (l : j < n) (stays : StaysAt n j r) (f : ℕ → ℕ) where
  abbrev parts : ℕ → ℕ
  parts = extreme_row high n r f

  no_part : (k : ℕ) → k < n → (k ≡ j → ⊥) → parts k ≡ 0
  no_part k m d = omega (arith, (extreme_parts n r stays.sound high f).below k m, stays.itself k m d)

  all_parts : parts j ≡ ONE
  all_parts = sym (sum_to_only n parts j l no_part) ∙ (extreme_parts n r stays.sound high f).sums

  own_payoff : dot n parts f ≡ f j * ONE
  own_payoff = sum_to_only n (λ k. parts k * f k) j l (λ k m d. omega (arith, ap (λ x. x * f k) (no_part k m d))) ∙ omega (arith, ap (λ x. x * f j) all_parts)

  pub stay_step : step_figure high n r f ≡ f j
  unfolding step_figure
  stay_step = ap (rounded high ONE) own_payoff ∙ rounded_proportion high 1 (f j) ONE (le_refl 1) (omega arith) ∙ rounded_one high (f j)

-- Where the row of state j stays and the others are those of c, the share of j is the chance of having reached it.
module _ {c d : SetChain} {j : ℕ} (states : d.states ≡ c.states) (stays : j < d.states → StaysAt d.states j (d.row j))
    (others : (i : ℕ) → i < d.states → (i ≡ j → ⊥) → Agree d.states (d.row i) (c.row i)) (high : Bool) where
  own_share : (t : ℕ) → j < d.states → share_figure high d j t j ≡ ONE
  unfolding years_figure
  own_share zero l = only_if_true (eqb j j) ONE (eq-eqb j j refl)
  own_share (suc t) l = omega (arith, stay_step high l (stays l) (share_figure high d j t), own_share t l)

  plain_figure : (x : ℕ) → 0 + x ≡ x
  plain_figure x = omega arith

  abbrev Same : ℕ → ℕ → Type 0
  Same t i = share_figure high d j t i ≡ reached_figure high c j t i

  next_year : (t i : ℕ) → i < d.states → ((k : ℕ) → k < d.states → Same t k) → Dec (i ≡ j) → Same (suc t) i
  unfolding years_figure reached_figure
  next_year t i l before (yes e) =
      ap (share_figure high d j (suc t)) e
      ∙ own_share (suc t) (subst (λ k. k < d.states) e l)
      ∙ ap (λ b. cond b ONE (step_figure high c.states (c.row i) (reached_figure high c j t))) (sym (eq-eqb i j e))
  next_year t i l before (no other) =
      plain_figure (step_figure high d.states (d.row i) (share_figure high d j t))
      ∙ step_agrees (others i l other) before high
      ∙ ap (λ n. step_figure high n (c.row i) (reached_figure high c j t)) states
      ∙ ap (λ b. cond b ONE (step_figure high c.states (c.row i) (reached_figure high c j t))) (sym (ne_eqb i j other))

  pub staying_share : (t i : ℕ) → i < d.states → Same t i
  unfolding years_figure reached_figure
  staying_share zero i l = refl
  staying_share (suc t) i l = next_year t i l (staying_share t) (ℕ_discrete i j)

-- Sums over a list of sequences: put one behind another, listed for each state, with a state in front, and filtered.
module _ (f : Sequence → Fraction) where
  sum_append : (xs ys : List Sequence) → sum_of f (xs ++ ys) ≡ sum_of f xs ⊕ sum_of f ys
  unfolding sum_of
  sum_append [] ys = sym (zero_add (sum_of f ys))
  sum_append (x ∷ xs) ys = ap (λ s. f x ⊕ s) (sum_append xs ys) ∙ sym (add_assoc (f x) (sum_of f xs) (sum_of f ys))

  sum_each : (n : ℕ) (lists : ℕ → List Sequence) → sum_of f (each_of n lists) ≡ sum_fractions n (λ k. sum_of f (lists k))
  unfolding sum_of each_of sum_fractions
  sum_each zero lists = refl
  sum_each (suc n) lists = sum_append (each_of n lists) (lists n) ∙ ap (λ s. s ⊕ sum_of f (lists n)) (sum_each n lists)

  sum_behind : (k : ℕ) (xs : List Sequence) → sum_of f (map (λ ks. k ∷ ks) xs) ≡ sum_of (λ ks. f (k ∷ ks)) xs
  unfolding sum_of
  sum_behind k [] = refl
  sum_behind k (x ∷ xs) = ap (λ s. f (k ∷ x) ⊕ s) (sum_behind k xs)

  sum_filter : (test : Sequence → Bool) (xs : List Sequence) → sum_of f (filter test xs) ≡ sum_of (λ ks. cond (test ks) (f ks) (whole 0)) xs
  unfolding sum_of filter
  sum_filter test [] = refl
  sum_filter test (x ∷ xs) = by (test x) ∙ ap (λ s. cond (test x) (f x) (whole 0) ⊕ s) (sum_filter test xs)
    where
      by : (b : Bool) → sum_of f (cond b (x ∷ filter test xs) (filter test xs)) ≡ cond b (f x) (whole 0) ⊕ sum_of f (filter test xs)
      by true = refl
      by false = sym (zero_add (sum_of f (filter test xs)))

-- The nested sum is the sum over the list of all sequences.
pub listed : (n m : ℕ) (f : Sequence → Fraction) → sum_sequences n m f ≡ sum_of f (sequences n m)
unfolding sum_sequences sequences sum_of
listed n zero f = sym (zero_add (f [])) ∙ add_comm (whole 0) (f [])
listed n (suc m) f =
    sum_eq n (λ k. sum_sequences n m (λ ks. f (k ∷ ks))) (λ k. sum_of f (map (λ ks. k ∷ ks) (sequences n m)))
    (λ k. listed n m (λ ks. f (k ∷ ks)) ∙ sym (sum_behind f k (sequences n m)))
    ∙ sym (sum_each f n (λ k. map (λ ks. k ∷ ks) (sequences n m)))

-- So the exact chance is a filter over that list.
pub reached_filter : (n j : ℕ) (ps : List Matrix) (i : ℕ)
    → exact_reached n j ps i ≡ sum_of (along ps) (filter (λ ks. begins_at i ks && holds j ks) (sequences n (suc (length ps))))
unfolding exact_reached
reached_filter n j ps i =
    listed n (suc (length ps)) (λ ks. cond (begins_at i ks && holds j ks) (along ps ks) (whole 0))
    ∙ sym (sum_filter (along ps) (λ ks. begins_at i ks && holds j ks) (sequences n (suc (length ps))))

-- Each sequence of m states out of n is counted, and once.
pub counted_once : (n m : ℕ) (f : Sequence → Fraction) (ls : Sequence) → SequenceOf n m ls → sum_sequences n m (λ ks. cond (same ks ls) (f ks) (whole 0)) ≡ f ls
unfolding sum_sequences same
counted_once n zero f [] empty = refl
counted_once n zero f (l ∷ ls) w = elim w [ ]
counted_once n (suc m) f [] w = elim w [ ]
counted_once n (suc m) f (l ∷ ls) (more g w) = first_fixed n m (λ k ks. same ks ls) f l g ∙ counted_once n m (λ ks. f (l ∷ ks)) ls w
