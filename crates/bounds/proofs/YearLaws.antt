-- A year: its states filled along the order, and the figures that the sums make.
-- Assumes nothing.
use Prim.Native.Nat.{ℕ, suc, min, ◌+◌, ◌-◌, ◌*◌, ◌≤◌, ◌<◌}
use mathlib.Core.Path.{◌≡◌, refl, ap, sym, ◌∙◌, subst}
use mathlib.Core.Bool.{Bool}
use mathlib.Core.List.{List, ◌++◌}
use native.Mathlib.Omega.{arith}
use native.Mathlib.Numerals.{add-one}
use lib.ListN.{length, take, length-append, get_or-append, get_or-replicate}
use lib.Seq.{length-take-le, get_or-take, take_at}
use mir.Syntax.{w64}
use mir.Val.{Fits}
use Rattle.setchain.specs.Rows.{ONE, IntervalRow, SoundRow}
use Rattle.setchain.specs.Rounding.{rounded}
use Rattle.setchain.specs.Step.{capacity, step_figure}
use Rattle.order.specs.Order.{along, Permutation, SortedPermutation}
use Rattle.order.proofs.Laws.Written.{Rewritten}
use Rattle.order.proofs.Laws.Along.{along_length, along_permutation}
use Rattle.order.proofs.Laws.Numbers.{state_of_lem}
use Rattle.order.specs.States.{state_of}
use Rattle.setchain.specs.Sums.{at}
use Rattle.step_spec.specs.StepAnswer.{MOST_PAYOFF}
use Rattle.bounds.specs.Entries.{lower_ends, capacities, counts, sum_of, list_sum, listed_row, chain_listed, SoundLists}
use Rattle.bounds.specs.Fill.{Small, left_at, sum_at, taken, FillStatePre, FillStatePost, FillStatesPre, FillStatesPost, RoundSumsPre, RoundSumsPost}
use Rattle.bounds.specs.Years.{YearPre, YearPost}
use Rattle.setchain.proofs.Laws.Agreeing.{agree_refl, step_agrees}
use Rattle.setchain.proofs.Laws.Rounding.{rounded_at_most}
use Rattle.bounds.proofs.FillStateLaws.{entry_in}
use Rattle.bounds.proofs.FillStatesLaws.{sum_fits, filled_figure}
use Rattle.bounds.proofs.FrontLaws.{zeros}

-- What a figure is made of: the gain, and the sum rounded.
abbrev pub figure_of : (gain : List ℕ) → (high : Bool) → ℕ → ℕ → ℕ
figure_of gain high k sum = at gain k + rounded high ONE sum

module _ {gain : List ℕ} (high : Bool) {sums figures : List ℕ} {i : ℕ} (able : RoundSumsPre gain sums)
    (w : Rewritten (length gain) (figure_of gain high) sums figures i) where
  pub figure_fits : {r : ℕ} → i < length gain → r ≡ rounded high ONE (at figures i) → Fits w64 (at gain i + r)
  figure_fits more is =
      let sum : at figures i ≤ MOST_PAYOFF * ONE = omega (arith, w.rest i (omega arith), able.fits i more) in
      omega (arith, is, able.gains i more, rounded_at_most ONE (omega arith) high (at figures i) MOST_PAYOFF sum)

  pub figures_all : length gain ≤ i → RoundSumsPost gain high sums figures
  figures_all h = record { size = w.size; each = λ k l. w.done k (omega arith) }

-- The states at the places below k are filled.
pub record StatesFilled (entries payoff order left left' sums : List ℕ) (k : ℕ) : Type 0 where
  pub inside : k ≤ length payoff
  pub left_size : length left' ≡ length payoff
  pub size : length sums ≡ length payoff
  pub rest : (i : ℕ) → i < length payoff → at left' i ≡ left_at (listed_row entries i) order (at left i) k
  pub sum : (i : ℕ) → i < length payoff → at sums i ≡ sum_at (listed_row entries i) (at payoff) order (at left i) k

module _ {entries payoff order left sums₀ : List ℕ} (able : FillStatesPre entries payoff order left sums₀) where
  pub states_none : StatesFilled entries payoff order left left sums₀ 0
  unfolding left_at sum_at
  states_none = record { inside = omega arith; left_size = able.left_size; size = able.size; rest = λ i l. refl; sum = able.none }

  fits : (i : ℕ) → i < length payoff → (k : ℕ) → k ≤ length payoff → sum_at (listed_row entries i) (at payoff) order (at left i) k ≤ MOST_PAYOFF * ONE
  fits i l = sum_fits (length payoff) (listed_row entries i) (at payoff) order (at left i) able.permutation (able.lists.whole i l) able.small

  module _ {left' sums : List ℕ} {k : ℕ} (w : StatesFilled entries payoff order left left' sums k) (more : k < length payoff)
      {j : ℕ} (here : j ≡ at order k - 1) where
    pub state_inside : j < length payoff
    state_inside = omega (arith, able.permutation.within k more)

    pub list_short : at entries (counts + j) ≤ 32
    list_short = able.lists.lists.short j state_inside

    count_is : j * 32 + at entries (counts + j) - j * 32 ≡ at entries (counts + j)
    count_is = omega arith

    -- What row i takes is what its sum has.
    one_more : (i : ℕ) → i < length payoff
        → sum_at (listed_row entries i) (at payoff) order (at left i) (suc k) ≡ at sums i + taken entries (j * 32) (j * 32 + at entries (counts + j)) left' i * at payoff j
    unfolding sum_at
    one_more i l =
        rw (count_is, here)
        (let r : IntervalRow = listed_row entries i in
        let m : capacity r (at order k - 1) ≡ list_sum entries capacities (at order k - 1) i = omega arith in
        omega (
          arith,
          w.sum i l,
          ap (λ x. (r.lower (at order k - 1) + min x (capacity r (at order k - 1))) * at payoff (at order k - 1)) (w.rest i l),
          ap (λ x. (r.lower (at order k - 1) + min (at left' i) x) * at payoff (at order k - 1)) m,
        ))

    left_more : (i : ℕ) → i < length payoff
        → left_at (listed_row entries i) order (at left i) (suc k) ≡ at left' i - sum_of entries capacities (j * 32) (j * 32 + at entries (counts + j) - j * 32) i
    unfolding left_at
    left_more i l = rw (count_is, here) (omega (arith, w.rest i l))

    entry_small : (e : ℕ) → j * 32 ≤ e → e < j * 32 + at entries (counts + j) → at entries (lower_ends + e) + at entries (capacities + e) ≤ ONE
    entry_small e a b =
        let i : at entries e < length payoff = able.lists.lists.rows e (omega (arith, state_inside, list_short, able.lists.states)) in
        omega (
          arith,
          entry_in entries lower_ends (j * 32) (at entries (counts + j)) e a b,
          entry_in entries capacities (j * 32) (at entries (counts + j)) e a b,
          (able.lists.sound (at entries e) i).capped j state_inside,
        )

    pub state_fills : FillStatePre entries (j * 32) (j * 32 + at entries (counts + j)) (at payoff j) left' sums
    state_fills =
        record {
          size = w.size ∙ sym w.left_size;
          rows = λ e l. omega (arith, able.lists.lists.rows e l, w.left_size);
          ordered = omega arith;
          inside = omega (arith, state_inside, list_short, able.lists.states);
          small = entry_small;
          fits = λ i l. omega (arith, one_more i (omega (arith, w.left_size)), fits i (omega (arith, w.left_size)) (suc k) more);
        }

    pub states_more : {left'' sums'' : List ℕ} → FillStatePost entries (j * 32) (j * 32 + at entries (counts + j)) (at payoff j) left' sums left'' sums''
        → StatesFilled entries payoff order left left'' sums'' (k + 1)
    states_more {left''} {sums''} g =
        record {
          inside = omega arith;
          left_size = g.left_size ∙ w.left_size;
          size = g.size ∙ w.left_size;
          rest = λ i l. rw add-one (g.rest i (omega (arith, w.left_size)) ∙ sym (left_more i l));
          sum = λ i l. rw add-one (g.more i (omega (arith, w.left_size)) ∙ sym (one_more i l));
        }

  pub states_all : {left' sums : List ℕ} {k : ℕ} → length payoff ≤ k → StatesFilled entries payoff order left left' sums k
      → FillStatesPost entries payoff order left sums
  states_all {k = k} h w =
      let e : k ≡ length payoff = omega (arith, w.inside) in
      let s = rw e at w.sum in
      record {
        size = w.size;
        each = s;
        fits = λ i l. omega (arith, s i l, fits i l (length payoff) (omega arith));
      }

-- The order as the code reads it: it has a place for each state, and what it reads at a place is that state.
module _ (high : Bool) (order : List ℕ) {entries payoff left sums : List ℕ} (able : FillStatesPre entries payoff (along high order) left sums) where
  pub places : length order ≡ length payoff
  places = sym (along_length high order) ∙ able.permutation.size

  pub state_read : {k class j : ℕ} → k < length order → class ≡ at (along high order) k → j ≡ state_of class → j ≡ at (along high order) k - 1
  state_read {k} inside read is = is ∙ ap state_of read ∙ state_of_lem _ (able.permutation.within k (omega (arith, places))).0

-- A year of n states, where figures, slack and sums stand at the fronts of arrays.
module _ {entries slack gain order before : List ℕ} (w : YearPre entries slack gain order before)
    (fits : length gain ≤ length before) where
  front_count : length (take (length gain) before) ≡ length gain
  front_count = length-take-le (length gain) before fits

  pub slack_count : length (take (length gain) slack) ≡ length gain
  slack_count = length-take-le (length gain) slack w.lists.slack_size

  zero_count : length (take (length gain) zeros) ≡ length gain
  zero_count = length-take-le (length gain) zeros w.lists.states

  slack_at : (i : ℕ) → i < length gain → at (take (length gain) slack) i ≡ at slack i
  slack_at i l = get_or-take (length gain) slack i 0 l

  module _ (high : Bool) {order' : List ℕ}
      (ranks : Permutation (length (take (length gain) before)) order → length (take (length gain) before) ≤ 128 → SortedPermutation (take (length gain) before) order') where
    -- The order has the classes by the figures before.
    by_payoff : SortedPermutation (take (length gain) before) order'
    by_payoff = ranks (subst (λ n. Permutation n order) (sym front_count) w.permutation) (omega (arith, front_count, w.lists.states))

    small : Small (length gain) (take (length gain) before)
    small j l = subst (λ x. x ≤ MOST_PAYOFF) (sym (get_or-take (length gain) before j 0 l)) (w.small j l)

    pub year_permutation : Permutation (length gain) order'
    year_permutation = subst (λ n. Permutation n order') front_count by_payoff.permutation

    pub year_fills : FillStatesPre entries (take (length gain) before) (along high order') (take (length gain) slack) (take (length gain) zeros)
    year_fills =
        record {
          lists =
              subst (λ n. SoundLists n entries (take (length gain) slack)) (sym front_count)
              (record {
                states = w.lists.states;
                lists = w.lists.lists;
                slack_size = omega (arith, slack_count);
                sound = w.lists.sound;
                whole = λ i l. omega (arith, w.lists.whole i l, slack_at i l);
              });
          permutation = along_permutation high order' by_payoff.permutation;
          small = λ j l. small j (omega (arith, front_count));
          left_size = slack_count ∙ sym front_count;
          size = zero_count ∙ sym front_count;
          none = λ i l.
              get_or-take (length gain) zeros i 0 (omega (arith, front_count)) ∙ get_or-replicate 32 i 0 0 (omega (arith, front_count, w.lists.states));
        }

    module _ {sums : List ℕ} (k : FillStatesPost entries (take (length gain) before) (along high order') (take (length gain) slack) sums) (rest : List ℕ) where
      sums_count : length sums ≡ length gain
      sums_count = k.size ∙ front_count

      pub sums_fit : length gain ≤ length (sums ++ rest)
      sums_fit = omega (arith, sums_count, length-append sums rest)

      lent : take (length gain) (sums ++ rest) ≡ sums
      lent = take_at sums rest (length gain) sums_count

      pub sums_size : length gain ≡ length (take (length gain) (sums ++ rest))
      sums_size = sym (length-take-le (length gain) (sums ++ rest) sums_fit)

      pub year_rounds : RoundSumsPre gain (take (length gain) (sums ++ rest))
      year_rounds =
          rw lent
          (record {
            size = sums_count;
            gains = w.gains;
            fits = λ i l. k.fits i (omega (arith, front_count));
          })

      pub year_figures : {figures : List ℕ} (rest' : List ℕ) → RoundSumsPost gain high (take (length gain) (sums ++ rest)) figures
          → YearPost (chain_listed (length gain) entries) gain before high (figures ++ rest')
      year_figures {figures} rest' s =
          record {
            each = λ i l.
                get_or-append figures rest' 0 i (omega (arith, s.size))
                ∙ s.each i l
                ∙ ap (λ x. at gain i + rounded high ONE (at x i)) lent
                ∙ ap (λ x. at gain i + rounded high ONE x) (k.each i (omega (arith, front_count)))
                ∙ ap (λ x. at gain i + x) (figure i l);
          }
        where
          figure : (i : ℕ) → i < length gain
              → rounded high ONE (sum_at (listed_row entries i) (at (take (length gain) before)) (along high order') (at (take (length gain) slack) i) (length (take (length gain) before)))
              ≡ step_figure high (length gain) (listed_row entries i) (at before)
          figure i l =
              filled_figure high (listed_row entries i) (take (length gain) before) order' (at (take (length gain) slack) i)
              (subst (λ n. SoundRow n (listed_row entries i)) (sym front_count) (w.lists.sound i l)) by_payoff
              (λ j m. small j (omega (arith, front_count)))
              (year_fills.lists.whole i (omega (arith, front_count)))
              ∙ ap (λ n. step_figure high n (listed_row entries i) (at (take (length gain) before))) front_count
              ∙ step_agrees (agree_refl (length gain) (listed_row entries i)) (λ j m. get_or-take (length gain) before j 0 m) high
