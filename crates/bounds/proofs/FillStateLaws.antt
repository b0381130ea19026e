-- One state filled, entry by entry: what slack each row has left, what its sum comes to, and that it fits.
-- Assumes nothing.
use Prim.Native.Nat.{ℕ, suc, min, ◌+◌, ◌-◌, ◌*◌, ◌≤◌, ◌<◌}
use mathlib.Core.Path.{◌≡◌, refl, ap, sym, ◌∙◌}
use mathlib.Core.List.{List}
use native.Mathlib.Decide.{ℕ_discrete}
use native.Mathlib.Nat.{le_refl, mul-le-mul_right}
use native.Mathlib.Omega.{arith}
use lib.Dec.{eqb}
use lib.ListN.{length, set, length-set}
use lib.Seq.{get_or-set_same, get_or-set_other}
use borrow.Author.Tests.{eq-eqb, ne_eqb}
use Rattle.setchain.specs.Sums.{at, sum_to, only_if}
use Rattle.setchain.specs.Rows.{ONE}
use Rattle.setchain.proofs.Laws.Sums.{only_if_true, only_if_false, sum_to_front, term_le}
use Rattle.step_spec.specs.StepAnswer.{MOST_PAYOFF}
use Rattle.bounds.specs.Entries.{lower_ends, capacities, sum_of}
use Rattle.bounds.specs.Fill.{taken, FillStatePre, FillStatePost}

-- No entry, and one entry more.
sum_none : (entries : List ℕ) (ends : ℕ) (first i : ℕ) → sum_of entries ends first (first - first) i ≡ 0
unfolding sum_to
sum_none entries ends first i = let e : first - first ≡ 0 = omega arith in ap (λ k. sum_of entries ends first k i) e

sum_more : (entries : List ℕ) (ends : ℕ) (first e i : ℕ) → first ≤ e
    → sum_of entries ends first (e + 1 - first) i ≡ sum_of entries ends first (e - first) i + only_if (eqb (at entries e) i) (at entries (ends + e))
unfolding sum_to
sum_more entries ends first e i h =
    let n : e + 1 - first ≡ suc (e - first) = omega arith in
    let p : first + (e - first) ≡ e = omega arith in
    ap (λ k. sum_of entries ends first k i) n
    ∙ ap (λ q. sum_of entries ends first (e - first) i + only_if (eqb (at entries q) i) (at entries (ends + q))) p

-- One entry is at most what its row has of the list.
pub entry_in : (entries : List ℕ) (ends : ℕ) (first count e : ℕ) → first ≤ e → e < first + count → at entries (ends + e) ≤ sum_of entries ends first count (at entries e)
entry_in entries ends first count e h l =
    let f : ℕ → ℕ = λ k. only_if (eqb (at entries (first + k)) (at entries e)) (at entries (ends + (first + k))) in
    let p : first + (e - first) ≡ e = omega arith in
    let term : f (e - first) ≡ at entries (ends + e) =
    ap (λ q. only_if (eqb (at entries q) (at entries e)) (at entries (ends + q))) p
    ∙ only_if_true (eqb (at entries e) (at entries e)) (at entries (ends + e)) (eq-eqb (at entries e) (at entries e) refl) in
    omega (arith, term, term_le count f (e - first) (omega arith))

-- The entries below place e are taken.
pub record EntriesTaken (entries : List ℕ) (first end payoff : ℕ) (left sums left' sums' : List ℕ) (e : ℕ) : Type 0 where
  pub begun : first ≤ e
  pub inside : e ≤ end
  pub filled : FillStatePost entries first e payoff left sums left' sums'

module _ {entries : List ℕ} {first end payoff : ℕ} {left sums : List ℕ} (able : FillStatePre entries first end payoff left sums) where
  pub entries_none : EntriesTaken entries first end payoff left sums left sums first
  entries_none =
      record {
        begun = le_refl first;
        inside = able.ordered;
        filled =
            record {
              left_size = refl;
              size = able.size;
              rest = λ i l. omega (arith, sum_none entries capacities first i);
              more = λ i l. more i;
            };
      }
    where
      more : (i : ℕ) → at sums i ≡ at sums i + taken entries first first left i * payoff
      more i =
          let z : taken entries first first left i ≡ 0 = omega (arith, sum_none entries lower_ends first i, sum_none entries capacities first i) in
          omega (arith, ap (λ x. x * payoff) z)

  module _ {left' sums' : List ℕ} {e : ℕ} (w : EntriesTaken entries first end payoff left sums left' sums' e) (further : e < end)
      {i : ℕ} (row : i ≡ at entries e) {given : ℕ} (is : given ≡ min (at entries (capacities + e)) (at left' i)) where
    pub row_inside : i < length left
    row_inside = rw row (able.rows e (omega (arith, able.inside)))

    -- The row's own entry counts, and no other row's does.
    own : (ends : ℕ) → sum_of entries ends first (e + 1 - first) i ≡ sum_of entries ends first (e - first) i + at entries (ends + e)
    own ends =
        omega (
          arith,
          sum_more entries ends first e i w.begun,
          only_if_true (eqb (at entries e) i) (at entries (ends + e)) (eq-eqb (at entries e) i (sym row)),
        )

    others : (ends : ℕ) (k : ℕ) → (k ≡ i → ⊥) → sum_of entries ends first (e + 1 - first) k ≡ sum_of entries ends first (e - first) k
    others ends k ne =
        omega (
          arith,
          sum_more entries ends first e k w.begun,
          only_if_false (eqb (at entries e) k) (at entries (ends + e)) (ne_eqb (at entries e) k (λ g. ne (sym (row ∙ g)))),
        )

    -- What the row has taken with this entry.
    taken_more : taken entries first (e + 1) left i ≡ taken entries first e left i + (at entries (lower_ends + e) + given)
    taken_more = omega (arith, own lower_ends, own capacities, is, w.filled.rest i row_inside)

    sums_now : at sums' i + (at entries (lower_ends + e) + given) * payoff ≡ at sums i + taken entries first (e + 1) left i * payoff
    sums_now = omega (arith, w.filled.more i row_inside, ap (λ x. x * payoff) taken_more)

    taken_front : taken entries first (e + 1) left i ≤ taken entries first end left i
    taken_front =
        omega (
          arith,
          sum_to_front (λ k. only_if (eqb (at entries (first + k)) i) (at entries (lower_ends + (first + k)))) (end - first) (e + 1 - first) (omega (arith, w.begun)),
          sum_to_front (λ k. only_if (eqb (at entries (first + k)) i) (at entries (capacities + (first + k)))) (end - first) (e + 1 - first) (omega (arith, w.begun)),
        )

    pub entry_fits : at sums' i + (at entries (lower_ends + e) + given) * payoff ≤ MOST_PAYOFF * ONE
    entry_fits = omega (arith, sums_now, mul-le-mul_right payoff taken_front, able.fits i row_inside)

    pub entries_more : EntriesTaken entries first end payoff left sums
        (set left' i (at left' i - given)) (set sums' i (at sums' i + (at entries (lower_ends + e) + given) * payoff)) (e + 1)
    entries_more =
        record {
          begun = omega (arith, w.begun);
          inside = omega arith;
          filled =
              record {
                left_size = length-set left' i (at left' i - given) ∙ w.filled.left_size;
                size = length-set sums' i (at sums' i + (at entries (lower_ends + e) + given) * payoff) ∙ w.filled.size;
                rest = λ k l. rest k l (ℕ_discrete k i);
                more = λ k l. more k l (ℕ_discrete k i);
              };
        }
      where
        rest : (k : ℕ) → k < length left → Dec (k ≡ i) → at (set left' i (at left' i - given)) k ≡ at left k - sum_of entries capacities first (e + 1 - first) k
        rest k l (yes g) =
            rw g
            (get_or-set_same left' i (at left' i - given) 0 (omega (arith, row_inside, w.filled.left_size))
            ∙ omega (arith, own capacities, is, w.filled.rest i row_inside))
        rest k l (no ne) = get_or-set_other left' i k (at left' i - given) 0 ne ∙ omega (arith, others capacities k ne, w.filled.rest k l)

        more : (k : ℕ) → k < length left → Dec (k ≡ i)
            → at (set sums' i (at sums' i + (at entries (lower_ends + e) + given) * payoff)) k ≡ at sums k + taken entries first (e + 1) left k * payoff
        more k l (yes g) =
            rw g
            (get_or-set_same sums' i (at sums' i + (at entries (lower_ends + e) + given) * payoff) 0 (omega (arith, row_inside, w.filled.size)) ∙ sums_now)
        more k l (no ne) =
            let t : taken entries first (e + 1) left k ≡ taken entries first e left k = omega (arith, others lower_ends k ne, others capacities k ne) in
            get_or-set_other sums' i k (at sums' i + (at entries (lower_ends + e) + given) * payoff) 0 ne
            ∙ w.filled.more k l
            ∙ ap (λ x. at sums k + x * payoff) (sym t)

    -- The same of the parts that the row gets with this entry, its lower end and what is given.
    module _ {parts : ℕ} (are : parts ≡ at entries (lower_ends + e) + given) where
      pub parts_fit : at sums' i + parts * payoff ≤ MOST_PAYOFF * ONE
      parts_fit = rw are entry_fits

      pub parts_more : EntriesTaken entries first end payoff left sums (set left' i (at left' i - given)) (set sums' i (at sums' i + parts * payoff)) (e + 1)
      parts_more = rw are entries_more

  pub entries_all : {left' sums' : List ℕ} {e : ℕ} → end ≤ e → EntriesTaken entries first end payoff left sums left' sums' e
      → FillStatePost entries first end payoff left sums left' sums'
  entries_all {e = e} h w = let g : e ≡ end = omega (arith, w.inside) in rw g at w.filled
