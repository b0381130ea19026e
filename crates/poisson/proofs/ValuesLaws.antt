-- The ends of one side, filled column by column: what stands in the locals after k columns with claims.
-- Assumes nothing.
use Prim.Native.Nat.{ℕ, suc, min, ◌+◌, ◌-◌, ◌≤◌, ◌<◌}
use mathlib.Core.Path.{◌≡◌, ap, sym, ◌∙◌}
use mathlib.Core.Bool.{Bool, true, false, not, cond}
use mathlib.Core.List.{List}
use native.Mathlib.Omega.{arith}
use native.Mathlib.Numerals.{add-one}
use lib.ListN.{replicate, set}
use borrow.Author.Tests.{ne_eqb}
use Rattle.setchain.specs.Sums.{sum_to}
use Rattle.setchain.specs.Rows.{ONE}
use Rattle.setchain.proofs.Laws.Sums.{sum_to_most}
use Rattle.scheme.specs.Tables.{tab}
use Rattle.scheme.specs.Stored.{up_to}
use Rattle.scheme.proofs.Laws.Stored.{stored_none, stored_more}
use Rattle.poisson_spec.specs.Exponentials.{entry_at}
use Rattle.poisson_spec.specs.Values.{value_from, value}
use Rattle.poisson_spec.specs.Bands.{end_of, ends_of}
use Rattle.poisson_spec.specs.Laws.Table.{entry_most}
use Rattle.poisson_spec.specs.Laws.Values.{value_most}
use Rattle.poisson_spec.specs.Laws.Answer.{end_value, end_last}

-- The value for no claim, by its kind.
module _ (f entry : ℕ) (e : entry ≡ entry_at f) where
  pub start_low : entry ≡ value false f 0
  unfolding value_from
  start_low = e

  pub start_high : entry < ONE → entry + 1 ≡ value true f 0
  unfolding value_from
  start_high h = omega arith

  pub start_most : f ≤ 1000 → ONE ≤ entry → entry ≡ value true f 0
  unfolding value_from
  start_most small h = omega (arith, entry_most f small)

  -- The same two cases as one least number.
  pub start_least : min ONE (entry + 1) ≡ value true f 0
  unfolding value_from
  start_least = ap (λ x. min ONE (x + 1)) e

-- Up to k claims the ends are written, and so far the values of the other kind are summed.
pub record Run (high : Bool) (claimed free columns : ℕ) (out : List ℕ) (own other sum k : ℕ) : Type 0 where
  pub inside : k + 2 ≤ columns
  pub own_is : own ≡ value high claimed k
  pub other_is : other ≡ value (not high) claimed k
  pub sum_is : sum ≡ sum_to (suc k) (value (not high) claimed)
  pub filled : out ≡ tab 8 (up_to (k + 1) (end_of high claimed free columns))

module _ {high : Bool} {claimed free columns : ℕ} where
  pub run_start : {x own other : ℕ} → 2 ≤ columns → x ≡ value high free 0 → own ≡ value high claimed 0 → other ≡ value (not high) claimed 0
      → Run high claimed free columns (set (replicate 8 0) 0 x) own other other 0
  unfolding sum_to
  run_start {x} {own} {other} several e is other_is =
      record {
        inside = omega arith;
        own_is = is;
        other_is = other_is;
        sum_is = omega arith;
        filled =
            stored_more 8 0 (end_of high claimed free columns) (replicate 8 0) x (omega arith) (stored_none 8 (end_of high claimed free columns))
            (e ∙ sym (end_value high claimed free columns 0 (omega arith)));
      }

  module _ {out : List ℕ} {own other sum k : ℕ} (w : Run high claimed free columns out own other sum k) (most : columns ≤ 8) where
    pub sum_most : claimed ≤ 1000 → sum ≤ 7000000000
    sum_most small =
        omega (arith, w.inside, w.sum_is, sum_to_most (suc k) (value (not high) claimed) ONE (λ j l. value_most claimed small (not high) j))

    pub run_more : {own' other' : ℕ} → k + 2 < columns → own' ≡ value high claimed (suc k) → other' ≡ value (not high) claimed (suc k)
        → Run high claimed free columns (set out (k + 1) own') own' other' (sum + other') (k + 1)
    unfolding sum_to
    run_more {own'} {other'} more is other_is =
        record {
          inside = omega arith;
          own_is = rw add-one is;
          other_is = rw add-one other_is;
          sum_is = rw add-one (omega (arith, w.sum_is));
          filled = stored_more 8 (k + 1) (end_of high claimed free columns) out own' (omega arith) w.filled (rw add-one (is ∙ end));
        }
      where
        end : value high claimed (suc k) ≡ end_of high claimed free columns (suc k)
        end =
            sym (end_value high claimed free columns (suc k) (omega arith) ∙ ap (λ b. value high (cond b free claimed) (suc k)) (ne_eqb (suc k) 0 (λ z. omega arith)))

    pub run_end : {x : ℕ} → columns ≤ k + 2 → x ≡ ONE - sum → set out (k + 1) x ≡ ends_of high claimed free columns
    unfolding ends_of
    run_end {x} all e =
        stored_more 8 (k + 1) (end_of high claimed free columns) out x (omega arith) w.filled (e ∙ last)
        ∙ let is : k + 1 + 1 ≡ columns = omega (arith, w.inside) in ap (λ n. tab 8 (up_to n (end_of high claimed free columns))) is
      where
        before : suc k ≡ columns - 1
        before = omega (arith, w.inside)

        last : ONE - sum ≡ end_of high claimed free columns (k + 1)
        last =
            ap (λ n. ONE - n) w.sum_is ∙ ap (λ n. ONE - sum_to n (value (not high) claimed)) before
            ∙ sym (end_last high claimed free columns (k + 1) (omega (arith, w.inside)))
