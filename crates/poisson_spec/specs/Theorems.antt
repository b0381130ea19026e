-- What the table, the values and the bands are held to (document 02, item 10).
use Rattle.std.specs.Prelude.{ℕ, suc, ◌+◌, ◌≤◌, ◌<◌, ◌≡◌, Bool, true, false}
use Rattle.std.proofs.Common.{ap, sym, ◌∙◌, subst, arith, le_of_lt, mul-one}
use Rattle.std.proofs.Math.Nat.{pow-zero}
use Rattle.setchain.specs.Sums.{at}
use Rattle.poisson_spec.specs.Series.{added_parts, taken_parts, Bounds, Exceeds}
use Rattle.poisson_spec.specs.Exponentials.{entry_at}
use Rattle.poisson_spec.specs.Values.{value}
use Rattle.poisson_spec.specs.Answer.{bands_cause, bands_answer, BandsPromise}
use Rattle.poisson_spec.specs.Laws.Series.{over_zero}
use Rattle.poisson_spec.specs.Laws.Table.{entry_cut}
use Rattle.poisson_spec.specs.Laws.Values.{claimed_by, free_by, used_by, end_bound}
use Rattle.poisson_spec.specs.Laws.Answer.{no_cause, answered_ends, ends_answered, end_at, end_value}
use Rattle.poisson_spec.specs.Laws.Exact.{exact_bound, exact_exceeds, between}

-- "A table of 1,001 entries holds ONE times e to minus f/1000, rounded down", by the series cut after any power from 19 on.
pub record EntryOf (f n entry : ℕ) : Type 0 where
  pub at_most : Bounds false f n 0 entry
  pub next : Exceeds f n 0 (entry + 1)

module _ (f n : ℕ) (small : f ≤ 1000) (cut : 19 ≤ n) where
  pub rounded_down : EntryOf f n (entry_at f)
  rounded_down =
      let down = entry_cut f n small cut in
      record {
        at_most = exact_bound f n 0 false (entry_at f) (simp (pow-zero, over_zero, mul-one) down.under);
        next = exact_exceeds f n 0 (entry_at f + 1) (simp (pow-zero, over_zero, mul-one) down.above);
      }

  -- No other number is.
  pub entry_only : (entry : ℕ) → EntryOf f n entry → entry ≡ entry_at f
  entry_only entry e =
      let low = between entry (entry_at f + 1) (added_parts f n 0) (taken_parts f n 0) e.at_most rounded_down.next in
      let high = between (entry_at f) (entry + 1) (added_parts f n 0) (taken_parts f n 0) rounded_down.at_most e.next in
      omega arith

-- "Its rule is held once over the table: an entry is at most ONE times the exponential series of −f/1000 cut after the 19th power, and the
-- entry plus 1 is at least ONE times that cut after the 20th."
pub record TableRule (f entry : ℕ) : Type 0 where
  pub at_most : Bounds false f 19 0 entry
  pub at_least : Bounds true f 20 0 (entry + 1)

pub table_rule : (f : ℕ) → f ≤ 1000 → TableRule f (entry_at f)
table_rule f small =
    let down = entry_cut f 20 small (omega arith) in
    record {
      at_most = (rounded_down f 19 small (omega arith)).at_most;
      at_least = exact_bound f 20 0 true (entry_at f + 1) (simp (pow-zero, over_zero, mul-one) (le_of_lt down.above));
    }

-- "The exact probability formed with such a cut, at either frequency, must lie in the band for every column but the last."
pub bands_promise : (first second m : ℕ) → let answer = bands_answer first second m in BandsPromise first second m answer.number answer.lower answer.upper
unfolding bands_answer
bands_promise first second m = record { lowers = within false; uppers = within true }
  where
    within : (high : Bool) → bands_cause first second m ≡ 0 → (f n k : ℕ) → first ≤ f → f ≤ second → 19 ≤ n → suc k < m
        → Bounds high f n k (at (answered_ends first second m high) k)
    within high z f n k l h cut few =
        let asked = no_cause first second m z in
        let claimed = claimed_by high first second in
        let free = free_by high first second in
        let end = ap (λ ends. at ends k) (ends_answered first second m high z) ∙ end_at high claimed free m k (omega arith) asked.columns ∙ end_value high claimed free m k few in
        subst (Bounds high f n k) (sym end) (exact_bound f n k high (value high (used_by high first second k) k) (end_bound high first second f n k l h asked.small cut))
