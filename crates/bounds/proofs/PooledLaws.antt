-- The loop over a book: count times figure and the counts are summed, no sum is too large, and the one over the other, rounded, is the pooled figure.
-- Assumes nothing.
use Prim.Native.Nat.{ℕ, ◌+◌, ◌*◌, ◌≤◌, ◌<◌}
use mathlib.Core.Path.{◌≡◌, ap, ap₂}
use mathlib.Core.Bool.{Bool}
use mathlib.Core.List.{List}
use native.Mathlib.Nat.{mul-le-mul}
use native.Mathlib.Omega.{arith}
use Rattle.setchain.specs.Sums.{at, sum_to, dot}
use Rattle.setchain.specs.Rounding.{rounded}
use Rattle.setchain.specs.Years.{CENT}
use Rattle.setchain.specs.Pooled.{pooled_figure}
use Rattle.setchain.proofs.Laws.Sums.{sum_to_most, total_start, total_more, total_end}
use Rattle.step_spec.specs.StepAnswer.{MOST_PAYOFF}
use Rattle.bounds.specs.Pooled.{PoolPre}

-- Of n classes those before place i are summed: count times figure, and the counts.
pub record Weighed (n : ℕ) (book figures : List ℕ) (i sum chambers : ℕ) : Type 0 where
  pub inside : i ≤ n
  pub weighed : sum ≡ dot i (at book) (at figures)
  pub counted : chambers ≡ sum_to i (at book)

pub weighed_none : {n : ℕ} {book figures : List ℕ} → Weighed n book figures 0 0 0
weighed_none {book = book} {figures = figures} =
    record { inside = omega arith; weighed = total_start (λ j. at book j * at figures j); counted = total_start (at book) }

module _ {n units : ℕ} {book figures : List ℕ} (w : PoolPre n units book figures) {i sum chambers : ℕ} (d : Weighed n book figures i sum chambers) where
  term_most : (j : ℕ) → j < n → at book j * at figures j ≤ 1000000 * MOST_PAYOFF
  term_most j l = mul-le-mul (w.counts j l) (w.small j l)

  -- No sum and no product is too large.
  pub product_most : {count : ℕ} → i < n → count ≡ at book i → count * at figures i ≤ 1000000 * MOST_PAYOFF
  product_most l e = omega (arith, ap (λ x. x * at figures i) e, term_most i l)

  pub sum_most : sum ≤ 32 * (1000000 * MOST_PAYOFF)
  sum_most =
      omega (
        arith,
        d.weighed,
        d.inside,
        w.few,
        sum_to_most i (λ j. at book j * at figures j) (1000000 * MOST_PAYOFF) (λ j l. term_most j (omega (arith, d.inside))),
      )

  pub chambers_most : chambers ≤ 32 * 1000000
  chambers_most = omega (arith, d.counted, d.inside, w.few, sum_to_most i (at book) 1000000 (λ j l. w.counts j (omega (arith, d.inside))))

  pub unit_most : units * chambers ≤ CENT * (32 * 1000000)
  unit_most = mul-le-mul w.within chambers_most

  pub weighed_more : {count : ℕ} → i < n → count ≡ at book i → Weighed n book figures (i + 1) (sum + count * at figures i) (chambers + count)
  weighed_more {count} l e =
      record {
        inside = omega arith;
        weighed = total_more i sum (count * at figures i) (λ j. at book j * at figures j) d.weighed (ap (λ x. x * at figures i) e);
        counted = total_more i chambers count (at book) d.counted e;
      }

  -- All have been summed.
  pub weighed_all : (high : Bool) → n ≤ i → rounded high (units * chambers) sum ≡ pooled_figure high units n (at book) (at figures)
  weighed_all high h =
      let all : i ≡ n = omega (arith, d.inside) in
      ap₂ (λ x y. rounded high (units * x) y)
      (total_end i n chambers (at book) all d.counted)
      (total_end i n sum (λ j. at book j * at figures j) all d.weighed)
