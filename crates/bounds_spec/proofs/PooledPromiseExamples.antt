-- What the promises of pooled figures forbid on Example A (document 02, item 7): bounds that are too wide, too tight, or of one class alone.
use Rattle.std.specs.Prelude.{ℕ, ◌≡◌, refl, List, [], ◌∷◌}
use Rattle.std.proofs.Common.{arith}
use Rattle.setchain.specs.Sums.{sum_to}
use Rattle.setchain.specs.Tests.{any_below}
use Rattle.setchain.specs.Fractions.{whole, ◌≼◌, ◌≺◌, Proper}
use Rattle.setchain.specs.Picks.{Matrix, PicksFor}
use Rattle.setchain.specs.Promise.{cent_and_tenths}
use Rattle.setchain.proofs.Kept.{Pinned, pinned_no_further, pinned_nearer}
use Rattle.scheme.specs.declared.Scheme.{Scheme}
use Rattle.scheme.specs.Cause.{size_out, start_out, horizon_out, rule_out, band_out, sum_out, premium_out, cause_of}
use Rattle.scheme.specs.Rows.{chain_of}
use Rattle.scheme.proofs.Examples.{scheme_a}
use Rattle.scheme.proofs.Laws.Judged.{accepted_cause}
use Rattle.book_spec.specs.Book.{count_out, no_chamber}
use Rattle.bounds_spec.specs.Answers.{Answered}
use Rattle.bounds_spec.specs.Pooled.{Figure, pooled_cause, exact_of, PooledKept, PooledPromise, PooledSheetPromise}
use Rattle.bounds_spec.proofs.BookExamples.{pooled_a}
use Rattle.bounds_spec.proofs.Laws.Pooled.{of_pooled, counts_of, figure_proper, pooled_kept}

-- Two chambers in class 1 of Example A and one in class 2, with junk beyond.
abbrev book_a : List ℕ
book_a = 2 ∷ 1 ∷ 4294967295 ∷ []

-- A book without a cause: no exact figure of it has the denominator 0.
proper : (s : Scheme) (book : List ℕ) (figure : Figure) (t : ℕ) → pooled_cause s book figure t ≡ 0 → (ps : List Matrix) → PicksFor (chain_of s) t ps → Proper (exact_of s book figure ps)
proper s book figure t z ps picks = figure_proper s (accepted_cause s (of_pooled s book figure t z)) t ps picks book (counts_of s book figure t z) figure

-- Example A's own pooled figures keep their promises, and what else keeps them is no further than 3 parts from these, and nearer than one cent plus 2 tenths.
module _ {low high : ℕ} where
  share_pinned : PooledKept scheme_a book_a (Figure.share 1) 2 low high → Pinned ◌≼◌ (whole 3) 935000000 996666667 low high
  unfolding count_out no_chamber cause_of size_out start_out horizon_out rule_out band_out sum_out premium_out any_below sum_to
  share_pinned = pinned_no_further (proper scheme_a book_a (Figure.share 1) 2 refl) (rw pooled_a.share1 at (pooled_kept scheme_a book_a (Figure.share 1) 2) refl)

  second_pinned : PooledKept scheme_a book_a (Figure.share 2) 2 low high → Pinned ◌≼◌ (whole 3) 3333333 65000000 low high
  unfolding count_out no_chamber cause_of size_out start_out horizon_out rule_out band_out sum_out premium_out any_below sum_to
  second_pinned = pinned_no_further (proper scheme_a book_a (Figure.share 2) 2 refl) (rw pooled_a.share2 at (pooled_kept scheme_a book_a (Figure.share 2) 2) refl)

  mean_pinned : PooledKept scheme_a book_a Figure.mean 2 low high → Pinned ◌≺◌ (cent_and_tenths 2) 10016 10325 low high
  unfolding count_out no_chamber cause_of size_out start_out horizon_out rule_out band_out sum_out premium_out any_below sum_to
  mean_pinned = pinned_nearer (proper scheme_a book_a Figure.mean 2 refl) (rw pooled_a.mean at (pooled_kept scheme_a book_a Figure.mean 2) refl)

  total_pinned : PooledKept scheme_a book_a Figure.total 2 low high → Pinned ◌≺◌ (cent_and_tenths 2) 21833 22167 low high
  unfolding count_out no_chamber cause_of size_out start_out horizon_out rule_out band_out sum_out premium_out any_below sum_to
  total_pinned = pinned_nearer (proper scheme_a book_a Figure.total 2 refl) (rw pooled_a.total at (pooled_kept scheme_a book_a Figure.total 2) refl)

-- The pooled share of class 1, mean and total of year 2: what may not be answered.
pub record ForbiddenPooled : Type 0 where
  -- 4 parts too wide, and 4 parts too tight; in a share sheet too.
  pub share_wide : (PooledPromise scheme_a book_a (Figure.share 1) 2 (Answered 934999996 996666667) → ⊥) × (PooledPromise scheme_a book_a (Figure.share 1) 2 (Answered 935000000 996666671) → ⊥)
  pub share_tight : (PooledPromise scheme_a book_a (Figure.share 1) 2 (Answered 935000004 996666667) → ⊥) × (PooledPromise scheme_a book_a (Figure.share 1) 2 (Answered 935000000 996666663) → ⊥)
  pub sheet_low : PooledSheetPromise scheme_a book_a 2 0 (934999996 ∷ 3333333 ∷ []) (996666667 ∷ 65000000 ∷ []) → ⊥
  pub sheet_high : PooledSheetPromise scheme_a book_a 2 0 (935000000 ∷ 3333333 ∷ []) (996666671 ∷ 65000000 ∷ []) → ⊥
  pub sheet_second : PooledSheetPromise scheme_a book_a 2 0 (935000000 ∷ 3333329 ∷ []) (996666667 ∷ 65000000 ∷ []) → ⊥
  -- The figures of class 1 alone, and of the start class.
  pub class1 : PooledPromise scheme_a book_a (Figure.share 1) 2 (Answered 942500000 1000000000) → ⊥
  pub start : PooledPromise scheme_a book_a (Figure.share 1) 2 (Answered 920000000 990000000) → ⊥
  -- 2 cents too wide, and 2 cents too tight.
  pub mean_wide : (PooledPromise scheme_a book_a Figure.mean 2 (Answered 10014 10325) → ⊥) × (PooledPromise scheme_a book_a Figure.mean 2 (Answered 10016 10327) → ⊥)
  pub mean_tight : (PooledPromise scheme_a book_a Figure.mean 2 (Answered 10018 10325) → ⊥) × (PooledPromise scheme_a book_a Figure.mean 2 (Answered 10016 10323) → ⊥)
  pub total_wide : (PooledPromise scheme_a book_a Figure.total 2 (Answered 21831 22167) → ⊥) × (PooledPromise scheme_a book_a Figure.total 2 (Answered 21833 22169) → ⊥)
  pub total_tight : (PooledPromise scheme_a book_a Figure.total 2 (Answered 21835 22167) → ⊥) × (PooledPromise scheme_a book_a Figure.total 2 (Answered 21833 22165) → ⊥)

pub forbidden_pooled : ForbiddenPooled
forbidden_pooled =
    record {
      share_wide = (λ h. omega (arith, (share_pinned (h refl)).low_below), λ h. omega (arith, (share_pinned (h refl)).high_above));
      share_tight = (λ h. omega (arith, (share_pinned (h refl)).low_above), λ h. omega (arith, (share_pinned (h refl)).high_below));
      sheet_low = λ h. omega (arith, (share_pinned (h refl 0 (omega arith))).low_below);
      sheet_high = λ h. omega (arith, (share_pinned (h refl 0 (omega arith))).high_above);
      sheet_second = λ h. omega (arith, (second_pinned (h refl 1 (omega arith))).low_below);
      class1 = λ h. omega (arith, (share_pinned (h refl)).low_above);
      start = λ h. omega (arith, (share_pinned (h refl)).low_below);
      mean_wide = (λ h. omega (arith, (mean_pinned (h refl)).low_below), λ h. omega (arith, (mean_pinned (h refl)).high_above));
      mean_tight = (λ h. omega (arith, (mean_pinned (h refl)).low_above), λ h. omega (arith, (mean_pinned (h refl)).high_below));
      total_wide = (λ h. omega (arith, (total_pinned (h refl)).low_below), λ h. omega (arith, (total_pinned (h refl)).high_above));
      total_tight = (λ h. omega (arith, (total_pinned (h refl)).low_above), λ h. omega (arith, (total_pinned (h refl)).high_below));
    }
