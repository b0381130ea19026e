-- What the promise of a chance forbids, on Example A (document 02, item 9): bounds that are too wide or too tight, and those of other questions; and what a rise forbids.
use Rattle.std.specs.Prelude.{ℕ, refl}
use Rattle.std.proofs.Common.{arith}
use Rattle.setchain.specs.Fractions.{whole, ◌≼◌}
use Rattle.setchain.specs.Rows.{ONE}
use Rattle.setchain.proofs.Kept.{Pinned, pinned_no_further}
use Rattle.setchain.proofs.Laws.Reached.{reached_follows}
use Rattle.scheme.specs.Rows.{chain_of}
use Rattle.scheme.proofs.Examples.{scheme_a}
use Rattle.bounds_spec.specs.Answers.{Answered, Refused}
use Rattle.bounds_spec.specs.Promises.{ShareKept}
use Rattle.bounds_spec.specs.Reached.{start_reached, ReachedPromise}
use Rattle.bounds_spec.proofs.ChanceExamples.{answers_reached}
use Rattle.bounds_spec.proofs.Chances.{Rises}
use Rattle.bounds_spec.proofs.Laws.Reached.{reached_kept}

-- Example A's own bounds for class 1 in year 2 keep the promise.
reached_a : ShareKept scheme_a 2 (start_reached scheme_a 0) 960000000 990000000
reached_a = rw answers_reached.year2 at (reached_kept scheme_a 1 2) refl

-- So what else keeps it is no further than 2 parts from these.
reached_pinned : {low high : ℕ} → ShareKept scheme_a 2 (start_reached scheme_a 0) low high → Pinned ◌≼◌ (whole 2) 960000000 990000000 low high
reached_pinned = pinned_no_further (λ ps picks. (reached_follows (chain_of scheme_a) 0).proper ps picks.inside 1 (omega arith)) reached_a

pub record ForbiddenChances : Type 0 where
  -- 0 and ONE, and 3 parts too wide or too tight.
  pub zero : ReachedPromise scheme_a 1 2 (Answered 0 990000000) → ⊥
  pub one : ReachedPromise scheme_a 1 2 (Answered 960000000 ONE) → ⊥
  pub low_wide : ReachedPromise scheme_a 1 2 (Answered 959999997 990000000) → ⊥
  pub high_wide : ReachedPromise scheme_a 1 2 (Answered 960000000 990000003) → ⊥
  pub low_tight : ReachedPromise scheme_a 1 2 (Answered 960000003 990000000) → ⊥
  pub high_tight : ReachedPromise scheme_a 1 2 (Answered 960000000 989999997) → ⊥
  -- The share of class 1, which leaves out whoever has stood there and moved on; the chance of the year before; and that of class 2 itself.
  pub share : ReachedPromise scheme_a 1 2 (Answered 920000000 990000000) → ⊥
  pub year_before : ReachedPromise scheme_a 1 2 (Answered 800000000 900000000) → ⊥
  pub itself : ReachedPromise scheme_a 1 2 (Answered ONE ONE) → ⊥

pub forbidden_chances : ForbiddenChances
forbidden_chances =
    record {
      zero = λ h. omega (arith, (reached_pinned (h refl)).low_below);
      one = λ h. omega (arith, (reached_pinned (h refl)).high_above);
      low_wide = λ h. omega (arith, (reached_pinned (h refl)).low_below);
      high_wide = λ h. omega (arith, (reached_pinned (h refl)).high_above);
      low_tight = λ h. omega (arith, (reached_pinned (h refl)).low_above);
      high_tight = λ h. omega (arith, (reached_pinned (h refl)).high_below);
      share = λ h. omega (arith, (reached_pinned (h refl)).low_below);
      year_before = λ h. omega (arith, (reached_pinned (h refl)).low_below);
      itself = λ h. omega (arith, (reached_pinned (h refl)).low_above);
    }

-- What rises from one year to the next, and what does not: a low or a high that falls, and a year that was declined.
pub record RiseCases : Type 0 where
  pub both : Rises (Answered 8 12) (Answered 9 13)
  pub neither : Rises (Answered 8 12) (Answered 8 12)
  pub low_falls : Rises (Answered 8 12) (Answered 7 13) → ⊥
  pub high_falls : Rises (Answered 8 12) (Answered 9 11) → ⊥
  pub declined : Rises (Refused 12) (Answered 9 13) → ⊥

pub rise_cases : RiseCases
rise_cases =
    record {
      both = record { number = refl; low = omega arith; high = omega arith };
      neither = record { number = refl; low = omega arith; high = omega arith };
      low_falls = λ h. omega (arith, h.low);
      high_falls = λ h. omega (arith, h.high);
      declined = λ h. omega (arith, h.number);
    }
