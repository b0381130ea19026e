-- The first cause is 0 exactly when the scheme is accepted; any other number is a cause that holds, with none before it.
use Prim.Native.Nat.{ℕ, ◌≤◌, ◌<◌}
use Rattle.std.specs.Prelude.{◌≡◌, Bool, ◌||◌}
use Rattle.std.proofs.Math.Bool.{false}
use Rattle.std.proofs.Math.Dec.{ltb}
use native.Mathlib.Omega.{arith}
use borrow.Author.Tests.{ltb-false, le-ltb}
use Rattle.setchain.specs.Sums.{sum_to}
use Rattle.setchain.specs.Tests.{any_below}
use Rattle.setchain.specs.Rows.{ONE}
use Rattle.setchain.proofs.Laws.Tests.{or_false_left, or_false_right, or_false, any_clear, any_false}
use Rattle.scheme.specs.declared.Scheme.{Scheme}
use Rattle.scheme.specs.Access.{cell_count, rule_at, lower_at, upper_at, premium_at}
use Rattle.scheme.specs.Accepted.{SizeFits, StartFits, HorizonFits, RulesFit, BandsFit, SumsFit, PremiumsFit, Accepted}
use Rattle.scheme.specs.Cause.{outside, band_test, size_out, start_out, horizon_out, rule_out, band_out, sum_out, premium_out, scheme_table, cause_of}
use Rattle.scheme.proofs.Laws.FirstCause.{Tells, Told, Judged, judged, all_fit, none_applies_lem, first_holds}
use Rattle.scheme.proofs.Laws.Cause.{outside_false, inside_outside}

-- A test over all classes and cells, read at each.
all_false : (n m : ℕ) (test : ℕ → ℕ → Bool) → any_below n (λ i. any_below m (test i)) ≡ false → (i k : ℕ) → i < n → k < m → test i k ≡ false
all_false n m test e i k l g = any_false m (test i) (any_false n (λ i. any_below m (test i)) e i l) k g

all_clear : (n m : ℕ) (test : ℕ → ℕ → Bool) → ((i k : ℕ) → i < n → k < m → test i k ≡ false) → any_below n (λ i. any_below m (test i)) ≡ false
all_clear n m test h = any_clear n (λ i. any_below m (test i)) (λ i l. any_clear m (test i) (λ k g. h i k l g))

module _ (s : Scheme) where
  pub size_tells : Tells (size_out s) (SizeFits s)
  unfolding size_out
  size_tells =
      record {
        fits = λ e.
            let l : (1 ≤ s.classes) × (s.classes ≤ 32) = outside_false 32 s.classes (or_false_left (outside 32 s.classes) (outside 8 s.columns) e) in
            let r : (1 ≤ s.columns) × (s.columns ≤ 8) = outside_false 8 s.columns (or_false_right (outside 32 s.classes) (outside 8 s.columns) e) in
            record { some_class = l.0; classes = l.1; some_column = r.0; columns = r.1 };
        passes = λ h. or_false (inside_outside 32 s.classes h.some_class h.classes) (inside_outside 8 s.columns h.some_column h.columns);
      }

  start_tells : Tells (start_out s) (StartFits s)
  unfolding start_out
  start_tells =
      record {
        fits = λ e. let w = outside_false s.classes s.start e in record { positive = w.0; within = w.1 };
        passes = λ h. inside_outside s.classes s.start h.positive h.within;
      }

  horizon_tells : Tells (horizon_out s) (HorizonFits s)
  unfolding horizon_out
  horizon_tells =
      record { fits = λ e. record { within = ltb-false 100 s.horizon e }; passes = λ h. le-ltb 100 s.horizon h.within }

  rules_tell : Tells (rule_out s) (RulesFit s)
  unfolding rule_out
  rules_tell =
      record {
        fits = λ e.
            record {
              positive = λ i k l g. (outside_false s.classes (rule_at s i k) (at e i k l g)).0;
              within = λ i k l g. (outside_false s.classes (rule_at s i k) (at e i k l g)).1;
            };
        passes = λ h.
            all_clear s.classes (cell_count s) (λ i k. outside s.classes (rule_at s i k))
            (λ i k l g. inside_outside s.classes (rule_at s i k) (h.positive i k l g) (h.within i k l g));
      }
    where
      at : rule_out s ≡ false → (i k : ℕ) → i < s.classes → k < cell_count s → outside s.classes (rule_at s i k) ≡ false
      at e = all_false s.classes (cell_count s) (λ i k. outside s.classes (rule_at s i k)) e

  bands_tell : Tells (band_out s) (BandsFit s)
  unfolding band_out
  bands_tell =
      record {
        fits = λ e.
            record {
              ordered = λ i k l g. ltb-false (upper_at s i k) (lower_at s i k) (or_false_left (ltb (upper_at s i k) (lower_at s i k)) (ltb ONE (upper_at s i k)) (at e i k l g));
              capped = λ i k l g. ltb-false ONE (upper_at s i k) (or_false_right (ltb (upper_at s i k) (lower_at s i k)) (ltb ONE (upper_at s i k)) (at e i k l g));
            };
        passes = λ h.
            all_clear s.classes (cell_count s) (λ i k. band_test (lower_at s i k) (upper_at s i k))
            (λ i k l g. or_false (le-ltb (upper_at s i k) (lower_at s i k) (h.ordered i k l g)) (le-ltb ONE (upper_at s i k) (h.capped i k l g)));
      }
    where
      at : band_out s ≡ false → (i k : ℕ) → i < s.classes → k < cell_count s → band_test (lower_at s i k) (upper_at s i k) ≡ false
      at e = all_false s.classes (cell_count s) (λ i k. band_test (lower_at s i k) (upper_at s i k)) e

  sums_tell : Tells (sum_out s) (SumsFit s)
  unfolding sum_out
  sums_tell =
      record {
        fits = λ e.
            record {
              lowers = λ i l. ltb-false ONE (lower i) (or_false_left (ltb ONE (lower i)) (ltb (upper i) ONE) (any_false s.classes test e i l));
              uppers = λ i l. ltb-false (upper i) ONE (or_false_right (ltb ONE (lower i)) (ltb (upper i) ONE) (any_false s.classes test e i l));
            };
        passes = λ h. any_clear s.classes test (λ i l. or_false (le-ltb ONE (lower i) (h.lowers i l)) (le-ltb (upper i) ONE (h.uppers i l)));
      }
    where
      lower : ℕ → ℕ
      lower i = sum_to (cell_count s) (lower_at s i)

      upper : ℕ → ℕ
      upper i = sum_to (cell_count s) (upper_at s i)

      test : ℕ → Bool
      test i = ltb ONE (lower i) || ltb (upper i) ONE

  premiums_tell : Tells (premium_out s) (PremiumsFit s)
  unfolding premium_out
  premiums_tell =
      record {
        fits = λ e. record { within = λ i l. ltb-false 10000000 (premium_at s i) (any_false s.classes (λ i. ltb 10000000 (premium_at s i)) e i l) };
        passes = λ h. any_clear s.classes (λ i. ltb 10000000 (premium_at s i)) (λ i l. le-ltb 10000000 (premium_at s i) (h.within i l));
      }

  -- Each test of the table tells what its line asks for.
  told : Told (scheme_table s)
  told = (
    (omega arith, size_tells),
    (
      (omega arith, start_tells),
      (
        (omega arith, horizon_tells),
        (
          (omega arith, rules_tell),
          (
            (omega arith, bands_tell),
            (
              (omega arith, sums_tell),
              ((omega arith, premiums_tell), tt),
            ),
          ),
        ),
      ),
    ),
  )

  -- What the scheme's cause says of it: accepted, or the number of the first cause that applies.
  pub scheme_judged : Judged (scheme_table s) (cause_of s)
  unfolding cause_of
  scheme_judged = judged (scheme_table s) told

  -- "A scheme is accepted exactly when this list holds".
  pub cause_accepted : Accepted s → cause_of s ≡ 0
  unfolding cause_of
  cause_accepted h = none_applies_lem (scheme_table s) told (h.size, (h.start, (h.horizon, (h.rules, (h.bands, (h.sums, (h.premiums, tt)))))))

  pub accepted_cause : cause_of s ≡ 0 → Accepted s
  unfolding cause_of
  accepted_cause e =
      let (size, (start, (horizon, (rules, (bands, (sums, (premiums, last))))))) = all_fit (scheme_table s) told e in
      record { size = size; start = start; horizon = horizon; rules = rules; bands = bands; sums = sums; premiums = premiums }

  -- The causes of a scheme are 10 at most.
  pub cause_most : cause_of s ≤ 10
  unfolding cause_of
  cause_most = first_holds (λ n. n ≤ 10) (omega arith) (scheme_table s) (omega arith, (omega arith, (omega arith, (omega arith, (omega arith, (omega arith, (omega arith, tt)))))))
