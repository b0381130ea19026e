-- Every ready scheme is accepted, and has 0 beyond s and m (document 01, "Units and the scheme" and "Ready schemes").
use Rattle.std.specs.Prelude.{ℕ, ◌≤◌, ◌<◌, ◌≡◌, Bool, eqb}
use Rattle.std.proofs.Math.Bool.{true, false, cond}
use native.Mathlib.Omega.{arith}
use Rattle.std.proofs.Common.{le_refl}
use Rattle.setchain.specs.Sums.{sum_to}
use Rattle.setchain.specs.Rows.{ONE}
use Rattle.scheme.specs.Tables.{tab}
use Rattle.scheme.specs.Access.{rule_at, lower_at, upper_at, premium_at}
use Rattle.scheme.specs.Accepted.{SizeFits, StartFits, HorizonFits, RulesFit, BandsFit, SumsFit, PremiumsFit, Accepted}
use Rattle.scheme.specs.Cause.{cause_of}
use Rattle.scheme.specs.Stored.{up_to, scheme_of, cleared, no_scheme}
use Rattle.scheme.proofs.Laws.Judged.{cause_accepted}
use Rattle.ready_spec.specs.Scales.{classes_of, premium_of}
use Rattle.ready_spec.specs.Ready.{ready_rule, ready_scheme}
use Rattle.ready_spec.specs.Answer.{Offered, ready_cause, ready_answer}
use Rattle.scheme.proofs.Laws.Stored.{rule_made, lower_made, upper_made, premium_made, made_cleared, none_cleared}
use Rattle.ready_spec.proofs.Laws.{classes_least, classes_most, product_most, offered}

module _ (number base : ℕ) where
  -- The rule of class i + 1 and column k.
  pub rule_at_lem : (i k : ℕ) → i < classes_of number → k < 5 → rule_at (ready_scheme number base) i k ≡ ready_rule number i k
  unfolding ready_scheme
  rule_at_lem i k h l = rule_made _ _ _ _ _ _ _ _ i k (omega (arith, classes_most number)) (omega arith) h l

  -- The band of column k.
  pub lower_at_lem : (i k : ℕ) → k < 5 → lower_at (ready_scheme number base) i k ≡ 0
  unfolding ready_scheme
  lower_at_lem i k l = lower_made _ _ _ _ _ _ _ _ i k (omega arith) l

  pub upper_at_lem : (i k : ℕ) → k < 5 → upper_at (ready_scheme number base) i k ≡ ONE
  unfolding ready_scheme
  upper_at_lem i k l = upper_made _ _ _ _ _ _ _ _ i k (omega arith) l

  -- The premium of class i + 1.
  pub premium_at_lem : (i : ℕ) → i < classes_of number → premium_at (ready_scheme number base) i ≡ premium_of number base i
  unfolding ready_scheme
  premium_at_lem i h = premium_made _ _ _ _ _ _ _ _ i (omega (arith, classes_most number)) h

  size_fits : SizeFits (ready_scheme number base)
  unfolding ready_scheme scheme_of
  size_fits =
      record {
        some_class = omega (arith, classes_least number);
        classes = omega (arith, classes_most number);
        some_column = omega arith;
        columns = omega arith;
      }

  start_fits : StartFits (ready_scheme number base)
  unfolding ready_scheme scheme_of
  start_fits = record { positive = omega arith; within = omega (arith, classes_least number) }

  horizon_fits : HorizonFits (ready_scheme number base)
  unfolding ready_scheme scheme_of
  horizon_fits = record { within = omega arith }

  rules_fit : RulesFit (ready_scheme number base)
  unfolding ready_scheme scheme_of
  rules_fit =
      record {
        positive = λ i k h l. rw (rule_at_lem i k h l) (omega arith);
        within = λ i k h l. rw (rule_at_lem i k h l) (omega (arith, classes_least number));
      }

  bands_fit : BandsFit (ready_scheme number base)
  unfolding ready_scheme scheme_of
  bands_fit =
      record {
        ordered = λ i k h l. rw (lower_at_lem i k l) (omega arith);
        capped = λ i k h l. rw (upper_at_lem i k l) (le_refl ONE);
      }

  sums_fit : SumsFit (ready_scheme number base)
  unfolding ready_scheme scheme_of up_to sum_to tab
  sums_fit = record { lowers = λ i h. omega arith; uppers = λ i h. omega arith }

  premiums_fit : base ≤ 2500000 → PremiumsFit (ready_scheme number base)
  unfolding ready_scheme scheme_of
  premiums_fit small = record { within = λ i h. rw (premium_at_lem i h) (omega (arith, product_most number base i small)) }

  -- "A scheme is accepted exactly when this list holds": it holds of every ready scheme.
  pub ready_accepted : Offered number base → Accepted (ready_scheme number base)
  ready_accepted o =
      record {
        size = size_fits;
        start = start_fits;
        horizon = horizon_fits;
        rules = rules_fit;
        bands = bands_fit;
        sums = sums_fit;
        premiums = premiums_fit o.small;
      }

  -- A scheme answered with number 0 is accepted.
  pub answered_accepted : (ready_answer number base).number ≡ 0 → Accepted (ready_answer number base).scheme
  unfolding ready_answer
  answered_accepted e = rw e (ready_accepted (offered number base e))

  -- No cause applies to a ready scheme.
  pub ready_cause_lem : Offered number base → cause_of (ready_scheme number base) ≡ 0
  ready_cause_lem o = cause_accepted (ready_scheme number base) (ready_accepted o)

  -- "every operation that makes a scheme sets them to 0": also where the call is declined.
  pub ready_cleared : cleared (ready_answer number base).scheme ≡ (ready_answer number base).scheme
  unfolding ready_answer ready_scheme
  ready_cleared = by (eqb (ready_cause number base) 0)
    where
      by : (offered : Bool) → cleared (cond offered (ready_scheme number base) no_scheme) ≡ cond offered (ready_scheme number base) no_scheme
      by true = made_cleared _ _ _ _ _ _ _ _
      by false = none_cleared
