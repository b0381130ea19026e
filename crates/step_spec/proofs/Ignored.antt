-- The one-year step looks at no value beyond s and m, and at no payoff beyond s (document 01, "Units and the scheme" and "One year").
use Rattle.std.specs.Prelude.{ℕ, ◌-◌, ◌<◌, ◌≡◌, refl, Bool, List, ltb}
use Rattle.std.proofs.Math.Path.{ap, ap₂}
use Rattle.std.proofs.Common.{sym, ◌∙◌, subst₂, arith}
use Rattle.setchain.specs.Step.{step_figure, Reaches}
use Rattle.setchain.proofs.Laws.Agreeing.{agree_refl, step_agrees, reaches_agree}
use Rattle.scheme.specs.declared.Scheme.{Scheme}
use Rattle.scheme.specs.FirstCause.{◌when◌, or_else}
use Rattle.scheme.specs.Cause.{cause_of, class_cause}
use Rattle.scheme.specs.Stored.{scheme_of, cleared}
use Rattle.scheme.specs.Values.{SameValues}
use Rattle.scheme.proofs.Laws.FirstCause.{first_none, second_none, by_cause}
use Rattle.scheme.proofs.Laws.Cause.{class_fits}
use Rattle.scheme.proofs.Laws.Values.{Alike, same, next_same, alike_values, alike_same, alike_back, cleared_alike, class_same, row_same}
use Rattle.setchain.specs.Sums.{at}
use Rattle.setchain.proofs.Laws.Tests.{any_eq}
use Rattle.step_spec.specs.StepAnswer.{StepAnswer, MOST_PAYOFF, payoff_out, step_cause, class_row, StepAnswered}

-- What is answered for one scheme and payoff is answered for the other.
module _ {s s' : Scheme} (w : Alike s s') (payoff payoff' : List ℕ) (payoffs : (j : ℕ) → j < s.classes → at payoff j ≡ at payoff' j) (class : ℕ) where
  cause_same : step_cause s payoff class ≡ step_cause s' payoff' class
  unfolding payoff_out
  cause_same =
      next_same (alike_same w)
      (λ v. ap₂ (λ b n. or_else (10 when b) n) (any_eq v.classes _ _ (λ i l. ap (ltb MOST_PAYOFF) (payoffs i l))) (class_same v class))

  module _ (z : step_cause s payoff class ≡ 0) where
    values : SameValues s s'
    values = alike_values w (first_none (cause_of s) _ z)

    row : class_row s class ≡ class_row s' class
    row =
        let fits = class_fits s.classes class (second_none (10 when payoff_out s payoff) (class_cause s class) (second_none (cause_of s) _ z)) in
        row_same values (class - 1) (omega arith)

  alike_step : (high : Bool) (r : StepAnswer) → StepAnswered high s payoff class r → StepAnswered high s' payoff' class r
  alike_step high r a =
      record {
        number = a.number ∙ cause_same;
        figure =
            a.figure
            ∙ by_cause cause_same
            (λ z.
            step_agrees (agree_refl s.classes (class_row s class)) payoffs high
            ∙ ap₂ (λ n q. step_figure high n q (at payoff')) (values z).others.classes (row z))
            refl;
        size = a.size;
        declined_row = a.declined_row;
        beyond = λ z j l. let v = values (sym a.number ∙ z) in a.beyond z j (omega arith);
        reaches = λ z.
            subst₂ (λ n q. Reaches high n q (at payoff') (at r.row) r.figure) (values (sym a.number ∙ z)).others.classes (row (sym a.number ∙ z))
            (reaches_agree (agree_refl s.classes (class_row s class)) payoffs (λ j l. refl) (a.reaches z));
      }

-- The low and high step of one scheme and payoff have the same answers as those of another.
pub record SameSteps (s s' : Scheme) (payoff payoff' : List ℕ) : Type 0 where
  pub to : (high : Bool) (class : ℕ) (r : StepAnswer) → StepAnswered high s payoff class r → StepAnswered high s' payoff' class r
  pub back : (high : Bool) (class : ℕ) (r : StepAnswer) → StepAnswered high s' payoff' class r → StepAnswered high s payoff class r

-- Schemes with the same values, and payoffs that agree up to s.
pub same_steps : {s s' : Scheme} → SameValues s s' → (payoff payoff' : List ℕ) → ((j : ℕ) → j < s.classes → at payoff j ≡ at payoff' j)
    → SameSteps s s' payoff payoff'
same_steps v payoff payoff' payoffs =
    record {
      to = λ high class. alike_step (same v) payoff payoff' payoffs class high;
      back = λ high class. alike_step (alike_back (same v)) payoff' payoff (λ j l. sym (payoffs j (omega arith))) class high;
    }

-- "Values stored beyond s or m are ignored", of every scheme, accepted or not; "payoffs stored beyond s are ignored".
pub step_ignored : (s : Scheme) (payoff payoff' : List ℕ) → ((j : ℕ) → j < s.classes → at payoff j ≡ at payoff' j)
    → SameSteps s (cleared s) payoff payoff'
unfolding scheme_of
step_ignored s payoff payoff' payoffs =
    record {
      to = λ high class. alike_step (cleared_alike s) payoff payoff' payoffs class high;
      back = λ high class. alike_step (alike_back (cleared_alike s)) payoff' payoff (λ j l. sym (payoffs j l)) class high;
    }
