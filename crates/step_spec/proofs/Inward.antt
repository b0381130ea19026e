-- Narrower bands move the one-year step's figures inward (document 02, item 1).
use Rattle.std.specs.Prelude.{ℕ, ◌-◌, ◌<◌, ◌≡◌, refl, Bool, List}
use Rattle.std.proofs.Math.Path.{ap₂, sym}
use Rattle.std.proofs.Common.{◌∙◌, subst, subst₂, arith}
use Rattle.setchain.specs.Sums.{at}
use Rattle.setchain.specs.Rows.{SoundRow}
use Rattle.setchain.specs.Step.{NotAfter, step_figure}
use Rattle.setchain.proofs.Laws.NotAfter.{not_after_same}
use Rattle.setchain.proofs.Inward as chain
use Rattle.setchain.proofs.Laws.Tests.{any_eq}
use Rattle.scheme.specs.declared.Scheme.{Scheme}
use Rattle.scheme.specs.Accepted.{Accepted}
use Rattle.scheme.specs.FirstCause.{◌when◌, or_else}
use Rattle.scheme.specs.Cause.{cause_of, class_cause}
use Rattle.scheme.specs.Values.{Trimmed}
use Rattle.scheme.proofs.Laws.FirstCause.{second_none, cause_related}
use Rattle.scheme.proofs.Laws.Cause.{class_fits}
use Rattle.scheme.proofs.Laws.Judged.{cause_accepted}
use Rattle.scheme.proofs.Laws.Sound.{accepted_sound}
use Rattle.scheme.proofs.Laws.Values.{next_same, class_same}
use Rattle.scheme.proofs.Laws.Trimmed.{trimmed_covers}
use Rattle.step_spec.specs.StepAnswer.{StepAnswer, payoff_out, step_cause, class_row, StepAnswered}
pub use Rattle.step_spec.specs.Inward.{StepInward}

-- Of what the step answers for a payoff and a class.
module _ {wide narrow : Scheme} (okWide : Accepted wide) (okNarrow : Accepted narrow) (trimmed : Trimmed wide narrow) (payoff : List ℕ) (class : ℕ) where
  cause : step_cause wide payoff class ≡ step_cause narrow payoff class
  unfolding payoff_out
  cause =
      next_same (record { cause = cause_accepted wide okWide ∙ sym (cause_accepted narrow okNarrow); others = λ z. trimmed.others })
      (λ v. ap₂ (λ b n. or_else (10 when b) n) (any_eq v.classes _ _ (λ i l. refl)) (class_same v class))

  figure : (high : Bool) → step_cause wide payoff class ≡ 0
      → NotAfter high (step_figure high wide.classes (class_row wide class) (at payoff)) (step_figure high narrow.classes (class_row narrow class) (at payoff))
  figure high z =
      let fits = class_fits wide.classes class (second_none (10 when payoff_out wide payoff) (class_cause wide class) (second_none (cause_of wide) _ z)) in
      let within : class - 1 < wide.classes = omega arith in
      subst (λ n. NotAfter high (step_figure high wide.classes (class_row wide class) (at payoff)) (step_figure high n (class_row narrow class) (at payoff))) trimmed.others.classes
      (chain.step_inward high (accepted_sound wide okWide (class - 1) within)
      (subst (λ n. SoundRow n (class_row narrow class)) (sym trimmed.others.classes) (accepted_sound narrow okNarrow (class - 1) (omega (arith, trimmed.others.classes))))
      ((trimmed_covers trimmed).rows (class - 1) within) (at payoff) (at payoff) (λ j l. not_after_same high refl))

  pub step_inward : (high : Bool) (r r' : StepAnswer) → StepAnswered high wide payoff class r → StepAnswered high narrow payoff class r' → StepInward high r r'
  step_inward high r r' a a' =
      record {
        number = a.number ∙ cause ∙ sym a'.number;
        figure = subst₂ (NotAfter high) (sym a.figure) (sym a'.figure) (cause_related (NotAfter high) cause (figure high) (not_after_same high refl));
      }
