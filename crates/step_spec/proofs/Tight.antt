-- The one-year step over tight rows (document 02, item 2): what it answers is the figure of the class's tight row, and the row handed back lies inside that.
use Rattle.std.specs.Prelude.{ℕ, ◌-◌, ◌≡◌, Bool, List}
use Rattle.std.proofs.Common.{sym, ◌∙◌, arith}
use Rattle.setchain.specs.Sums.{at}
use Rattle.setchain.specs.Rows.{SoundRow}
use Rattle.setchain.specs.Step.{step_figure, Reaches}
use Rattle.setchain.specs.Tight.{tight_row}
use Rattle.setchain.proofs.Tightened.{tight_sound, reaches_tight}
use Rattle.setchain.proofs.Laws.Step.{reached_figure_lem}
use Rattle.scheme.specs.declared.Scheme.{Scheme}
use Rattle.scheme.specs.FirstCause.{◌when◌}
use Rattle.scheme.specs.Cause.{cause_of, class_cause}
use Rattle.scheme.proofs.Laws.FirstCause.{first_none, second_none}
use Rattle.scheme.proofs.Laws.Cause.{class_fits}
use Rattle.scheme.proofs.Laws.Judged.{accepted_cause}
use Rattle.scheme.proofs.Laws.Sound.{accepted_sound}
use Rattle.step_spec.specs.StepAnswer.{StepAnswer, payoff_out, step_cause, class_row, StepAnswered}

-- A figure that is the tight row's, and a row that reaches it there.
pub record TightStep (high : Bool) (s : Scheme) (payoff : List ℕ) (class : ℕ) (r : StepAnswer) : Type 0 where
  pub figure : r.figure ≡ step_figure high s.classes (tight_row s.classes (class_row s class)) (at payoff)
  pub reaches : Reaches high s.classes (tight_row s.classes (class_row s class)) (at payoff) (at r.row) r.figure

pub step_tight : {high : Bool} {s : Scheme} {payoff : List ℕ} {class : ℕ} {r : StepAnswer} → StepAnswered high s payoff class r → r.number ≡ 0 → TightStep high s payoff class r
step_tight {high} {s} {payoff} {class} {r} a none =
    record { figure = reached_figure_lem s.classes (tight_row s.classes (class_row s class)) (tight_sound sound) high (at payoff) (at r.row) r.figure reached; reaches = reached }
  where
    causes : step_cause s payoff class ≡ 0
    causes = sym a.number ∙ none

    sound : SoundRow s.classes (class_row s class)
    sound =
        let fits = class_fits s.classes class (second_none (10 when payoff_out s payoff) (class_cause s class) (second_none (cause_of s) _ causes)) in
        accepted_sound s (accepted_cause s (first_none (cause_of s) _ causes)) (class - 1) (omega arith)

    reached : Reaches high s.classes (tight_row s.classes (class_row s class)) (at payoff) (at r.row) r.figure
    reached = reaches_tight sound (a.reaches none)
