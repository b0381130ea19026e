-- A filled row has a certificate, so it is extreme and its figure is the step's.
-- Assumes nothing.
use Rattle.std.specs.Prelude.{ℕ, ◌-◌, ◌≤◌, ◌<◌, ◌≡◌, refl, Bool, true, false, List, length}
use Rattle.std.proofs.Common.{sym, ◌∙◌, subst, ⊎_elim, arith}
use Rattle.std.proofs.Math.Decide.{ℕ_discrete, dec_lt}
use Rattle.setchain.specs.Sums.{at, dot}
use Rattle.setchain.specs.Rows.{ONE, lists_row}
use Rattle.setchain.specs.Rounding.{rounded}
use Rattle.setchain.specs.Step.{step_figure, Reaches, NotAfter}
use Rattle.setchain.specs.Certificate.{Ahead, Certificate}
use Rattle.setchain.proofs.Laws.Step.{certified_reaches, reached_figure_lem}
use Rattle.order.specs.Order.{payoff_at, along, Occurs}
use Rattle.setchain.proofs.Laws.NotAfter.{not_after_same}
use Rattle.order.proofs.Laws.Along.{along_permutation, along_sorted}
use Rattle.step.specs.Fill.{FillPre, FillPost}
use Rattle.step.specs.Figure.{WeighPre}
use Rattle.step.specs.Step.{StepPre, StepPost}

-- Of two payoffs one alone comes before the other.
ahead_only : (high : Bool) (a b : ℕ) → Ahead high a b → NotAfter high b a → ⊥
ahead_only false a b h k = omega arith
ahead_only true a b h k = omega arith

-- What the fill asks.
pub step_fills : {lower upper payoff order : List ℕ} {high : Bool} {row : List ℕ} → StepPre lower upper payoff order high row → FillPre lower upper (along high order) row
step_fills {order = order} {high} s =
    record {
      uppers = s.uppers;
      rows = s.rows;
      permutation = along_permutation high order (rw s.payoffs at s.sorted.permutation);
      sound = s.sound;
    }

module _ {lower upper payoff order : List ℕ} {high : Bool} {row₀ row : List ℕ} {stop : ℕ}
    (s : StepPre lower upper payoff order high row₀) (w : FillPost lower upper (along high order) row stop) where
  -- The order as the fill reads it.
  abbrev read : List ℕ
  read = along high order

  -- What the figure asks.
  pub step_weighs : WeighPre row payoff
  step_weighs =
      record {
        size = s.payoffs ∙ sym w.size;
        sums = rw w.size w.parts.sums;
        small = λ j l. s.small j (omega (arith, w.size));
      }

  by_place : (k l : ℕ) → k ≤ l → l < length lower → NotAfter high (payoff_at payoff read k) (payoff_at payoff read l)
  by_place k l h z = by (ℕ_discrete k l)
    where
      by : Dec (k ≡ l) → NotAfter high (payoff_at payoff read k) (payoff_at payoff read l)
      by (yes e) = rw e (not_after_same high refl)
      by (no ne) = along_sorted high payoff order s.sorted k l (omega arith) (omega (arith, s.payoffs))

  -- A class that comes before the one at which the fill stopped is full.
  before_full : (j : ℕ) → j < length lower → (NotAfter high (payoff_at payoff read stop) (at payoff j) → ⊥) → at row j ≡ at upper j
  before_full j l h =
      let p : Occurs read (length payoff) j = (along_permutation high order s.sorted.permutation).onto j (omega (arith, s.payoffs)) in
      let e : at read p.place - 1 ≡ j = omega (arith, p.held) in
      by p e (dec_lt p.place stop)
    where
      by : (p : Occurs read (length payoff) j) → at read p.place - 1 ≡ j → Dec (p.place < stop) → at row j ≡ at upper j
      by p e (yes z) = rw e at (w.full p.place z)
      by p e (no z) = absurd (h (rw p.held at (by_place stop p.place (omega arith) (omega (arith, s.payoffs, p.early)))))

  -- A class that comes after it is bare.
  after_bare : (j : ℕ) → j < length lower → (NotAfter high (at payoff j) (payoff_at payoff read stop) → ⊥) → at row j ≡ at lower j
  after_bare j l h =
      ⊎_elim
      (λ b. b)
      (λ p. absurd (h (rw p.held at (by_place p.place stop (omega (arith, p.early)) w.stops))))
      (w.rest j l)

  -- So a filled row has a certificate.
  certificate : Certificate high (length lower) (lists_row lower upper) (at payoff) (at row)
  certificate =
      record {
        threshold = payoff_at payoff read stop;
        filled = λ j l h. before_full j l (ahead_only high (at payoff j) (payoff_at payoff read stop) h);
        bare = λ j l h. after_bare j l (ahead_only high (payoff_at payoff read stop) (at payoff j) h);
      }

  -- It reaches its figure.
  filled_reaches : Reaches high (length lower) (lists_row lower upper) (at payoff) (at row) (rounded high ONE (dot (length lower) (at row) (at payoff)))
  filled_reaches = certified_reaches (length lower) (lists_row lower upper) s.sound high (at payoff) (at row) w.parts certificate

  -- Which is the step's.
  pub step_reached : rounded high ONE (dot (length lower) (at row) (at payoff)) ≡ step_figure high (length lower) (lists_row lower upper) (at payoff)
  step_reached = reached_figure_lem (length lower) (lists_row lower upper) s.sound high (at payoff) (at row) _ filled_reaches

  -- What the step leaves.
  pub stepped : {r : ℕ} → r ≡ rounded high ONE (dot (length row) (at row) (at payoff)) → StepPost lower upper payoff high row r
  stepped {r} e =
      let figure : r ≡ rounded high ONE (dot (length lower) (at row) (at payoff)) = rw w.size at e in
      record {
        size = w.size;
        reaches = subst (Reaches high (length lower) (lists_row lower upper) (at payoff) (at row)) (sym figure) filled_reaches;
      }
