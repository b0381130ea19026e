-- The step: its rows lie inside and carry certificates, its figures are document 01's, and any certified row reaches them.
use Prim.Native.Nat.{ℕ, zero, suc, ◌+◌, ◌*◌, ◌≤◌, ◌<◌}
use Rattle.std.specs.Prelude.{◌≡◌, refl, Bool, true}
use Rattle.std.proofs.Math.Path.{ap}
use Rattle.std.proofs.Common.{◌∙◌, arith, mul-le-mul_left}
use Rattle.setchain.specs.Sums.{sum_to, dot}
use Rattle.setchain.specs.Rows.{ONE, IntervalRow, SoundRow, Row, Inside, of_parts, SetChain, SoundChain}
use Rattle.setchain.specs.Rounding.{rounded}
use Rattle.setchain.specs.Step.{NotAfter, capacity, slack, before, capacity_before, fill_row, extreme_row, step_figure, Parts, Reaches, ExtremeFigure}
use Rattle.setchain.specs.Certificate.{Certificate}
use Rattle.setchain.specs.Years.{years_figure}
use Rattle.setchain.proofs.Laws.Sums.{sum_to_eq, sum_to_le, sum_to_add, sum_to_scale}
use Rattle.setchain.proofs.Laws.NotAfter.{not_after_both, not_after_cancel}
use Rattle.setchain.proofs.Laws.Rounding.{rounded_bounds, rounded_at_most}
use Rattle.setchain.proofs.Laws.Certificate.{certified}
use Rattle.setchain.proofs.Laws.Fill.{Strict, Pivot, ahead, pivot, given, given_before, given_after, given_all, positive_count}
use Rattle.setchain.proofs.Laws.Order.{before_strict, before_ahead}

-- Along any strict order the fill gives a row inside, filled before a pivot and bare after it.
record Filled (n : ℕ) (r : IntervalRow) (order : ℕ → ℕ → Bool) : Type 0 where
  parts : Parts n r (fill_row n r order)
  pivot_at : ℕ
  full : (j : ℕ) → j < n → order j pivot_at ≡ true → fill_row n r order j ≡ r.upper j
  bare : (j : ℕ) → j < n → order pivot_at j ≡ true → fill_row n r order j ≡ r.lower j

module _ (n : ℕ) (r : IntervalRow) (sound : SoundRow n r) where
  pub capacities : sum_to n (capacity r) + sum_to n r.lower ≡ sum_to n r.upper
  capacities =
      omega (
        arith,
        sum_to_add n (capacity r) r.lower,
        sum_to_eq n (λ k. capacity r k + r.lower k) r.upper (λ k l. omega (arith, sound.ordered k l)),
      )

  slack_le : slack n r ≤ sum_to n (capacity r)
  slack_le = omega (arith, sound.uppers, capacities)

  filled : (order : ℕ → ℕ → Bool) → Strict order → Filled n r order
  unfolding fill_row capacity_before given ahead
  filled order strict =
      record {
        parts =
            record {
              positive = omega arith;
              sums = omega (arith, sum_to_add n r.lower (given (capacity r) order strict n (slack n r)), given_all (capacity r) order strict n (slack n r) p, sound.lowers);
              above = λ j l. omega arith;
              below = λ j l. omega (arith, sound.ordered j l);
            };
        pivot_at = p.at;
        full = λ j l e. omega (arith, given_before (capacity r) order strict n (slack n r) p j l e, sound.ordered j l);
        bare = λ j l e. omega (arith, given_after (capacity r) order strict n (slack n r) p j e);
      }
    where
      p : Pivot n (capacity r) order (slack n r)
      p = pivot (capacity r) order strict n (slack n r) slack_le (positive_count n r.upper (omega (arith, sound.uppers)))

  module _ (high : Bool) (f : ℕ → ℕ) where
    pub extreme_parts : Parts n r (extreme_row high n r f)
    extreme_parts = (filled (before high f) (before_strict high f)).parts

    pub extreme_certificate : Certificate high n r f (extreme_row high n r f)
    extreme_certificate =
        let w : Filled n r (before high f) = filled (before high f) (before_strict high f) in
        record {
          threshold = f w.pivot_at;
          filled = λ j l h. w.full j l (before_ahead high f j w.pivot_at h);
          bare = λ j l h. w.bare j l (before_ahead high f w.pivot_at j h);
        }

    -- The figure bounds the rows inside over every M.
    pub step_extreme : (q : Row) → Inside n r q → NotAfter high (step_figure high n r f * q.over) (dot n q.entry f)
    unfolding step_figure
    step_extreme q inside =
        rounded_bounds ONE (omega arith) high (dot n (extreme_row high n r f) f) (dot n q.entry f) q.over
        (certified high n r f (extreme_row high n r f) extreme_parts extreme_certificate q inside)

    -- Any row of whole parts that lies inside and has a certificate reaches its figure.
    pub certified_reaches : (p : ℕ → ℕ) → Parts n r p → Certificate high n r f p → Reaches high n r f p (rounded high ONE (dot n p f))
    certified_reaches p inside cert =
        record {
          inside = inside;
          extreme = λ q h. not_after_cancel high (dot n p f) (dot n q f) ONE (omega arith) (certified high n r f p inside cert (of_parts q) h);
          rounded = refl;
        }

    -- Document 01's own words hold of the step.
    pub step_figure_lem : ExtremeFigure high n r f (step_figure high n r f)
    unfolding step_figure
    step_figure_lem = record { parts = extreme_row high n r f; reached = certified_reaches (extreme_row high n r f) extreme_parts extreme_certificate }

    -- And of no other number.
    pub figure_only : (v : ℕ) → ExtremeFigure high n r f v → v ≡ step_figure high n r f
    unfolding step_figure step_figure_lem
    figure_only v w =
        w.reached.rounded
        ∙ ap (rounded high ONE)
        (not_after_both high (w.reached.extreme (extreme_row high n r f) extreme_parts) (step_figure_lem.reached.extreme w.parts w.reached.inside))

    pub reached_figure_lem : (p : ℕ → ℕ) (v : ℕ) → Reaches high n r f p v → v ≡ step_figure high n r f
    reached_figure_lem p v w = figure_only v (record { parts = p; reached = w })

    -- A figure is at most the largest payoff.
    parts_at_most : (p : ℕ → ℕ) (b : ℕ) → Parts n r p → ((j : ℕ) → j < n → f j ≤ b) → dot n p f ≤ b * ONE
    parts_at_most p b inside h =
        omega (
          arith,
          sum_to_le n (λ j. p j * f j) (λ j. p j * b) (λ j l. mul-le-mul_left (p j) (h j l)),
          sum_to_scale n p b,
          ap (λ s. s * b) inside.sums,
        )

    pub step_at_most : (b : ℕ) → ((j : ℕ) → j < n → f j ≤ b) → step_figure high n r f ≤ b
    unfolding step_figure
    step_at_most b h = rounded_at_most ONE (omega arith) high (dot n (extreme_row high n r f) f) b (parts_at_most (extreme_row high n r f) b extreme_parts h)

-- Figures grow by no more than the gains.
module _ (high : Bool) (c : SetChain) (sound : SoundChain c) (payoff gain : ℕ → ℕ) (top rise : ℕ)
    (payoffs : (i : ℕ) → i < c.states → payoff i ≤ top)
    (gains : (i : ℕ) → i < c.states → gain i ≤ rise) where
  pub years_at_most : (t i : ℕ) → i < c.states → years_figure high c payoff gain t i ≤ top + t * rise
  unfolding years_figure
  years_at_most zero i l = omega (arith, payoffs i l)
  years_at_most (suc t) i l =
      omega (arith, gains i l, step_at_most c.states (c.row i) (sound i l) high (years_figure high c payoff gain t) (top + t * rise) (years_at_most t))
