-- Containment and closeness, one induction each: figures that obey the step bound an exact figure that follows, and the extreme picks stay near them.
use Prim.Native.Nat.{ℕ, zero, suc, ◌+◌, ◌-◌, ◌≤◌, ◌<◌}
use Rattle.std.specs.Prelude.{refl, Bool, true, false, not, length}
use Rattle.std.proofs.Math.Path.{ap, subst}
use Rattle.std.proofs.Common.{sym, arith, mul-le-mul_right}
use mathlib.Core.List.{List, [], ◌∷◌}
use Rattle.setchain.specs.Fractions.{Fraction, whole, ◌≈◌}
use Rattle.setchain.specs.Rows.{SetChain, SoundChain, of_parts}
use Rattle.setchain.specs.Step.{extreme_row, step_figure}
use Rattle.setchain.specs.Years.{years_figure}
use Rattle.setchain.specs.Picks.{Matrix, InsideEach, none, also, PicksFor, weigh}
use Rattle.setchain.specs.Turns.{Turn, add, stay, turned, turned_exact, Obeys, Follows}
use Rattle.setchain.proofs.Laws.Fractions.{proper_row, BoundOf, bound_trans, bound_same}
use Rattle.setchain.proofs.Laws.Mean.{proper_mean, proper_turned, mean_bound, inward, inward_loss}
use Rattle.setchain.proofs.Laws.Step.{extreme_parts, step_extreme}

-- The years of document 01 obey: each adds its gain.
pub years_obey : (high : Bool) (c : SetChain) (payoff gain : ℕ → ℕ) → Obeys high c payoff (λ i. add (gain i)) (years_figure high c payoff gain)
unfolding years_figure
years_obey high c payoff gain = record { start = λ i l. refl; more = λ t i l. refl }

-- A turn on both sides.
turn_bound : (high : Bool) (w : Turn) (b : ℕ) (x : Fraction) → BoundOf high (whole b) x → BoundOf high (whole (turned w b)) (turned_exact w x)
turn_bound false (add g) b x h = omega arith
turn_bound true (add g) b x h = omega arith
turn_bound false (stay f) b x h = omega arith
turn_bound true (stay f) b x h = omega arith

-- Moved inward by 0, and by t before a turn or after it.
inward_none : (high : Bool) (b : ℕ) (x : Fraction) → x ≈ whole b → BoundOf (not high) (whole (inward high 0 b)) x
inward_none false b x e = omega arith
inward_none true b x e = let less : b - 0 ≤ b = omega arith in omega (arith, mul-le-mul_right x.den less)

inward_turn : (high : Bool) (t : ℕ) (w : Turn) (b : ℕ) (x : Fraction)
    → BoundOf (not high) (whole (turned w (inward high t b))) x → BoundOf (not high) (whole (inward high t (turned w b))) x
inward_turn false t (add g) b x h = omega arith
inward_turn true t (add g) b x h = let less : g + b - t ≤ g + (b - t) = omega arith in omega (arith, mul-le-mul_right x.den less)
inward_turn false t (stay f) b x h = omega arith
inward_turn true t (stay f) b x h = let less : f - t ≤ f = omega arith in omega (arith, mul-le-mul_right x.den less)

-- Picks that stay near figures: each year the row that is extreme for what is left.
module _ (c : SetChain) (sound : SoundChain c) (high : Bool) (figure : ℕ → ℕ → ℕ) where
  abbrev pub extreme_year : ℕ → Matrix
  extreme_year t i = of_parts (extreme_row high c.states (c.row i) (figure t))

  unfoldable pub extreme_picks : ℕ → List Matrix
  extreme_picks zero = []
  extreme_picks (suc t) = extreme_year t ∷ extreme_picks t

  pub extreme_picks_for : (t : ℕ) → PicksFor c t (extreme_picks t)
  unfolding extreme_picks
  extreme_picks_for zero = record { years = refl; inside = none }
  extreme_picks_for (suc t) =
      record {
        years = ap suc (extreme_picks_for t).years;
        inside = also (λ i l. extreme_parts c.states (c.row i) (sound i l) high (figure t)) (extreme_picks_for t).inside;
      }

module _ {c : SetChain} (sound : SoundChain c) {payoff : ℕ → ℕ} {turn : ℕ → Turn} {exact : List Matrix → ℕ → Fraction} (follows : Follows c payoff turn exact) where
  -- With one matrix in front, what bounds the turned mean bounds the exact figure.
  follow_bound : (high : Bool) (p : Matrix) (ps : List Matrix) → InsideEach c (p ∷ ps) → (i : ℕ) → i < c.states → (b : ℕ)
      → BoundOf high (whole b) (turned_exact (turn i) (weigh c.states (p i) (exact ps))) → BoundOf high (whole b) (exact (p ∷ ps) i)
  follow_bound high p ps (also h rest) i l b bound =
      let mean = weigh c.states (p i) (exact ps) in
      bound_trans high (whole b) (turned_exact (turn i) mean) (exact (p ∷ ps) i)
      (proper_turned (turn i) mean (proper_mean c.states (p i) (exact ps) (proper_row (h i l)) (follows.proper ps rest)))
      bound
      (bound_same high (turned_exact (turn i) mean) (exact (p ∷ ps) i) (sym (follows.more p ps (also h rest) i l)))

  module _ (high : Bool) {figure : ℕ → ℕ → ℕ} (obeys : Obeys high c payoff turn figure) where
    -- The one-year figure on the figures after t years.
    abbrev next : ℕ → ℕ → ℕ
    next t i = step_figure high c.states (c.row i) (figure t)

    -- Containment, by induction on the picks.
    pub obeys_bound : (ps : List Matrix) → InsideEach c ps → (i : ℕ) → i < c.states → BoundOf high (whole (figure (length ps) i)) (exact ps i)
    obeys_bound [] none i l =
        subst (λ f. BoundOf high (whole f) (exact [] i)) (sym (obeys.start i l)) (bound_same high (whole (payoff i)) (exact [] i) (sym (follows.start i l)))
    obeys_bound (p ∷ ps) (also h rest) i l =
        let t = length ps in
        subst (λ f. BoundOf high (whole f) (exact (p ∷ ps) i)) (sym (obeys.more t i l))
        (follow_bound high p ps (also h rest) i l (turned (turn i) (next t i))
        (turn_bound high (turn i) (next t i) (weigh c.states (p i) (exact ps))
        (mean_bound c.states (p i) (figure t) (exact ps) (proper_row (h i l)) high
        (obeys_bound ps rest)
        (next t i)
        (step_extreme c.states (c.row i) (sound i l) high (figure t) (p i) (h i l)))))

    -- Closeness, by induction on the years.
    abbrev picks : ℕ → List Matrix
    picks = extreme_picks c sound high figure

    pub obeys_near : (t i : ℕ) → i < c.states → BoundOf (not high) (whole (inward high t (figure t i))) (exact (picks t) i)
    unfolding extreme_picks step_figure
    obeys_near zero i l =
        subst (λ f. BoundOf (not high) (whole (inward high 0 f)) (exact [] i)) (sym (obeys.start i l)) (inward_none high (payoff i) (exact [] i) (follows.start i l))
    obeys_near (suc t) i l =
        let year = extreme_year c sound high figure t in
        let moved = inward high (suc t) (next t i) in
        subst (λ f. BoundOf (not high) (whole (inward high (suc t) f)) (exact (picks (suc t)) i)) (sym (obeys.more t i l))
        (inward_turn high (suc t) (turn i) (next t i) (exact (picks (suc t)) i)
        (follow_bound (not high) year (picks t) (extreme_picks_for c sound high figure (suc t)).inside i l (turned (turn i) moved)
        (turn_bound (not high) (turn i) moved (weigh c.states (year i) (exact (picks t)))
        (mean_bound c.states (year i) (λ k. inward high t (figure t k)) (exact (picks t)) (omega arith) (not high)
        (obeys_near t)
        moved
        (inward_loss high c.states (extreme_row high c.states (c.row i) (figure t)) (figure t) t (extreme_parts c.states (c.row i) (sound i l) high (figure t)).sums)))))
