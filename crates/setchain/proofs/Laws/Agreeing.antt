-- Interval rows, payoffs and gains that agree on n states have the same figures: nothing is read of the states from n on.
use Prim.Native.Nat.{ℕ, zero, suc, min, ◌+◌, ◌-◌, ◌*◌, ◌<◌}
use Rattle.std.specs.Prelude.{◌≡◌, refl, Bool, true, false, ◌&&◌, ◌||◌, eqb, ltb}
use Rattle.std.proofs.Math.Path.{ap, ap₂}
use Rattle.std.proofs.Common.{sym, ◌∙◌, subst, subst₂, arith}
use Rattle.setchain.specs.Sums.{only_if, dot}
use Rattle.setchain.specs.Rows.{ONE, IntervalRow, SoundRow, SetChain}
use Rattle.setchain.specs.Rounding.{rounded}
use Rattle.setchain.specs.Step.{capacity, slack, rising, before, capacity_before, fill_row, step_figure, NotAfter, Parts, Reaches}
use Rattle.setchain.specs.Years.{years_figure}
use Rattle.setchain.specs.Turns.{Turn, add, turned, Obeys}
use Rattle.setchain.proofs.Laws.Sums.{sum_to_eq}
use Rattle.setchain.proofs.Laws.Obeys.{years_obey}

-- Two rows have the same entries for the first n states.
pub record Agree (n : ℕ) (r q : IntervalRow) : Type 0 where
  pub lower : (j : ℕ) → j < n → r.lower j ≡ q.lower j
  pub upper : (j : ℕ) → j < n → r.upper j ≡ q.upper j

-- A row agrees with itself.
pub agree_refl : (n : ℕ) (r : IntervalRow) → Agree n r r
agree_refl n r = record { lower = λ j l. refl; upper = λ j l. refl }

-- Rows that agree, from the other side.
pub agree_sym : {n : ℕ} {r q : IntervalRow} → Agree n r q → Agree n q r
agree_sym s = record { lower = λ j l. sym (s.lower j l); upper = λ j l. sym (s.upper j l) }

-- The same rows lie inside, also where their parts agree below n.
pub parts_agree : {n : ℕ} {r q : IntervalRow} {p p' : ℕ → ℕ} → Agree n r q → ((j : ℕ) → j < n → p j ≡ p' j) → Parts n r p → Parts n q p'
parts_agree {n} {p = p} {p' = p'} s e w =
    record {
      positive = w.positive;
      sums = sym (sum_to_eq n p p' e) ∙ w.sums;
      above = λ j l. omega (arith, s.lower j l, e j l, w.above j l);
      below = λ j l. omega (arith, s.upper j l, e j l, w.below j l);
    }

-- The sum of part times payoff looks at states below n alone.
dot_agrees : (n : ℕ) {p p' f f' : ℕ → ℕ} → ((j : ℕ) → j < n → p j ≡ p' j) → ((j : ℕ) → j < n → f j ≡ f' j) → dot n p f ≡ dot n p' f'
dot_agrees n {p} {p'} {f} {f'} e g = sum_to_eq n (λ j. p j * f j) (λ j. p' j * f' j) (λ j l. ap₂ (λ x y. x * y) (e j l) (g j l))

-- So a figure that is reached is reached for all that agrees below n.
pub reaches_agree : {high : Bool} {n : ℕ} {r r' : IntervalRow} {f f' p p' : ℕ → ℕ} {v : ℕ}
    → Agree n r r' → ((j : ℕ) → j < n → f j ≡ f' j) → ((j : ℕ) → j < n → p j ≡ p' j) → Reaches high n r f p v → Reaches high n r' f' p' v
reaches_agree {high} {n} s g e w =
    record {
      inside = parts_agree s e w.inside;
      extreme = λ q h. subst₂ (NotAfter high) (dot_agrees n e g) (dot_agrees n (λ j l. refl) g) (w.extreme q (parts_agree (agree_sym s) (λ j l. refl) h));
      rounded = w.rounded ∙ ap (rounded high ONE) (dot_agrees n e g);
    }

-- One is sound where the other is.
pub sound_agrees : {n : ℕ} {r q : IntervalRow} → Agree n r q → SoundRow n r → SoundRow n q
sound_agrees {n} {r} {q} same s =
    record {
      ordered = λ j l. omega (arith, same.lower j l, same.upper j l, s.ordered j l);
      capped = λ j l. omega (arith, same.upper j l, s.capped j l);
      lowers = omega (arith, sum_to_eq n r.lower q.lower same.lower, s.lowers);
      uppers = omega (arith, sum_to_eq n r.upper q.upper same.upper, s.uppers);
    }

-- Rows and payoffs that agree below n.
module _ {n : ℕ} {r q : IntervalRow} (rows : Agree n r q) where
  capacity_agrees : (j : ℕ) → j < n → capacity r j ≡ capacity q j
  capacity_agrees j l = ap₂ (λ x y. x - y) (rows.upper j l) (rows.lower j l)

  slack_agrees : slack n r ≡ slack n q
  slack_agrees = ap (λ x. ONE - x) (sum_to_eq n r.lower q.lower rows.lower)

  -- Filled along orders that agree below n.
  fill_agrees : (order order' : ℕ → ℕ → Bool) → ((k j : ℕ) → k < n → j < n → order k j ≡ order' k j)
      → (j : ℕ) → j < n → fill_row n r order j ≡ fill_row n q order' j
  unfolding fill_row capacity_before
  fill_agrees order order' same j l =
      ap₂ (λ x y. x + y) (rows.lower j l)
      (ap₂ min (capacity_agrees j l)
      (ap₂ (λ x y. x - y) slack_agrees
      (sum_to_eq n (λ k. only_if (order k j) (capacity r k)) (λ k. only_if (order' k j) (capacity q k))
      (λ k m. ap₂ only_if (same k j m l) (capacity_agrees k m)))))

  module _ {f g : ℕ → ℕ} (payoffs : (j : ℕ) → j < n → f j ≡ g j) where
    rising_agrees : (k j : ℕ) → k < n → j < n → rising f k j ≡ rising g k j
    rising_agrees k j m l = ap₂ (λ x y. ltb x y || eqb x y && ltb k j) (payoffs k m) (payoffs j l)

    before_agrees : (high : Bool) (k j : ℕ) → k < n → j < n → before high f k j ≡ before high g k j
    before_agrees false k j m l = rising_agrees k j m l
    before_agrees true k j m l = rising_agrees j k l m

    pub step_agrees : (high : Bool) → step_figure high n r f ≡ step_figure high n q g
    unfolding step_figure
    step_agrees high = ap (rounded high ONE) (dot_agrees n (fill_agrees (before high f) (before high g) (before_agrees high)) payoffs)

-- Chains that agree on the states.
module _ {c d : SetChain} (states : c.states ≡ d.states) (rows : (i : ℕ) → i < c.states → Agree c.states (c.row i) (d.row i)) where
  -- Figures that obey them from the same payoffs by the same turns.
  module _ {high : Bool} {payoff payoff' : ℕ → ℕ} {turn turn' : ℕ → Turn} {figure figure' : ℕ → ℕ → ℕ}
      (obeys : Obeys high c payoff turn figure) (obeys' : Obeys high d payoff' turn' figure')
      (payoffs : (i : ℕ) → i < c.states → payoff i ≡ payoff' i)
      (turns : (i : ℕ) → i < c.states → turn i ≡ turn' i) where
    within : (i : ℕ) → i < c.states → i < d.states
    within i l = subst (λ n. i < n) states l

    pub obeys_agree : (t i : ℕ) → i < c.states → figure t i ≡ figure' t i
    obeys_agree zero i l = obeys.start i l ∙ payoffs i l ∙ sym (obeys'.start i (within i l))
    obeys_agree (suc t) i l =
        obeys.more t i l
        ∙ ap₂ turned (turns i l) (step_agrees (rows i l) (obeys_agree t) high ∙ ap (λ n. step_figure high n (d.row i) (figure' t)) states)
        ∙ sym (obeys'.more t i (within i l))

  -- The years, for payoffs and gains that agree.
  pub years_agree : {payoff payoff' gain gain' : ℕ → ℕ} → ((i : ℕ) → i < c.states → payoff i ≡ payoff' i) → ((i : ℕ) → i < c.states → gain i ≡ gain' i)
      → (high : Bool) (t i : ℕ) → i < c.states → years_figure high c payoff gain t i ≡ years_figure high d payoff' gain' t i
  years_agree {payoff} {payoff'} {gain} {gain'} payoffs gains high =
      obeys_agree (years_obey high c payoff gain) (years_obey high d payoff' gain') payoffs (λ i l. ap add (gains i l))
