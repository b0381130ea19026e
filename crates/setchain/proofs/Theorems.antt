-- Demand 3 on the definitions (document 01, "Years"): for every set-chain with sound rows, any number of states, any t and ALL picks.
use Rattle.std.specs.Prelude.{ℕ, ◌+◌, ◌-◌, ◌≤◌, ◌<◌, refl, Bool, true, false, not, List}
use Rattle.std.proofs.Common.{subst, arith, le_refl, mul-le-mul_right, zero-mul}
use Rattle.setchain.specs.Fractions.{Fraction, whole, ◌⊗◌, Proper}
use Rattle.setchain.specs.Rows.{SetChain, SoundChain}
use Rattle.setchain.specs.Rounding.{rounded}
use Rattle.setchain.specs.Years.{nothing, share_payoff, low_share, high_share, CENT, tenths, mean_tenths, low_mean, high_mean, total_tenths, low_total, high_total}
use Rattle.setchain.specs.Picks.{Matrix, PicksFor, exact_mean, exact_total}
use Rattle.setchain.specs.Turns.{Turn, Obeys, Follows}
use Rattle.setchain.specs.Promise.{share_in_parts, NoFurther, Nearer, cent_and_tenths, Closeness, Promise}
use Rattle.setchain.proofs.Laws.Fractions.{BoundOf}
use Rattle.setchain.proofs.Laws.Mean.{inward}
use Rattle.setchain.proofs.Laws.Obeys.{years_obey, extreme_picks, extreme_picks_for, obeys_bound, obeys_near}
use Rattle.setchain.proofs.Laws.Follows.{follows_as, unit_follows, unit_plain, shares_follow, means_follow, totals_follow}
use Rattle.setchain.proofs.Laws.Wholes.{rounded_promise}

-- No further than t: a bound, and the same moved inward by t, one on each side.
near_bound : (high : Bool) (t b : ℕ) (x : Fraction) → BoundOf high (whole b) x → BoundOf (not high) (whole (inward high t b)) x → NoFurther (whole t) b x
near_bound false t b x h k = record { under = omega arith; over = omega arith }
near_bound true t b x h k = record { under = omega arith; over = omega (arith, mul-le-mul_right x.den (cover t b)) }
  where
    cover : (t b : ℕ) → b ≤ b - t + t
    cover t b = omega arith

module _ (c : SetChain) (sound : SoundChain c) where
  -- Low and high figures that obey the step keep the promise for every exact figure that follows the same payoff and turn.
  module _ {payoff : ℕ → ℕ} {turn : ℕ → Turn} {exact : List Matrix → ℕ → Fraction} (follows : Follows c payoff turn exact) where
    bounded : (high : Bool) {figure : ℕ → ℕ → ℕ} → Obeys high c payoff turn figure
        → (t : ℕ) (ps : List Matrix) → PicksFor c t ps → (i : ℕ) → i < c.states → BoundOf high (whole (figure t i)) (exact ps i)
    bounded high {figure} obeys t ps picks i l =
        subst (λ u. BoundOf high (whole (figure u i)) (exact ps i)) picks.years (obeys_bound sound follows high obeys ps picks.inside i l)

    close : (high : Bool) {figure : ℕ → ℕ → ℕ} → Obeys high c payoff turn figure → (t : ℕ) → Closeness c t (NoFurther (whole t)) (figure t) exact
    close high {figure} obeys t =
        let ps = extreme_picks c sound high figure t in
        let picks = extreme_picks_for c sound high figure t in
        record {
          picks = ps;
          made = picks;
          close = λ i l. near_bound high t (figure t i) (exact ps i) (bounded high obeys t ps picks i l) (obeys_near sound follows high obeys t i l);
        }

    pub promised : {low high : ℕ → ℕ → ℕ} → Obeys false c payoff turn low → Obeys true c payoff turn high
        → (t : ℕ) → Promise c t (NoFurther (whole t)) (low t) (high t) exact
    promised lows highs t =
        record {
          contains = λ ps picks i l. record { least = bounded false lows t ps picks i l; most = bounded true highs t ps picks i l };
          low_close = close false lows t;
          high_close = close true highs t;
        }

  -- The share of state j after t years.
  pub share_promise : (j t : ℕ) → Promise c t (NoFurther (whole t)) (low_share c j t) (high_share c j t) (share_in_parts c.states j)
  share_promise j = promised (shares_follow c j) (years_obey false c (share_payoff j) nothing) (years_obey true c (share_payoff j) nothing)

  -- What is kept to t tenths is kept in cents nearer than one cent plus t tenths.
  in_cents_lem : {payoff : ℕ → ℕ} {turn : ℕ → Turn} {exact : List Matrix → ℕ → Fraction} (t : ℕ) {low high : ℕ → ℕ} → Follows c payoff turn exact
      → Promise c t (NoFurther (whole t)) low high (λ ps i. exact ps i ⊗ whole CENT)
      → Promise c t (Nearer (cent_and_tenths t)) (λ i. rounded false CENT (low i)) (λ i. rounded true CENT (high i)) exact
  in_cents_lem t follows = rounded_promise CENT (omega arith) (whole t) (le_refl 1) (λ ps picks. follows.proper ps picks.inside)

  module _ (premium : ℕ → ℕ) (t : ℕ) where
    -- The mean premium of year t, and the total of t premiums, in tenths.
    pub mean_tenths_lem : Promise c t (NoFurther (whole t)) (mean_tenths false c premium t) (mean_tenths true c premium t) (λ ps i. exact_mean c.states premium ps i ⊗ whole CENT)
    mean_tenths_lem =
        promised (unit_plain c CENT (means_follow c premium)) (years_obey false c (tenths premium) nothing) (years_obey true c (tenths premium) nothing) t

    pub total_tenths_lem : Promise c t (NoFurther (whole t)) (total_tenths false c premium t) (total_tenths true c premium t) (λ ps i. exact_total c.states premium ps i ⊗ whole CENT)
    total_tenths_lem =
        promised (follows_as c (λ i l. zero-mul CENT) (λ i l. refl) (unit_follows c CENT (totals_follow c premium)))
        (years_obey false c nothing (tenths premium)) (years_obey true c nothing (tenths premium)) t

    -- In cents.
    pub mean_promise : Promise c t (Nearer (cent_and_tenths t)) (low_mean c premium t) (high_mean c premium t) (exact_mean c.states premium)
    mean_promise = in_cents_lem t (means_follow c premium) mean_tenths_lem

    pub total_promise : Promise c t (Nearer (cent_and_tenths t)) (low_total c premium t) (high_total c premium t) (exact_total c.states premium)
    total_promise = in_cents_lem t (totals_follow c premium) total_tenths_lem

  -- The promises are not empty: picks for any number of years exist, and no exact figure that they bring has the denominator 0.
  pub some_picks : (t : ℕ) → (ps : List Matrix) × PicksFor c t ps
  some_picks t = (extreme_picks c sound false (λ u. nothing) t, extreme_picks_for c sound false (λ u. nothing) t)

  pub exact_proper : (premium : ℕ → ℕ) (j t : ℕ) (ps : List Matrix) → PicksFor c t ps → (i : ℕ) → i < c.states
      → Proper (share_in_parts c.states j ps i) × Proper (exact_mean c.states premium ps i) × Proper (exact_total c.states premium ps i)
  exact_proper premium j t ps picks i l = (
    (shares_follow c j).proper ps picks.inside i l,
    (means_follow c premium).proper ps picks.inside i l,
    (totals_follow c premium).proper ps picks.inside i l,
  )
