-- Means by a row: bounds at each state bound the mean, and a year's rounding moves a bound by less than 1.
use Rattle.std.specs.Prelude.{ℕ, suc, ◌+◌, ◌-◌, ◌*◌, ◌≤◌, ◌<◌, ◌≡◌, Bool, true, false, not}
use Rattle.std.proofs.Common.{ap, sym, ◌∙◌, arith, le_refl, mul-le-mul_left}
use Rattle.std.proofs.Math.Nat.{mul-pos}
use Rattle.setchain.specs.Sums.{sum_to, dot}
use Rattle.setchain.specs.Fractions.{Fraction, whole, ◌⊗◌, Proper, sum_fractions}
use Rattle.setchain.specs.Rows.{ONE, Row}
use Rattle.setchain.specs.Rounding.{rounded}
use Rattle.setchain.specs.Step.{NotAfter}
use Rattle.setchain.specs.Picks.{entry_of, weigh}
use Rattle.setchain.specs.Turns.{Turn, add, stay, turned_exact}
use Rattle.setchain.proofs.Laws.Sums.{sum_to_eq, sum_to_le, sum_to_add, sum_to_scale}
use Rattle.setchain.proofs.Laws.Fractions.{proper_sum, BoundOf, bound_trans, bound_same, bound_mul, bound_sum, sum_weighed}

-- A whole number as a bound.
over_one_lem : (high : Bool) (b : ℕ) (x : Fraction) → NotAfter high (b * x.den) x.num → BoundOf high (whole b) x
over_one_lem false b x h = omega arith
over_one_lem true b x h = omega arith

pub proper_mean : (n : ℕ) (q : Row) (v : ℕ → Fraction) → 1 ≤ q.over → ((k : ℕ) → k < n → Proper (v k)) → Proper (weigh n q v)
proper_mean n q v positive proper = proper_sum n (λ k. entry_of q k ⊗ v k) (λ k l. mul-pos positive (proper k l))

pub proper_turned : (w : Turn) (x : Fraction) → Proper x → Proper (turned_exact w x)
proper_turned (add g) x p = mul-pos (le_refl 1) p
proper_turned (stay b) x p = le_refl 1

-- What is bounded at each state is bounded when a row weighs it.
module _ (n : ℕ) (q : Row) (c : ℕ → ℕ) (v : ℕ → Fraction) (positive : 1 ≤ q.over) where
  weighed : ℕ → Fraction
  weighed k = entry_of q k ⊗ whole (c k)

  mean_of : Fraction
  mean_of = record { num = dot n q.entry c; den = q.over }

  proper_weighed : Proper (sum_fractions n weighed)
  unfolding weighed
  proper_weighed = proper_sum n weighed (λ k l. mul-pos positive (le_refl 1))

  pub mean_bound : (high : Bool) → ((k : ℕ) → k < n → BoundOf high (whole (c k)) (v k)) → (b : ℕ) → NotAfter high (b * q.over) (dot n q.entry c)
      → BoundOf high (whole b) (weigh n q v)
  unfolding weighed mean_of
  mean_bound high h b extreme =
      bound_trans high (whole b) mean_of (weigh n q v) positive
      (over_one_lem high b mean_of extreme)
      (bound_trans high mean_of (sum_fractions n weighed) (weigh n q v) proper_weighed
      (bound_same high mean_of (sum_fractions n weighed) (sym (sum_weighed n q.over q.entry c)))
      (bound_sum high n weighed (λ k. entry_of q k ⊗ v k) (λ k l. bound_mul high (entry_of q k) (whole (c k)) (v k) (h k l))))

-- t more, or t less, at each state.
dot_add : (n : ℕ) (p f : ℕ → ℕ) (t : ℕ) → dot n p (λ k. f k + t) ≡ dot n p f + sum_to n p * t
dot_add n p f t =
    sum_to_eq n (λ k. p k * (f k + t)) (λ k. p k * f k + p k * t) (λ k l. omega arith)
    ∙ sum_to_add n (λ k. p k * f k) (λ k. p k * t)
    ∙ ap (λ s. dot n p f + s) (sum_to_scale n p t)

dot_sub : (n : ℕ) (p f : ℕ → ℕ) (t : ℕ) → dot n p f ≤ dot n p (λ k. f k - t) + sum_to n p * t
dot_sub n p f t =
    omega (
      arith,
      dot_add n p (λ k. f k - t) t,
      sum_to_le n (λ k. p k * f k) (λ k. p k * (f k - t + t)) (λ k l. mul-le-mul_left (p k) (omega arith)),
    )

-- A bound moved inward by t: a low bound up, a high bound down.
abbrev pub inward : (high : Bool) → ℕ → ℕ → ℕ
inward false t b = b + t
inward true t b = b - t

-- A year's rounding loses less than 1: payoffs moved inward by t, and their rounded figure by one more.
pub inward_loss : (high : Bool) (n : ℕ) (p f : ℕ → ℕ) (t : ℕ) → sum_to n p ≡ ONE
    → NotAfter (not high) (inward high (suc t) (rounded high ONE (dot n p f)) * ONE) (dot n p (λ k. inward high t (f k)))
inward_loss false n p f t e = omega (arith, dot_add n p f t, ap (λ s. s * t) e)
inward_loss true n p f t e = omega (arith, dot_sub n p f t, ap (λ s. s * t) e)
