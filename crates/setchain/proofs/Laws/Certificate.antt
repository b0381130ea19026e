-- The certificate theorem: a row of whole parts with a certificate is extreme among the rows inside over EVERY M.
use Rattle.std.specs.Prelude.{ℕ, ◌+◌, ◌*◌, ◌≤◌, ◌<◌, ◌≡◌, Bool, true, false}
use Rattle.std.proofs.Common.{ap, sym, ◌∙◌, subst₂, arith, mul-le-mul_right}
use Rattle.std.proofs.Math.Decide.{dec_lt}
use Rattle.std.proofs.Math.Nat.{le_dest}
use Rattle.setchain.specs.Sums.{sum_to, dot}
use Rattle.setchain.specs.Rows.{ONE, IntervalRow, Row, Inside}
use Rattle.setchain.specs.Step.{NotAfter, Parts}
use Rattle.setchain.specs.Certificate.{Ahead, Certificate}
use Rattle.setchain.proofs.Laws.Sums.{sum_to_eq, sum_to_le, sum_to_add, sum_to_scale}

-- At one state: y is the larger above the threshold and the smaller below it.
exchange_below : (x y f d : ℕ) → y ≤ x → x * f + y * (f + d) ≤ y * f + x * (f + d)
exchange_below x y f d h = omega (arith, mul-le-mul_right d h)

exchange_above : (x y θ d : ℕ) → x ≤ y → x * (θ + d) + y * θ ≤ y * (θ + d) + x * θ
exchange_above x y θ d h = omega (arith, mul-le-mul_right d h)

exchange : (x y f θ : ℕ) → (f < θ → y ≤ x) → (θ < f → x ≤ y) → x * f + y * θ ≤ y * f + x * θ
exchange x y f θ below above = by (dec_lt f θ) (dec_lt θ f)
  where
    from_below : (d : ℕ) → f + d ≡ θ → y ≤ x → x * f + y * θ ≤ y * f + x * θ
    from_below d e h = rw (← e) (exchange_below x y f d h)

    from_above : (d : ℕ) → θ + d ≡ f → x ≤ y → x * f + y * θ ≤ y * f + x * θ
    from_above d e h = rw (← e) (exchange_above x y θ d h)

    equal : f ≡ θ → x * f + y * θ ≤ y * f + x * θ
    equal e = rw e (omega arith)

    by : Dec (f < θ) → Dec (θ < f) → x * f + y * θ ≤ y * f + x * θ
    by (yes l) d = let w = le_dest {n = f} {m = θ} (omega arith) in from_below w.0 w.1 (below l)
    by (no l) (yes g) = let w = le_dest {n = θ} {m = f} (omega arith) in from_above w.0 w.1 (above g)
    by (no l) (no g) = equal (omega arith)

-- Two rows of equal sums: the one that has more below a threshold, and less above it, brings no more.
least_exchange : (n : ℕ) (x y f : ℕ → ℕ) (θ : ℕ) → ((j : ℕ) → j < n → f j < θ → y j ≤ x j) → ((j : ℕ) → j < n → θ < f j → x j ≤ y j)
    → sum_to n x ≡ sum_to n y → dot n x f ≤ dot n y f
least_exchange n x y f θ below above e =
    omega (
      arith,
      sum_to_le n (λ j. x j * f j + y j * θ) (λ j. y j * f j + x j * θ) (λ j l. exchange (x j) (y j) (f j) θ (below j l) (above j l)),
      sum_to_add n (λ j. x j * f j) (λ j. y j * θ),
      sum_to_add n (λ j. y j * f j) (λ j. x j * θ),
      sum_to_scale n x θ,
      sum_to_scale n y θ,
      ap (λ s. s * θ) e,
    )

-- The same for either figure: the row that has more before a threshold, and less after it, is at least as extreme.
pub sum_exchange : (high : Bool) (n : ℕ) (x y f : ℕ → ℕ) (θ : ℕ) → ((j : ℕ) → j < n → Ahead high (f j) θ → y j ≤ x j) → ((j : ℕ) → j < n → Ahead high θ (f j) → x j ≤ y j)
    → sum_to n x ≡ sum_to n y → NotAfter high (dot n x f) (dot n y f)
sum_exchange false n x y f θ more less e = least_exchange n x y f θ more less e
sum_exchange true n x y f θ more less e = least_exchange n y x f θ less more (sym e)

-- A dot product whose parts all carry one factor.
pub dot_scale : (n : ℕ) (x f : ℕ → ℕ) (c : ℕ) → dot n (λ j. x j * c) f ≡ dot n x f * c
dot_scale n x f c = sum_to_eq n (λ j. x j * c * f j) (λ j. x j * f j * c) (λ j l. omega arith) ∙ sum_to_scale n (λ j. x j * f j) c

-- The sums of p over M and of q over ONE agree.
sums_agree : (n : ℕ) (r : IntervalRow) (p : ℕ → ℕ) (q : Row) → Parts n r p → Inside n r q
    → sum_to n (λ j. p j * q.over) ≡ sum_to n (λ j. q.entry j * ONE)
sums_agree n r p q hp hq =
    omega
    (arith, sum_to_scale n p q.over, sum_to_scale n q.entry ONE, ap (λ s. s * q.over) hp.sums, hq.sums)

-- M · Σ p·f ≤ ONE · Σ q·f for every row q inside, over any M; for a high figure ≥.
pub certified : (high : Bool) (n : ℕ) (r : IntervalRow) (f p : ℕ → ℕ) → Parts n r p → Certificate high n r f p → (q : Row) → Inside n r q
    → NotAfter high (dot n p f * q.over) (dot n q.entry f * ONE)
certified high n r f p hp cert q hq =
    subst₂ (NotAfter high) (dot_scale n p f q.over) (dot_scale n q.entry f ONE)
    (sum_exchange high n (λ j. p j * q.over) (λ j. q.entry j * ONE) f cert.threshold
    (λ j l h. rw (cert.filled j l h) (hq.below j l))
    (λ j l h. rw (cert.bare j l h) (hq.above j l))
    (sums_agree n r p q hp hq))
