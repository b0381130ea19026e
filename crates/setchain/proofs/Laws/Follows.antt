-- Builders of exact figures that follow: the share, a figure in a unit, a sum of figures, and the total of a figure over the years.
use Rattle.std.specs.Prelude.{ℕ, zero, suc, ◌*◌, ◌<◌, ◌≡◌, refl, eqb, length, take}
use Rattle.std.proofs.Common.{ap, sym, ◌∙◌, subst, arith, mul-pos, zero-mul}
use mathlib.Core.List.{List, [], ◌∷◌}
use Rattle.std.proofs.Math.Nat.{le_refl}
use Rattle.setchain.specs.Sums.{sum_to, only_if}
use Rattle.setchain.specs.Fractions.{Fraction, whole, ◌⊕◌, ◌⊗◌, ◌≈◌, Proper, sum_fractions}
use Rattle.setchain.specs.Rows.{ONE, SetChain}
use Rattle.setchain.specs.Years.{nothing, share_payoff}
use Rattle.setchain.specs.Picks.{Matrix, InsideEach, none, also, entry_of, weigh, product, exact_share, exact_mean, exact_total}
use Rattle.setchain.specs.Turns.{Turn, add, stay, turned_exact, plain, Follows}
use Rattle.setchain.specs.Promise.{share_in_parts}
use Rattle.setchain.proofs.Laws.Sums.{only_if_times, eqb_flip, sum_to_eq, sum_to_point}
use Rattle.setchain.proofs.Laws.Fractions.{proper_row, proper_sum, same_trans, mul_same, add_same, zero_add, sum_same, sum_first, sum_whole, weigh_right, weigh_sum}
use Rattle.setchain.proofs.Laws.Mean.{proper_mean, proper_turned}

-- The first matrices of picks lie inside too.
inside_take : {c : SetChain} (u : ℕ) (ps : List Matrix) → InsideEach c ps → InsideEach c (take u ps)
inside_take zero ps inside = none
inside_take (suc u) [] none = none
inside_take (suc u) (p ∷ ps) (also h rest) = also h (inside_take u ps rest)

-- A turn in a unit: of its gain, or of its fixed figure.
abbrev pub in_unit : ℕ → Turn → Turn
in_unit u (add g) = add (g * u)
in_unit u (stay b) = stay (b * u)

-- What is y in a unit is turned in that unit.
turned_unit : (u : ℕ) (w : Turn) (x y : Fraction) → x ⊗ whole u ≈ y → turned_exact w x ⊗ whole u ≈ turned_exact (in_unit u w) y
turned_unit u (add g) x y e = omega (arith, e)
turned_unit u (stay b) x y e = omega arith

-- Nothing added.
plain_more : (x mean : Fraction) → x ≈ mean → x ≈ turned_exact (add 0) mean
plain_more x mean e = subst (λ s. x ≈ s) (sym (zero_add mean)) e

module _ (c : SetChain) where
  abbrev n : ℕ
  n = c.states

  -- The same figure, its payoff or its turn written in another way.
  pub follows_as : {payoff payoff' : ℕ → ℕ} {turn turn' : ℕ → Turn} {exact : List Matrix → ℕ → Fraction}
      → ((i : ℕ) → i < n → payoff i ≡ payoff' i) → ((i : ℕ) → i < n → turn i ≡ turn' i) → Follows c payoff turn exact → Follows c payoff' turn' exact
  follows_as {exact = exact} payoffs turns f =
      record {
        proper = f.proper;
        start = λ i l. subst (λ b. exact [] i ≈ whole b) (payoffs i l) (f.start i l);
        more = λ p ps inside i l. subst (λ w. exact (p ∷ ps) i ≈ turned_exact w (weigh n (p i) (exact ps))) (turns i l) (f.more p ps inside i l);
      }

  -- One matrix more in front of what follows plainly: the mean by its row.
  mean_more : {payoff : ℕ → ℕ} {exact : List Matrix → ℕ → Fraction} → Follows c payoff plain exact
      → (p : Matrix) (ps : List Matrix) → InsideEach c (p ∷ ps) → (i : ℕ) → i < n → exact (p ∷ ps) i ≈ weigh n (p i) (exact ps)
  mean_more {exact = exact} f p ps inside i l = subst (λ s. exact (p ∷ ps) i ≈ s) (zero_add (weigh n (p i) (exact ps))) (f.more p ps inside i l)

  -- The share of state j.
  proper_share : (j : ℕ) (ps : List Matrix) → InsideEach c ps → (i : ℕ) → i < n → Proper (exact_share n j ps i)
  unfolding product
  proper_share j [] none i l = le_refl 1
  proper_share j (p ∷ ps) (also h rest) i l = proper_mean n (p i) (exact_share n j ps) (proper_row (h i l)) (proper_share j ps rest)

  pub share_follows : (j : ℕ) → Follows c (λ i. only_if (eqb i j) 1) plain (exact_share n j)
  unfolding product
  share_follows j =
      record {
        proper = proper_share j;
        start = λ i l. refl;
        more = λ p ps inside i l. plain_more (exact_share n j (p ∷ ps) i) (weigh n (p i) (exact_share n j ps)) refl;
      }

  -- A figure in a unit.
  module _ {payoff : ℕ → ℕ} {turn : ℕ → Turn} {exact : List Matrix → ℕ → Fraction} (u : ℕ) (f : Follows c payoff turn exact) where
    unit_more : (p : Matrix) (ps : List Matrix) → InsideEach c (p ∷ ps) → (i : ℕ) → i < n
        → exact (p ∷ ps) i ⊗ whole u ≈ turned_exact (in_unit u (turn i)) (weigh n (p i) (λ k. exact ps k ⊗ whole u))
    unit_more p ps (also h rest) i l =
        let mean = weigh n (p i) (exact ps) in
        let inside = proper_row (h i l) in
        let scaled = weigh n (p i) (λ k. exact ps k ⊗ whole u) in
        same_trans (exact (p ∷ ps) i ⊗ whole u) (turned_exact (turn i) mean ⊗ whole u) (turned_exact (in_unit u (turn i)) scaled)
        (mul-pos (proper_turned (turn i) mean (proper_mean n (p i) (exact ps) inside (f.proper ps rest))) (le_refl 1))
        (mul_same (exact (p ∷ ps) i) (turned_exact (turn i) mean) (whole u) (f.more p ps (also h rest) i l))
        (turned_unit u (turn i) mean scaled (weigh_right n (entry_of (p i)) (exact ps) (whole u) (le_refl 1) (λ k m. inside) (f.proper ps rest)))

    pub unit_follows : Follows c (λ i. payoff i * u) (λ i. in_unit u (turn i)) (λ ps i. exact ps i ⊗ whole u)
    unit_follows =
        record {
          proper = λ ps inside i l. mul-pos (f.proper ps inside i l) (le_refl 1);
          start = λ i l. omega (arith, ap (λ v. v * u) (f.start i l));
          more = unit_more;
        }

  pub unit_plain : {payoff : ℕ → ℕ} {exact : List Matrix → ℕ → Fraction} (u : ℕ) → Follows c payoff plain exact
      → Follows c (λ i. payoff i * u) plain (λ ps i. exact ps i ⊗ whole u)
  unit_plain u f = follows_as (λ i l. refl) (λ i l. ap add (zero-mul u)) (unit_follows u f)

  -- A sum of m figures that follow plainly.
  module _ (m : ℕ) (payoff : ℕ → ℕ → ℕ) (exact : ℕ → List Matrix → ℕ → Fraction) (f : (k : ℕ) → k < m → Follows c (payoff k) plain (exact k)) where
    sum_start : (i : ℕ) → i < n → sum_fractions m (λ k. exact k [] i) ≈ whole (sum_to m (λ k. payoff k i))
    sum_start i l =
        subst (λ s. sum_fractions m (λ k. exact k [] i) ≈ s) (sum_whole m (λ k. payoff k i))
        (sum_same m (λ k. exact k [] i) (λ k. whole (payoff k i)) (λ k g. (f k g).start i l))

    sum_more : (p : Matrix) (ps : List Matrix) → InsideEach c (p ∷ ps) → (i : ℕ) → i < n
        → sum_fractions m (λ k. exact k (p ∷ ps) i) ≈ weigh n (p i) (λ j. sum_fractions m (λ k. exact k ps j))
    sum_more p ps (also h rest) i l =
        same_trans
        (sum_fractions m (λ k. exact k (p ∷ ps) i))
        (sum_fractions m (λ k. weigh n (p i) (exact k ps)))
        (weigh n (p i) (λ j. sum_fractions m (λ k. exact k ps j)))
        (proper_sum m (λ k. weigh n (p i) (exact k ps)) (λ k g. proper_mean n (p i) (exact k ps) (proper_row (h i l)) ((f k g).proper ps rest)))
        (sum_same m (λ k. exact k (p ∷ ps) i) (λ k. weigh n (p i) (exact k ps)) (λ k g. mean_more (f k g) p ps (also h rest) i l))
        (weigh_sum n m (entry_of (p i)) (λ j k. exact k ps j) (λ j g. proper_row (h i l)) (λ j k g g'. (f k g').proper ps rest j g))

    pub sum_follows : Follows c (λ i. sum_to m (λ k. payoff k i)) plain (λ ps i. sum_fractions m (λ k. exact k ps i))
    sum_follows =
        record {
          proper = λ ps inside i l. proper_sum m (λ k. exact k ps i) (λ k g. (f k g).proper ps inside i l);
          start = sum_start;
          more = λ p ps inside i l.
              plain_more (sum_fractions m (λ k. exact k (p ∷ ps) i)) (weigh n (p i) (λ j. sum_fractions m (λ k. exact k ps j))) (sum_more p ps inside i l);
        }

  -- The total of a figure that follows plainly: of each year, year u taking the first u matrices.
  module _ {payoff : ℕ → ℕ} (exact : List Matrix → ℕ → Fraction) (f : Follows c payoff plain exact) where
    abbrev total : List Matrix → ℕ → Fraction
    total ps i = sum_fractions (length ps) (λ u. exact (take u ps) i)

    -- The years after the first: their figures are means by its row.
    later_years : (p : Matrix) (ps : List Matrix) → InsideEach c (p ∷ ps) → (i : ℕ) → i < n
        → sum_fractions (length ps) (λ u. exact (p ∷ take u ps) i) ≈ weigh n (p i) (total ps)
    later_years p ps (also h rest) i l =
        same_trans
        (sum_fractions (length ps) (λ u. exact (p ∷ take u ps) i))
        (sum_fractions (length ps) (λ u. weigh n (p i) (exact (take u ps))))
        (weigh n (p i) (total ps))
        (proper_sum (length ps) (λ u. weigh n (p i) (exact (take u ps))) (λ u g. proper_mean n (p i) (exact (take u ps)) (proper_row (h i l)) (proper u)))
        (sum_same (length ps) (λ u. exact (p ∷ take u ps) i) (λ u. weigh n (p i) (exact (take u ps))) (λ u g. mean_more f p (take u ps) (also h (inside_take u ps rest)) i l))
        (weigh_sum n (length ps) (entry_of (p i)) (λ j u. exact (take u ps) j) (λ j g. proper_row (h i l)) (λ j u g g'. proper u j g))
      where
        proper : (u j : ℕ) → j < n → Proper (exact (take u ps) j)
        proper u = f.proper (take u ps) (inside_take u ps rest)

    total_more : (p : Matrix) (ps : List Matrix) → InsideEach c (p ∷ ps) → (i : ℕ) → i < n
        → total (p ∷ ps) i ≈ whole (payoff i) ⊕ weigh n (p i) (total ps)
    total_more p ps inside i l =
        subst (λ s. s ≈ whole (payoff i) ⊕ weigh n (p i) (total ps)) (sym (sum_first (length ps) (λ u. exact (take u (p ∷ ps)) i)))
        (add_same (exact [] i) (whole (payoff i)) (sum_fractions (length ps) (λ u. exact (p ∷ take u ps) i)) (weigh n (p i) (total ps))
        (f.start i l)
        (later_years p ps inside i l))

    pub total_follows : Follows c nothing (λ i. add (payoff i)) total
    unfolding sum_fractions
    total_follows =
        record {
          proper = λ ps inside i l. proper_sum (length ps) (λ u. exact (take u ps) i) (λ u g. f.proper (take u ps) (inside_take u ps inside) i l);
          start = λ i l. refl;
          more = total_more;
        }

  -- Document 01's figures: the share in parts, the mean as the sum of shares in the unit of their premium, and the total of the mean.
  pub shares_follow : (j : ℕ) → Follows c (share_payoff j) plain (share_in_parts n j)
  shares_follow j = follows_as (λ i l. only_if_times (eqb i j) 1 ONE) (λ i l. refl) (unit_plain ONE (share_follows j))

  module _ (premium : ℕ → ℕ) where
    own_premium : (i : ℕ) → i < n → sum_to n (λ j. only_if (eqb i j) 1 * premium j) ≡ premium i
    own_premium i l =
        sum_to_eq n (λ j. only_if (eqb i j) 1 * premium j) (λ j. only_if (eqb j i) (premium j))
        (λ j m. only_if_times (eqb i j) 1 (premium j) ∙ ap (λ x. only_if (eqb i j) x) (omega arith) ∙ ap (λ b. only_if b (premium j)) (eqb_flip i j))
        ∙ sum_to_point n premium i l

    pub means_follow : Follows c premium plain (exact_mean n premium)
    unfolding exact_mean
    means_follow =
        follows_as own_premium (λ i l. refl)
        (sum_follows n (λ j i. only_if (eqb i j) 1 * premium j) (λ j ps i. exact_share n j ps i ⊗ whole (premium j)) (λ j g. unit_plain (premium j) (share_follows j)))

    pub totals_follow : Follows c nothing (λ i. add (premium i)) (exact_total n premium)
    unfolding exact_total
    totals_follow = total_follows (exact_mean n premium) means_follow
