-- The order of the states by their payoffs, and by number where payoffs are equal, is a strict total order, from either end.
use Rattle.std.specs.Prelude.{ℕ, ◌<◌, ◌≡◌, refl, ◌⊎◌, Bool, true, false, not, ltb}
use Rattle.std.proofs.Common.{ap, sym, ◌∙◌, inl, inr, true≢false, arith, le_refl, eq-eqb, ne_eqb, lt-ltb, le-ltb, ltb-true}
use Rattle.std.proofs.Math.Decide.{dec_lt}
use Rattle.setchain.specs.Step.{rising, before}
use Rattle.setchain.specs.Certificate.{Ahead}
use Rattle.setchain.proofs.Laws.Fill.{Strict}

-- Two numbers compared.
data Compared (a b : ℕ) : Type 0 where
  less : a < b → Compared a b
  same : a ≡ b → Compared a b
  more : b < a → Compared a b

compared : (a b : ℕ) → Compared a b
compared a b = by (dec_lt a b) (dec_lt b a)
  where
    by : Dec (a < b) → Dec (b < a) → Compared a b
    by (yes l) d = less l
    by (no l) (yes g) = more g
    by (no l) (no g) = same (omega arith)

-- The order by payoffs, from each of its tests.
rising_less : (f : ℕ → ℕ) (k j : ℕ) → f k < f j → rising f k j ≡ true
rising_less f k j h = simp (lt-ltb (f k) (f j) h)

rising_tie : (f : ℕ → ℕ) (k j : ℕ) → f k ≡ f j → rising f k j ≡ ltb k j
rising_tie f k j e = simp (le-ltb (f k) (f j) (omega arith), eq-eqb (f k) (f j) e)

rising_more : (f : ℕ → ℕ) (k j : ℕ) → f j < f k → rising f k j ≡ false
rising_more f k j h = simp (le-ltb (f k) (f j) (omega arith), ne_eqb (f k) (f j) (λ e. omega arith))

rising_means : (f : ℕ → ℕ) (k j : ℕ) → rising f k j ≡ true → (f k < f j) ⊎ (f k ≡ f j) × (k < j)
rising_means f k j h = by (compared (f k) (f j))
  where
    by : Compared (f k) (f j) → (f k < f j) ⊎ (f k ≡ f j) × (k < j)
    by (less l) = inl l
    by (same e) = inr (e, ltb-true k j (sym (rising_tie f k j e) ∙ h))
    by (more g) = absurd (true≢false (sym h ∙ rising_more f k j g))

ltb_flip : (k j : ℕ) → (k ≡ j → ⊥) → ltb k j ≡ not (ltb j k)
ltb_flip k j d = by (compared k j)
  where
    by : Compared k j → ltb k j ≡ not (ltb j k)
    by (less l) = lt-ltb k j l ∙ sym (ap not (le-ltb j k (omega arith)))
    by (same e) = absurd (d e)
    by (more g) = le-ltb k j (omega arith) ∙ sym (ap not (lt-ltb j k g))

-- It is a strict total order.
rising_strict : (f : ℕ → ℕ) → Strict (rising f)
rising_strict f = record { itself = λ j. rising_tie f j j refl ∙ le-ltb j j (le_refl j); either = other; onward = further }
  where
    other : (k j : ℕ) → (k ≡ j → ⊥) → rising f k j ≡ not (rising f j k)
    other k j d = by (compared (f k) (f j))
      where
        by : Compared (f k) (f j) → rising f k j ≡ not (rising f j k)
        by (less l) = rising_less f k j l ∙ sym (ap not (rising_more f j k l))
        by (same e) = rising_tie f k j e ∙ ltb_flip k j d ∙ sym (ap not (rising_tie f j k (sym e)))
        by (more g) = rising_more f k j g ∙ sym (ap not (rising_less f j k g))

    further : (i k j : ℕ) → rising f i k ≡ true → rising f k j ≡ true → rising f i j ≡ true
    further i k j h g = by (rising_means f i k h) (rising_means f k j g)
      where
        by : (f i < f k) ⊎ (f i ≡ f k) × (i < k) → (f k < f j) ⊎ (f k ≡ f j) × (k < j) → rising f i j ≡ true
        by (inl a) (inl b) = rising_less f i j (omega arith)
        by (inl a) (inr b) = rising_less f i j (omega arith)
        by (inr a) (inl b) = rising_less f i j (omega arith)
        by (inr a) (inr b) = rising_tie f i j (a.0 ∙ b.0) ∙ lt-ltb i j (omega arith)

-- And so is the same order from its other end.
pub before_strict : (high : Bool) (f : ℕ → ℕ) → Strict (before high f)
before_strict false f = rising_strict f
before_strict true f =
    record {
      itself = (rising_strict f).itself;
      either = λ k j d. (rising_strict f).either j k (λ e. d (sym e));
      onward = λ i k j h g. (rising_strict f).onward j k i g h;
    }

-- A state whose payoff comes before another's comes before it.
pub before_ahead : (high : Bool) (f : ℕ → ℕ) (k j : ℕ) → Ahead high (f k) (f j) → before high f k j ≡ true
before_ahead false f k j h = rising_less f k j h
before_ahead true f k j h = rising_less f j k h
