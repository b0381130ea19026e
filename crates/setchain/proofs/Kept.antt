-- Theorems for answers: a promise seen from one state, and how little room a promise leaves its bounds.
use Rattle.std.specs.Prelude.{ℕ, ◌*◌, ◌<◌, List}
use Rattle.std.proofs.Common.{ap, arith, mul-le-mul_right, mul-lt-mul_of_pos_right, le_of_mul-le-mul_right, lt_of_mul-lt-mul_right}
use Rattle.setchain.specs.Fractions.{Fraction, whole, ◌⊕◌, ◌≼◌, ◌≺◌, ◌≈◌, Proper}
use Rattle.setchain.specs.Rows.{SetChain}
use Rattle.setchain.specs.Picks.{Matrix, PicksFor}
use Rattle.setchain.specs.Promise.{Between, NoFurther, Nearer, Nearness, Promise, SomeNear, KeptBy}

-- A promise for every state, seen from state i.
pub at_state : {c : SetChain} {t : ℕ} {near : Nearness} {low high : ℕ → ℕ} {exact : List Matrix → ℕ → Fraction} (i : ℕ) → i < c.states
    → Promise c t near low high exact → KeptBy c t near (λ ps. exact ps i) (low i) (high i)
at_state i l p =
    record {
      contains = λ ps picks. p.contains ps picks i l;
      low_close = record { picks = p.low_close.picks; made = p.low_close.made; close = p.low_close.close i l };
      high_close = record { picks = p.high_close.picks; made = p.high_close.made; close = p.high_close.close i l };
    }

-- What is kept of an exact figure is kept of the same value, written otherwise.
module _ {x y : Fraction} (px : Proper x) (py : Proper y) (e : x ≈ y) where
  between_same : {low high : ℕ} → Between low high x → Between low high y
  between_same {low} {high} h =
      record {
        least = le_of_mul-le-mul_right {k = x.den} (omega (arith, mul-le-mul_right y.den h.least, e)) px;
        most = le_of_mul-le-mul_right {k = x.den} (omega (arith, mul-le-mul_right y.den h.most, e)) px;
      }

  nearer_same : {d : Fraction} {bound : ℕ} → Nearer d bound x → Nearer d bound y
  nearer_same {d} {bound} h =
      record {
        under = lt_of_mul-lt-mul_right x.den (omega (arith, mul-lt-mul_of_pos_right h.under py, ap (λ v. v * d.den) e));
        over = lt_of_mul-lt-mul_right x.den (omega (arith, mul-lt-mul_of_pos_right h.over py, ap (λ v. v * d.den) e));
      }

pub kept_as : {c : SetChain} {t : ℕ} {d : Fraction} {exact exact' : List Matrix → Fraction} {low high : ℕ}
    → ((ps : List Matrix) → PicksFor c t ps → Proper (exact ps) × Proper (exact' ps) × (exact ps ≈ exact' ps))
    → KeptBy c t (Nearer d) exact low high → KeptBy c t (Nearer d) exact' low high
kept_as {c} {t} {d} {exact} {exact'} same k =
    record {
      contains = λ ps picks. let w = same ps picks in between_same w.0 w.1 w.2 (k.contains ps picks);
      low_close = near k.low_close;
      high_close = near k.high_close;
    }
  where
    near : {bound : ℕ} → SomeNear c t (Nearer d) bound exact → SomeNear c t (Nearer d) bound exact'
    near s = let w = same s.picks s.made in record { picks = s.picks; made = s.made; close = nearer_same w.0 w.1 w.2 s.close }

-- A bound near the interval from low to high: at most d below low, and at most d above high; or, where `below` is `◌≺◌`, less than d.
pub record NearInterval (below : Fraction → Fraction → Type 0) (d : Fraction) (low high bound : ℕ) : Type 0 where
  pub not_below : below (whole low) (whole bound ⊕ d)
  pub not_above : below (whole bound) (whole high ⊕ d)

-- So it is where a figure between low and high is near the bound.
module _ (d : Fraction) {bound low high : ℕ} {x : Fraction} (proper : Proper x) (between : Between low high x) where
  pub interval_no_further : NoFurther d bound x → NearInterval ◌≼◌ d low high bound
  interval_no_further near =
      record {
        not_below = le_of_mul-le-mul_right {k = x.den} (omega (arith, mul-le-mul_right d.den between.least, near.under)) proper;
        not_above = le_of_mul-le-mul_right {k = x.den} (omega (arith, mul-le-mul_right d.den between.most, near.over)) proper;
      }

  pub interval_nearer : Nearer d bound x → NearInterval ◌≺◌ d low high bound
  interval_nearer near =
      record {
        not_below = lt_of_mul-lt-mul_right x.den (omega (arith, mul-le-mul_right d.den between.least, near.under));
        not_above = lt_of_mul-lt-mul_right x.den (omega (arith, mul-le-mul_right d.den between.most, near.over));
      }

-- The lows are no further than d apart, and the highs; or, where `below` is `◌≺◌`, nearer than d.
pub record Pinned (below : Fraction → Fraction → Type 0) (d : Fraction) (low high low' high' : ℕ) : Type 0 where
  pub low_below : below (whole low) (whole low' ⊕ d)
  pub low_above : below (whole low') (whole low ⊕ d)
  pub high_below : below (whole high) (whole high' ⊕ d)
  pub high_above : below (whole high') (whole high ⊕ d)

-- A promise leaves its bounds no room but d: two pairs of bounds that keep it are as near to each other, low to low and high to high, as some picks come to each.
module _ {c : SetChain} {t : ℕ} {d : Fraction} {exact : List Matrix → Fraction} {low high low' high' : ℕ}
    (proper : (ps : List Matrix) → PicksFor c t ps → Proper (exact ps)) where
  by_interval : (below : Fraction → Fraction → Type 0) {near : Nearness}
      → ((bound low high : ℕ) (x : Fraction) → Proper x → Between low high x → near bound x → NearInterval below d low high bound)
      → KeptBy c t near exact low high → KeptBy c t near exact low' high' → Pinned below d low high low' high'
  by_interval below {near} interval k k' =
      record {
        low_below = (some_near k low' k'.low_close).not_below;
        low_above = (some_near k' low k.low_close).not_below;
        high_below = (some_near k' high k.high_close).not_above;
        high_above = (some_near k high' k'.high_close).not_above;
      }
    where
      some_near : {low high : ℕ} → KeptBy c t near exact low high → (bound : ℕ) → SomeNear c t near bound exact → NearInterval below d low high bound
      some_near {low} {high} k bound s = interval bound low high (exact s.picks) (proper s.picks s.made) (k.contains s.picks s.made) s.close

  pub pinned_no_further : KeptBy c t (NoFurther d) exact low high → KeptBy c t (NoFurther d) exact low' high' → Pinned ◌≼◌ d low high low' high'
  pinned_no_further = by_interval ◌≼◌ (λ bound low high x. interval_no_further d)

  pub pinned_nearer : KeptBy c t (Nearer d) exact low high → KeptBy c t (Nearer d) exact low' high' → Pinned ◌≺◌ d low high low' high'
  pinned_nearer = by_interval ◌≺◌ (λ bound low high x. interval_nearer d)
