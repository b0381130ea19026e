-- What demand 3 asks of a low and a high figure (document 01, "Years"; of money, document 02, item 6).
use Rattle.std.specs.Prelude.{ℕ, ◌<◌, List}
use Rattle.setchain.specs.Fractions.{Fraction, whole, ◌⊕◌, ◌⊗◌, ◌divided_by◌, ◌≼◌, ◌≺◌}
use Rattle.setchain.specs.Rows.{ONE, SetChain}
use Rattle.setchain.specs.Years.{CENT}
use Rattle.setchain.specs.Picks.{Matrix, PicksFor, exact_share}

-- The exact share times ONE: a share in parts, the unit of its bounds.
abbrev pub share_in_parts : ℕ → ℕ → List Matrix → ℕ → Fraction
share_in_parts n j ps i = exact_share n j ps i ⊗ whole ONE

-- low ≤ exact ≤ high.
pub record Between (low high : ℕ) (exact : Fraction) : Type 0 where
  pub least : whole low ≼ exact
  pub most : exact ≼ whole high

-- The exact figure is no further than d from the bound.
pub record NoFurther (d : Fraction) (bound : ℕ) (exact : Fraction) : Type 0 where
  pub under : exact ≼ whole bound ⊕ d
  pub over : whole bound ≼ exact ⊕ d

-- The exact figure is nearer than d to the bound.
pub record Nearer (d : Fraction) (bound : ℕ) (exact : Fraction) : Type 0 where
  pub under : exact ≺ whole bound ⊕ d
  pub over : whole bound ≺ exact ⊕ d

-- 1 and d / m: how far off a figure may be that was kept to d in a unit m and then rounded to wholes.
abbrev pub with_rounding : ℕ → Fraction → Fraction
with_rounding m d = whole 1 ⊕ d divided_by m

-- "one cent plus t tenths", in cents.
abbrev pub cent_and_tenths : ℕ → Fraction
cent_and_tenths t = whole 1 ⊕ record { num = t; den = CENT }

-- How near an exact figure has to come to a bound: `NoFurther d` or `Nearer d`.
abbrev pub Nearness : Type 1
Nearness = ℕ → Fraction → Type 0

-- For ALL picks for t years, and from every state, the exact figure lies between low and high.
abbrev pub Containment : SetChain → ℕ → (low high : ℕ → ℕ) → (exact : List Matrix → ℕ → Fraction) → Type 0
Containment c t low high exact =
    (ps : List Matrix) → PicksFor c t ps → (i : ℕ) → i < c.states → Between (low i) (high i) (exact ps i)

-- Some picks for t years bring the exact figure near the bound: one list of matrices serves every state.
pub record Closeness (c : SetChain) (t : ℕ) (near : Nearness) (bound : ℕ → ℕ) (exact : List Matrix → ℕ → Fraction) : Type 0 where
  pub picks : List Matrix
  pub made : PicksFor c t picks
  pub close : (i : ℕ) → i < c.states → near (bound i) (exact picks i)

-- Demand 3 for one figure from every state: "For all picks for t years, low ≤ exact … ≤ high", and
-- "For each such low, and for each such high, some picks for t years bring the exact figure, in the same unit, no further than t from it";
-- "For money the closeness wanted of t years is now less than one cent plus t tenths".
pub record Promise (c : SetChain) (t : ℕ) (near : Nearness) (low high : ℕ → ℕ) (exact : List Matrix → ℕ → Fraction) : Type 0 where
  pub contains : Containment c t low high exact
  pub low_close : Closeness c t near low exact
  pub high_close : Closeness c t near high exact

-- Some picks for t years bring one exact figure near the bound.
pub record SomeNear (c : SetChain) (t : ℕ) (near : Nearness) (bound : ℕ) (exact : List Matrix → Fraction) : Type 0 where
  pub picks : List Matrix
  pub made : PicksFor c t picks
  pub close : near bound (exact picks)

-- Demand 3 for one figure of the picks, seen from one state: what an answer's low and high promise.
pub record KeptBy (c : SetChain) (t : ℕ) (near : Nearness) (exact : List Matrix → Fraction) (low high : ℕ) : Type 0 where
  pub contains : (ps : List Matrix) → PicksFor c t ps → Between low high (exact ps)
  pub low_close : SomeNear c t near low exact
  pub high_close : SomeNear c t near high exact
