-- The chance of having reached a state (document 02, item 9): its figure year by year, and the exact chance that picks bring.
use Rattle.std.specs.Prelude.{ℕ, zero, suc, Bool, false, cond, ◌&&◌, ◌||◌, List, [], ◌∷◌, eqb, length, drop}
use Rattle.setchain.specs.Sums.{at, only_if}
use Rattle.setchain.specs.Fractions.{Fraction, whole, ◌⊗◌, sum_fractions}
use Rattle.setchain.specs.Rows.{ONE, SetChain}
use Rattle.setchain.specs.Step.{step_figure}
use Rattle.setchain.specs.Picks.{Matrix, entry_of}

-- "The figure is ONE in every year for the class itself. For another class it is 0 in year 0, then the one-year figure of the year before."
unfoldable pub reached_figure : (high : Bool) → SetChain → (j t i : ℕ) → ℕ
reached_figure high c j zero i = only_if (eqb i j) ONE
reached_figure high c j (suc t) i = cond (eqb i j) ONE (step_figure high c.states (c.row i) (reached_figure high c j t))

-- A "sequence of classes, one for each of years 0 to t", year 0 first.
abbrev pub Sequence : Type 0
Sequence = List ℕ

-- It "begins at the start class".
unfoldable pub begins_at : ℕ → Sequence → Bool
begins_at i [] = false
begins_at i (k ∷ ks) = eqb k i

-- It "holds the class asked for at least once".
unfoldable pub holds : ℕ → Sequence → Bool
holds j [] = false
holds j (k ∷ ks) = eqb k j || holds j ks

-- "the product of the t picked entries along it, 1 for t = 0": each year's matrix at the state of that year and the state of the next.
unfoldable pub along : List Matrix → Sequence → Fraction
along [] ks = whole 1
along (p ∷ ps) ks = entry_of (p (at ks 0)) (at ks 1) ⊗ along ps (drop 1 ks)

-- The sum of f over every sequence of m states out of n: each state in turn in the first place, and behind it every sequence of one state less.
unfoldable pub sum_sequences : (n m : ℕ) → (Sequence → Fraction) → Fraction
sum_sequences n zero f = f []
sum_sequences n (suc m) f = sum_fractions n (λ k. sum_sequences n m (λ ks. f (k ∷ ks)))

-- "a sum over every sequence of classes, one for each of years 0 to t, that begins at the start class and holds the class asked for at least once.
-- Each sequence adds the product of the t picked entries along it": of n states, state j seen from state i.
unfoldable pub exact_reached : ℕ → ℕ → List Matrix → ℕ → Fraction
exact_reached n j ps i = sum_sequences n (suc (length ps)) (λ ks. cond (begins_at i ks && holds j ks) (along ps ks) (whole 0))

-- The exact chance times ONE: in parts, the unit of its bounds.
abbrev pub reached_in_parts : ℕ → ℕ → List Matrix → ℕ → Fraction
reached_in_parts n j ps i = exact_reached n j ps i ⊗ whole ONE
