-- Which counts of years mix a set-chain (document 02, item 3; source 001, theorem 1): in exactly so many years every state can go to every state.
-- States are numbered from 0, below n.
use Rattle.std.specs.Prelude.{ℕ, zero, suc, ◌<◌, ◌≡◌, Bool, true, ◌&&◌, eqb, ltb}
use Rattle.setchain.specs.Tests.{any_below, all_below}
use Rattle.setchain.specs.Rows.{SetChain}

-- The edges of a chain: "each step having a lower entry above 0".
abbrev pub edges_of : SetChain → (i j : ℕ) → Bool
edges_of c i j = ltb 0 ((c.row i).lower j)

-- There is a path of exactly t years from state i to state j: in 0 years none but to the state itself, in one year more an edge to some state k and a path from there.
unfoldable pub path : (n : ℕ) (edges : ℕ → ℕ → Bool) (t i j : ℕ) → Bool
path n edges zero i j = eqb i j
path n edges (suc t) i j = any_below n (λ k. edges i k && path n edges t k j)

-- "every class can go to every class in exactly that many years".
abbrev pub mixes : (n : ℕ) (edges : ℕ → ℕ → Bool) (t : ℕ) → Bool
mixes n edges t = all_below n (λ i. all_below n (path n edges t i))

-- A path told by the states that it passes, one for each of years 0 to t: from i to j, each step an edge to a state below n.
pub record Passes (n : ℕ) (edges : ℕ → ℕ → Bool) (t i j : ℕ) : Type 0 where
  pub state : ℕ → ℕ
  pub begins : state 0 ≡ i
  pub ends : state t ≡ j
  pub within : (u : ℕ) → u < t → state (suc u) < n
  pub steps : (u : ℕ) → u < t → edges (state u) (state (suc u)) ≡ true
