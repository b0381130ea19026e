-- Matrices of 1, 2, 4 years and so on, and the last count of years that does not mix.
use Rattle.std.specs.Prelude.{ℕ, zero, suc, ◌+◌, ◌^◌, ◌≤◌, ◌<◌, ◌≡◌, true, false, List, [], length, get_or, Option, Some, None}
use Rattle.setchain.specs.Mixing.{path, mixes}
use Rattle.mixing.specs.Bits.{all_bits, bit_edges, Holds}

-- The first `many` of 11 matrices hold the paths of 1, 2, 4 years and so on along the edges of the first of them.
pub record Squares (n : ℕ) (base : List ℕ) (many : ℕ) (squares : List (List ℕ)) : Type 0 where
  pub long : length squares ≡ 11
  pub first : get_or squares 0 [] ≡ base
  pub held : (k : ℕ) → k < many → Holds n (get_or squares k []) (path n (bit_edges base) (2 ^ k))

-- What squaring asks for: a matrix of n rows of n bits in front.
pub record SquaresPre (n full : ℕ) (squares : List (List ℕ)) : Type 0 where
  pub classes : n ≤ 32
  pub bits : full ≡ all_bits n
  pub long : length squares ≡ 11
  pub base : Holds n (get_or squares 0 []) (bit_edges (get_or squares 0 []))

-- The squares so far: k of them do not mix, and one more is stored.
pub record Squaring (n : ℕ) (base : List ℕ) (k : ℕ) (squares : List (List ℕ)) : Type 0 where
  pub few : k ≤ 10
  pub stored : Squares n base (suc k) squares
  pub fails : (j : ℕ) → suc j ≡ k → mixes n (bit_edges base) (2 ^ j) ≡ false

-- What it leaves: the squares up to the first of them that mixes, or all of them.
pub record SquaresPost (n : ℕ) (base : List ℕ) (levels : ℕ) (squares : List (List ℕ)) : Type 0 where
  pub few : levels ≤ 11
  pub stored : Squares n base levels squares
  pub fails : (k : ℕ) → suc k ≡ levels → mixes n (bit_edges base) (2 ^ k) ≡ false
  pub mixing : levels ≤ 10 → mixes n (bit_edges base) (2 ^ levels) ≡ true

-- What the search between the last square that does not mix and twice as many years asks for.
pub record LastPre (n full levels : ℕ) (squares : List (List ℕ)) : Type 0 where
  pub classes : n ≤ 32
  pub bits : full ≡ all_bits n
  pub some : 1 ≤ levels
  pub few : levels ≤ 10
  pub left : SquaresPost n (get_or squares 0 []) levels squares

-- The search so far: `count` does not mix, and 2 to the power of k years more do; `within` holds the paths of `count` years.
pub record Halving (n : ℕ) (base : List ℕ) (levels k : ℕ) (within : List ℕ) (count : ℕ) : Type 0 where
  pub level : k < levels
  pub below : count + 2 ^ k ≤ 2 ^ levels
  pub held : Holds n within (path n (bit_edges base) count)
  pub fails : mixes n (bit_edges base) count ≡ false
  pub mixing : mixes n (bit_edges base) (count + 2 ^ k) ≡ true

-- What it finds: a count that does not mix, where one year more does.
pub record LastPost (n : ℕ) (base : List ℕ) (count : ℕ) : Type 0 where
  pub below : count < 1024
  pub fails : mixes n (bit_edges base) count ≡ false
  pub mixing : mixes n (bit_edges base) (suc count) ≡ true

-- The first count that mixes, where 0 says that none does.
abbrev pub counted : ℕ → Option ℕ
counted zero = None
counted (suc before) = Some (suc before)
