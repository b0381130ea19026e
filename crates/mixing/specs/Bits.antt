-- Sets of classes as the bits of one number, class i + 1 at bit i, and matrices as a row of bits for each class.
use Rattle.std.specs.Prelude.{ℕ, zero, suc, ◌+◌, ◌*◌, ◌/◌, ◌%◌, ◌^◌, ◌<◌, ◌≡◌, Bool, true, cond, List, eqb}
use Rattle.std.specs.Int.Bits.{bit_or}
use Rattle.setchain.specs.Sums.{at, only_if}

-- The binary digit of a test.
abbrev pub digit : Bool → ℕ
digit passes = cond passes 1 0

-- The number whose n lowest bits are those of a test, the lowest first.
unfoldable pub bits_of : ℕ → (ℕ → Bool) → ℕ
bits_of zero test = 0
bits_of (suc n) test = bits_of n (λ k. test (suc k)) * 2 + digit (test 0)

-- All of n bits.
abbrev pub all_bits : ℕ → ℕ
all_bits n = bits_of n (λ k. true)

-- Whether bit k is set.
abbrev pub has_bit : ℕ → ℕ → Bool
has_bit x k = eqb (x / 2 ^ k % 2) 1

-- The bits that are set in some of the first n rows that a set has.
unfoldable pub union_of : ℕ → (set : ℕ) → (rows : ℕ → ℕ) → ℕ
union_of zero set rows = 0
union_of (suc n) set rows = bit_or (union_of n set rows) (only_if (has_bit set n) (rows n))

-- A matrix holds a relation between the classes below n: row i has its bits.
pub record Holds (n : ℕ) (matrix : List ℕ) (related : ℕ → ℕ → Bool) : Type 0 where
  pub rows : (i : ℕ) → i < n → at matrix i ≡ bits_of n (related i)

-- The edges that a matrix has as bits.
abbrev pub bit_edges : List ℕ → (i j : ℕ) → Bool
bit_edges matrix i j = has_bit (at matrix i) j
