-- Sequences of states as a list: what the nested sum over them is compared with (document 02, item 9).
use Rattle.std.specs.Prelude.{ℕ, zero, suc, ◌<◌, Bool, true, false, cond, ◌&&◌, List, [], ◌∷◌, ◌++◌, map, eqb}
use Rattle.setchain.specs.Fractions.{Fraction, whole, ◌⊕◌}
use Rattle.setchain.specs.Reached.{Sequence}

-- A sequence of m states out of n.
pub data SequenceOf (n : ℕ) : ℕ → Sequence → Type 0 where
  empty : SequenceOf n zero []
  more : {m k : ℕ} {ks : Sequence} → k < n → SequenceOf n m ks → SequenceOf n (suc m) (k ∷ ks)

-- The lists of each state below n, one behind another.
unfoldable pub each_of : {A : Type 0} → ℕ → (ℕ → List A) → List A
each_of zero f = []
each_of (suc n) f = each_of n f ++ f n

-- The list of all sequences of m states out of n.
unfoldable pub sequences : (n m : ℕ) → List Sequence
sequences n zero = [] ∷ []
sequences n (suc m) = each_of n (λ k. map (λ ks. k ∷ ks) (sequences n m))

-- The sum of f over a list of sequences.
unfoldable pub sum_of : (Sequence → Fraction) → List Sequence → Fraction
sum_of f [] = whole 0
sum_of f (ks ∷ rest) = f ks ⊕ sum_of f rest

-- Those of a list that pass a test.
unfoldable pub filter : (Sequence → Bool) → List Sequence → List Sequence
filter test [] = []
filter test (ks ∷ rest) = cond (test ks) (ks ∷ filter test rest) (filter test rest)

-- The same states in the same years.
unfoldable pub same : (ks ls : Sequence) → Bool
same [] [] = true
same [] (l ∷ ls) = false
same (k ∷ ks) [] = false
same (k ∷ ks) (l ∷ ls) = eqb k l && same ks ls
