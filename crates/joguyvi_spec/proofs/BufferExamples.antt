-- Lent buffers of several lengths, computed.
use Rattle.std.specs.Prelude.{ℕ, ◌≡◌, refl, List, [], ◌∷◌, ◌++◌, length, replicate}
use Rattle.std.proofs.Common.{ap, arith}
use Rattle.scheme.specs.Tables.{tab}
use Rattle.joguyvi_spec.specs.Buffers.{buffer_cause, buffers_cause, filled_where, copied_front, padded32, BufferPost, BuffersPost}

-- Buffers of two and three numbers.
abbrev two : List ℕ
two = 7 ∷ 7 ∷ []

abbrev three : List ℕ
three = 7 ∷ 7 ∷ 7 ∷ []

-- A buffer of two numbers is of size 2; one of three is cause 13, also beside one that fits.
pub sizes : (buffer_cause 2 two ≡ 0) × (buffers_cause 2 two two ≡ 0) × (buffers_cause 2 two three ≡ 13) × (buffers_cause 2 three two ≡ 13)
sizes = (refl, refl, refl, refl)

-- Filled where the number is 0, and left as it was otherwise.
pub fillings : (filled_where 0 three two ≡ three) × (filled_where 13 three two ≡ two)
fillings = (refl, refl)

-- All of a list, its first two numbers, and nothing of one that is too short.
pub fronts : (copied_front (1 ∷ 2 ∷ []) two ≡ 1 ∷ 2 ∷ []) × (copied_front (1 ∷ 2 ∷ 3 ∷ []) two ≡ 1 ∷ 2 ∷ []) × (copied_front (1 ∷ 2 ∷ []) three ≡ three)
unfolding tab
fronts = (refl, refl, refl)

-- Of a short list all numbers and then another, of a long one the first 32.
pub padded : (padded32 {A = ℕ} 5 two ≡ two ++ replicate 30 5) × (padded32 {A = ℕ} 5 (replicate 32 7 ++ 9 ∷ []) ≡ replicate 32 7)
padded = (refl, refl)

-- A call that fills one buffer may not leave it as it was, nor answer another number.
pub one_filled : BufferPost 0 three two 0 three × ¬ BufferPost 0 three two 0 two × ¬ BufferPost 13 three two 0 three
one_filled = (
  record { answer = refl; filled = refl },
  λ h. omega (arith, ap length h.filled),
  λ h. omega (arith, h.answer),
)

-- A call that fills two may not exchange them, and declined it leaves both as they were.
pub both_filled :
    BuffersPost 0 two three three two 0 two three × ¬ BuffersPost 0 two three three two 0 three three × ¬ BuffersPost 0 two three three two 0 two two
    × BuffersPost 13 two three three two 13 three two
both_filled = (
  record { answer = refl; filled = refl; other_filled = refl },
  λ h. omega (arith, ap length h.filled),
  λ h. omega (arith, ap length h.other_filled),
  record { answer = refl; filled = refl; other_filled = refl },
)
