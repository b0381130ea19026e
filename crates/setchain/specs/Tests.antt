-- Tests over all indices below a count, and the first number that passes a test.
use Rattle.std.specs.Prelude.{ℕ, zero, suc, Bool, false, not, cond, ◌||◌}

-- The test passes at some index below n.
unfoldable pub any_below : ℕ → (ℕ → Bool) → Bool
any_below zero test = false
any_below (suc n) test = any_below n test || test n

-- It passes at every index below n: it fails at none.
abbrev pub all_below : ℕ → (ℕ → Bool) → Bool
all_below n test = not (any_below n (λ k. not (test k)))

-- The first of so many numbers, from one on, at which the test passes, or 0 where it passes at none of them.
unfoldable pub first_from : (many from : ℕ) → (ℕ → Bool) → ℕ
first_from zero from test = 0
first_from (suc many) from test = cond (test from) from (first_from many (suc from) test)
