-- The stages in which the code finds a cause: each stage is a part of the whole.
use Rattle.std.specs.Prelude.{ℕ, ◌||◌, List, [], ◌∷◌, ltb, get_or}
use Rattle.setchain.specs.Sums.{sum_to}
use Rattle.setchain.specs.Rows.{ONE}
use Rattle.setchain.specs.Tests.{any_below}
use Rattle.scheme.specs.FirstCause.{◌when◌, first_of}
use Rattle.scheme.specs.Cause.{outside, sizes_cause, band_test}

-- The first of causes 3, 5 and 6, or 0.
abbrev pub form_cause : ℕ → ℕ → ℕ → ℕ → ℕ
form_cause classes columns start horizon = first_of (sizes_cause classes columns ∷ 5 when outside classes start ∷ 6 when ltb 100 horizon ∷ [])

-- The first of causes 8 and 9 for one list of bands, or 0.
abbrev pub band_cause : ℕ → (ℕ → ℕ) → (ℕ → ℕ) → ℕ
band_cause n lower upper =
    first_of (8 when any_below n (λ k. band_test (lower k) (upper k)) ∷ 9 when (ltb ONE (sum_to n lower) || ltb (sum_to n upper) ONE) ∷ [])

-- Cause 10 where one of the first n numbers is above its limit, or 0.
abbrev pub limit_cause : (limit : ℕ) (numbers : List ℕ) (n : ℕ) → ℕ
limit_cause limit numbers n = 10 when any_below n (λ i. ltb limit (get_or numbers i 0))
