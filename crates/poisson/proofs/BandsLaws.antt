-- The cause of two frequencies by cases, and the answer with a cause and without.
-- Assumes nothing.
use Prim.Native.Nat.{ℕ, ◌≤◌, ◌<◌}
use mathlib.Core.Path.{◌≡◌, sym, ◌∙◌, subst}
use mathlib.Core.Bool.{◌||◌, or-true}
use mathlib.Core.List.{List}
use native.Mathlib.Omega.{arith}
use lib.Dec.{ltb}
use lib.ListN.{replicate}
use borrow.Author.Tests.{lt-ltb, le-ltb}
use Rattle.scheme.specs.Access.{BAND_PLACES}
use Rattle.scheme.proofs.Laws.FirstCause.{answered, declined}
use Rattle.poisson_spec.specs.Answer.{BandsAnswer, frequency_cause, bands_cause, bands_answer, BandsPromise}
use Rattle.poisson_spec.specs.Bands.{lower_ends, upper_ends}
use Rattle.poisson_spec.specs.Theorems.{bands_promise}

module _ (first second : ℕ) where
  pub second_above : 1000 < second → 21 ≡ frequency_cause first second
  second_above h = simp (lt-ltb 1000 second h, or-true (ltb 1000 first))

  pub first_above : second < first → 21 ≡ frequency_cause first second
  first_above h = simp (lt-ltb second first h, or-true (ltb 1000 first || ltb 1000 second))

  pub in_order : first ≤ second → second ≤ 1000 → 0 ≡ frequency_cause first second
  in_order l h = simp (le-ltb 1000 first (omega arith), le-ltb 1000 second h, le-ltb second first l)

-- What is answered keeps its promise; with a cause, and without.
module _ (first second m : ℕ) where
  -- The bands that are answered, and their promise.
  abbrev Met : BandsAnswer → Type 0
  Met answer = (answer ≡ bands_answer first second m) × BandsPromise first second m answer.number answer.lower answer.upper

  met : {answer : BandsAnswer} → answer ≡ bands_answer first second m → Met answer
  met e = (e, subst (λ a. BandsPromise first second m a.number a.lower a.upper) (sym e) (bands_promise first second m))

  pub bands_declined : {number : ℕ} → number ≡ bands_cause first second m → (number ≡ 0 → ⊥)
      → Met (record { number = number; lower = replicate BAND_PLACES 0; upper = replicate BAND_PLACES 0 })
  unfolding bands_answer
  bands_declined {number} e some = met (sym answer)
    where
      none : bands_cause first second m ≡ 0 → ⊥
      none z = some (e ∙ z)

      answer : bands_answer first second m ≡ record { number = number; lower = replicate BAND_PLACES 0; upper = replicate BAND_PLACES 0 }
      answer =
          λ i. record {
            number = sym e i;
            lower = declined (bands_cause first second m) (lower_ends first second m) (replicate BAND_PLACES 0) none i;
            upper = declined (bands_cause first second m) (upper_ends first second m) (replicate BAND_PLACES 0) none i;
          }

  pub bands_answered : {lower upper : List ℕ} → bands_cause first second m ≡ 0 → lower ≡ lower_ends first second m → upper ≡ upper_ends first second m
      → Met (record { number = 0; lower = lower; upper = upper })
  unfolding bands_answer
  bands_answered {lower} {upper} z below above =
      met
      (λ i. record {
        number = sym z i;
        lower = (below ∙ sym (answered (bands_cause first second m) (lower_ends first second m) (replicate BAND_PLACES 0) z)) i;
        upper = (above ∙ sym (answered (bands_cause first second m) (upper_ends first second m) (replicate BAND_PLACES 0) z)) i;
      })
