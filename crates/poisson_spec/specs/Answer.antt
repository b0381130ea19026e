-- What asking for the bands of two claim frequencies answers, and what the answer promises (document 02, item 10).
use Rattle.std.specs.Prelude.{ℕ, suc, ◌≤◌, ◌<◌, ◌≡◌, true, false, cond, ◌||◌, List, [], ◌∷◌, eqb, ltb, replicate, Result, Ok, Err}
use Rattle.scheme.specs.declared.Cause.{Cause}
use Rattle.scheme.specs.Number.{cause_number}
use Rattle.poisson_spec.specs.declared.Bands.{Bands}
use Rattle.setchain.specs.Sums.{at}
use Rattle.scheme.specs.Access.{BAND_PLACES}
use Rattle.scheme.specs.FirstCause.{◌when◌, first_of}
use Rattle.poisson_spec.specs.Series.{Bounds}
use Rattle.poisson_spec.specs.Bands.{lower_ends, upper_ends}

-- What asking for bands answers: the number of the cause, or 0; and the lower and upper ends.
pub record BandsAnswer : Type 0 where
  pub number : ℕ
  pub lower : List ℕ
  pub upper : List ℕ

-- The answer of bands, or of the cause for which there are none.
abbrev pub bands_answer_of : Result Bands Cause → BandsAnswer
bands_answer_of (Ok bands) = record { number = 0; lower = bands.lower; upper = bands.upper }
bands_answer_of (Err cause) = record { number = cause_number cause; lower = replicate BAND_PLACES 0; upper = replicate BAND_PLACES 0 }

-- "m outside 2 to 8 is cause 3".
abbrev pub columns_cause : ℕ → ℕ
columns_cause m = 3 when (ltb m 2 || ltb 8 m)

-- "21 if a frequency is above 1,000 or the first exceeds the second".
abbrev pub frequency_cause : (first second : ℕ) → ℕ
frequency_cause first second = 21 when (ltb 1000 first || ltb 1000 second || ltb second first)

-- "tested after 3".
abbrev pub bands_cause : (first second m : ℕ) → ℕ
bands_cause first second m = first_of (columns_cause m ∷ frequency_cause first second ∷ [])

-- The cause's number, and where it is 0 the bands.
unfoldable pub bands_answer : (first second m : ℕ) → BandsAnswer
bands_answer first second m =
    let number : ℕ = bands_cause first second m in
    record {
      number = number;
      lower = cond (eqb number 0) (lower_ends first second m) (replicate BAND_PLACES 0);
      upper = cond (eqb number 0) (upper_ends first second m) (replicate BAND_PLACES 0);
    }

-- "The exact probability formed with such a cut, at either frequency, must lie in the band for every column but the last.": not at the two
-- alone, but at every frequency from the first to the second. "Cut the series after an odd power, 19 or higher, or after an even one, 20 or
-- higher": after any power from 19 on.
pub record BandsPromise (first second m number : ℕ) (lower upper : List ℕ) : Type 0 where
  pub lowers : number ≡ 0 → (f n k : ℕ) → first ≤ f → f ≤ second → 19 ≤ n → suc k < m → Bounds false f n k (at lower k)
  pub uppers : number ≡ 0 → (f n k : ℕ) → first ≤ f → f ≤ second → 19 ≤ n → suc k < m → Bounds true f n k (at upper k)
