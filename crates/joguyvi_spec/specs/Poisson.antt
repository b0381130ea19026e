-- The bands of two claim frequencies (document 02, item 10).
use Rattle.std.specs.Prelude.{ℕ, ◌≡◌, List, [], ◌∷◌}
use Rattle.scheme.specs.FirstCause.{first_of}
use Rattle.scheme.specs.Access.{BAND_PLACES}
use Rattle.poisson_spec.specs.Answer.{BandsAnswer, bands_cause, bands_answer, BandsPromise}
use Rattle.joguyvi_spec.specs.Buffers.{buffers_cause, filled_where, BuffersPost}

-- What is answered and left for bands into two buffers: their cause, then 13 where a buffer is not of 8 numbers.
abbrev pub PutBandsPost : BandsAnswer → (lower upper : List ℕ) (number : ℕ) (lower' upper' : List ℕ) → Type 0
PutBandsPost answer lower upper =
    BuffersPost (first_of (answer.number ∷ buffers_cause BAND_PLACES lower upper ∷ [])) answer.lower answer.upper lower upper

-- The number for them: their cause, then 13 where a buffer is not of 8 numbers.
abbrev pub poisson_number : (first second columns : ℕ) (lower upper : List ℕ) → ℕ
poisson_number first second columns lower upper = first_of (bands_cause first second columns ∷ buffers_cause BAND_PLACES lower upper ∷ [])

-- joguyvi_poisson: what it answers and leaves.
pub record PoissonCall (first second columns : ℕ) (lower upper : List ℕ) (number : ℕ) (lower' upper' : List ℕ) : Type 0 where
  pub answer : number ≡ poisson_number first second columns lower upper
  pub lowers : lower' ≡ filled_where number (bands_answer first second columns).lower lower
  pub uppers : upper' ≡ filled_where number (bands_answer first second columns).upper upper
  -- The buffers' numbers keep what is promised (crate poisson_spec).
  pub promise : BandsPromise first second columns number lower' upper'
