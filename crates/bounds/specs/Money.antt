-- Money in tenths of a cent and in cents (document 02, item 6): what the private functions take and leave.
use Rattle.std.specs.Prelude.{ℕ, ◌*◌, ◌≤◌, ◌<◌, ◌≡◌, Bool, true, false, List, length}
use Rattle.setchain.specs.Sums.{at}
use Rattle.setchain.specs.Rounding.{rounded}
use Rattle.setchain.specs.Years.{CENT, tenths}
use Rattle.bounds_spec.specs.Answers.{BoundsAnswer, Answered, Refused}

-- The premiums in tenths, in an array of 32.
pub record TenthsPost (premiums out : List ℕ) : Type 0 where
  pub each : (i : ℕ) → i < 32 → at out i ≡ tenths (at premiums) i

-- Low and high in cents.
abbrev pub in_cents : BoundsAnswer → BoundsAnswer
in_cents (Answered low high) = Answered (rounded false CENT low) (rounded true CENT high)
in_cents (Refused number) = Refused number

-- Places that are apart, and no further than the numbers of a table's year.
pub record RoundMeansPre (stride : ℕ) : Type 0 where
  pub apart : 1 ≤ stride
  pub within : stride ≤ 33

-- The number at each place u × stride is rounded, and no other has changed.
pub record RoundMeansPost (high : Bool) (stride : ℕ) (before after : List ℕ) : Type 0 where
  pub size : length after ≡ length before
  pub own : (u : ℕ) → u * stride < length before → at after (u * stride) ≡ rounded high CENT (at before (u * stride))
  pub other : (p : ℕ) → ((u : ℕ) → p ≡ u * stride → ⊥) → at after p ≡ at before p
