-- The lines of a year: its classes, then its premium.
use Rattle.std.specs.Prelude.{ℕ, suc, ◌+◌, ◌*◌, ◌<◌, ◌≡◌, List, ◌++◌, get_or}
use Rattle.std.proofs.Common.{arith, add-one, mul-le-mul_right}
use Rattle.record_spec.specs.Joined.{joined}
use Rattle.sheet_spec.specs.Sheet.{premium_line}
use Rattle.sheet_text.specs.Put.{Space, Put}
use Rattle.sheet_text.specs.Tabled.{class_text, year_text}
use Rattle.sheet_text.specs.Laws.Put.{put_then, space_first, space_next}

-- The figures of a year before n stand below n × (s + 1).
pub year_below : (s n t : ℕ) → t < n → t * suc s + s < n * suc s
year_below s n t h = omega (arith, mul-le-mul_right (suc s) h)

-- The premium line, by the code's place.
abbrev premium_text : (low high : List ℕ) (s year : ℕ) → List ℕ
premium_text low high s year = premium_line year (get_or low (year * (s + 1) + s) 0) (get_or high (year * (s + 1) + s) 0)

parts : (low high : List ℕ) (s year : ℕ) → year_text low high s year ≡ joined s (class_text low high year (year * (s + 1))) ++ premium_text low high s year
unfolding year_text
parts low high s year = rw add-one

-- Space for both, and both in order.
module _ {l : List ℕ} {at : ℕ} (low high : List ℕ) (s year : ℕ) where
  pub year_space_classes : Space l at (year_text low high s year) → Space l at (joined s (class_text low high year (year * (s + 1))))
  year_space_classes r = space_first (premium_text low high s year) (rw (parts low high s year) at r)

  pub year_space_premium : {m : List ℕ} {k : ℕ} → Put l at (joined s (class_text low high year (year * (s + 1)))) m k → Space l at (year_text low high s year)
      → Space m k (premium_text low high s year)
  year_space_premium p r = space_next p (rw (parts low high s year) at r)

  pub year_put : {m : List ℕ} {k : ℕ} {n : List ℕ} {to : ℕ} → Put l at (joined s (class_text low high year (year * (s + 1)))) m k → Put m k (premium_text low high s year) n to
      → Put l at (year_text low high s year) n to
  year_put p q = rw (parts low high s year) (put_then p q)
