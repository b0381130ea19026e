-- Where a record's fields stand and what they hold (document 01, "Record", and document 02, item 5), over any layout: what its versions differ in are parameters.
use Rattle.std.specs.Prelude.{ℕ, ◌+◌, ◌-◌, ◌*◌, Bool, cond, not, ◌||◌, List, eqb, get_or}
use Rattle.scheme.specs.declared.Scheme.{Scheme}
use Rattle.big_endian_spec.specs.Numbers.{be_at}
use Rattle.scheme.specs.Stored.{scheme_of}

-- What the layouts of the versions differ in.
pub record Layout : Type 0 where
  -- What byte 0 holds.
  pub version : ℕ
  -- How many bytes the header has after the horizon's.
  pub further : ℕ
  -- What each of them holds, where there are m columns.
  pub holds : (m : ℕ) → ℕ → ℕ
  -- How many bytes a premium has.
  pub width : ℕ

-- How many bytes every header has: the version, the length, s, m, the start and the horizon, bytes 0 to 6.
abbrev pub HEADER : ℕ
HEADER = 7

-- How many bytes a band's end has, and a band, "lower and upper, 4 bytes each".
abbrev pub END_WIDTH : ℕ
END_WIDTH = 4

abbrev pub BAND_WIDTH : ℕ
BAND_WIDTH = 8

-- "Byte 0: version, 1.", no byte of the header after the horizon's, "premiums of 4 bytes".
abbrev pub version1 : Layout
version1 = record { version = 1; further = 0; holds = λ m k. 0; width = 4 }

-- "byte 7 holds the claim number that opens the last column, m − 1. Rules start at byte 8.", "a premium in 3 bytes" (document 02, item 5).
abbrev pub version2 : Layout
version2 = record { version = 2; further = 1; holds = λ m k. m - 1; width = 3 }

-- There is no such version: it is neither 1 nor 2.
abbrev pub other_version : (version : ℕ) → Bool
other_version version = not (eqb version 1 || eqb version 2)

-- The layout of a version; where there is no such version, which is cause 1, that of version 1.
unfoldable pub layout_of : (version : ℕ) → Layout
layout_of version = cond (eqb version 2) version2 version1

-- The header's length: the rules start there.
abbrev pub header_length : Layout → ℕ
header_length y = HEADER + y.further

-- "Length = 7 + s × m + 8 × m + 4 × s", and in version 2 "8 + s × m + 8 × m + 3 × s".
abbrev pub length_of : Layout → (s m : ℕ) → ℕ
length_of y s m = header_length y + s * m + BAND_WIDTH * m + y.width * s

-- "Then s × m rule bytes, class by class": the row of class i, counted from 0.
abbrev pub row_place : Layout → (m : ℕ) → (i : ℕ) → ℕ
row_place y m i = header_length y + i * m

-- "m bands of lower and upper, 4 bytes each": the band of column k.
abbrev pub band_place : Layout → (s m : ℕ) → (k : ℕ) → ℕ
band_place y s m k = header_length y + s * m + k * BAND_WIDTH

-- "s premiums of 4 bytes", in version 2 of 3: the premium of class i, counted from 0.
abbrev pub premium_place : Layout → (s m : ℕ) → (i : ℕ) → ℕ
premium_place y s m i = header_length y + s * m + m * BAND_WIDTH + i * y.width

-- "Byte 0: version".
abbrev pub version_in : List ℕ → ℕ
version_in bytes = get_or bytes 0 0

-- The layout of a record, found from its version.
abbrev pub layout_in : List ℕ → Layout
layout_in bytes = layout_of (version_in bytes)

-- "Byte 3: s."
abbrev pub classes_in : List ℕ → ℕ
classes_in bytes = get_or bytes 3 0

-- "Byte 4: m."
abbrev pub columns_in : List ℕ → ℕ
columns_in bytes = get_or bytes 4 0

-- The scheme that stands in the bytes by a layout, with s classes and m columns.
abbrev pub scheme_from : Layout → List ℕ → (s m : ℕ) → Scheme
scheme_from y bytes s m =
    scheme_of s m (get_or bytes 5 0) (get_or bytes 6 0)
    (λ i k. get_or bytes (row_place y m i + k) 0)
    (λ i k. be_at END_WIDTH bytes (band_place y s m k))
    (λ i k. be_at END_WIDTH bytes (band_place y s m k + END_WIDTH))
    (λ i. be_at y.width bytes (premium_place y s m i))

-- The scheme that stands in the bytes: "Byte 5: start. Byte 6: horizon. Then s × m rule bytes … m bands … s premiums".
abbrev pub scheme_in : List ℕ → Scheme
scheme_in bytes = scheme_from (layout_in bytes) bytes (classes_in bytes) (columns_in bytes)
