-- What holds of bytes that none of the causes 1 to 4 and 17 declines (document 01, "Record", and document 02, item 5), line by line and together.
use Rattle.std.specs.Prelude.{ℕ, ◌+◌, ◌≤◌, ◌<◌, ◌≡◌, List, length, get_or}
use Rattle.big_endian_spec.specs.Numbers.{be_at}
use Rattle.record_spec.specs.Layout.{HEADER, version_in, layout_in, length_of, classes_in, columns_in}

-- There is a byte, and byte 0 is the version of the layout that was found.
pub record VersionFits (bytes : List ℕ) : Type 0 where
  pub some : 1 ≤ length bytes
  pub version : version_in bytes ≡ (layout_in bytes).version

-- There is a header, and its length field says how many bytes were given.
pub record FieldFits (bytes : List ℕ) : Type 0 where
  pub header : HEADER ≤ length bytes
  pub field : be_at 2 bytes 1 ≡ length bytes

-- s and m are in their ranges.
pub record SizesFit (bytes : List ℕ) : Type 0 where
  pub some_class : 1 ≤ classes_in bytes
  pub classes : classes_in bytes ≤ 32
  pub some_column : 1 ≤ columns_in bytes
  pub columns : columns_in bytes ≤ 8

-- The length is that of the formula.
pub record LengthFits (bytes : List ℕ) : Type 0 where
  pub whole : length bytes ≡ length_of (layout_in bytes) (classes_in bytes) (columns_in bytes)

-- The header's further bytes hold what the layout says.
pub record FurtherFits (bytes : List ℕ) : Type 0 where
  pub further : (k : ℕ) → k < (layout_in bytes).further → get_or bytes (HEADER + k) 0 ≡ (layout_in bytes).holds (columns_in bytes) k

-- All of it.
pub record Framed (bytes : List ℕ) : Type 0 where
  pub version : version_in bytes ≡ (layout_in bytes).version
  pub header : HEADER ≤ length bytes
  pub field : be_at 2 bytes 1 ≡ length bytes
  pub some_class : 1 ≤ classes_in bytes
  pub classes : classes_in bytes ≤ 32
  pub some_column : 1 ≤ columns_in bytes
  pub columns : columns_in bytes ≤ 8
  pub whole : length bytes ≡ length_of (layout_in bytes) (classes_in bytes) (columns_in bytes)
  pub further : (k : ℕ) → k < (layout_in bytes).further → get_or bytes (HEADER + k) 0 ≡ (layout_in bytes).holds (columns_in bytes) k
