-- The core of the sheet program, between reading and writing (document 01, "Sheet program and examples").
use Rattle.std.specs.Prelude.{ℕ, ◌≤◌, ◌≡◌, List, length, take}
use Rattle.big_endian_spec.specs.Numbers.{Bytes}
use Rattle.sheet_spec.specs.Sheet.{sheet_text}

-- The n bytes that were read, in a buffer of one byte more than a record's length field can say, and a buffer with space for any sheet.
pub record ComposePre (input : List ℕ) (n : ℕ) (out : List ℕ) : Type 0 where
  pub within : n ≤ length input
  pub enough : 65536 ≤ length input
  pub space : 132862 ≤ length out

-- What is printed, the first r bytes of the buffer afterwards.
pub record ComposePost (input : List ℕ) (n : ℕ) (after : List ℕ) (r : ℕ) : Type 0 where
  pub within : r ≤ length after
  -- It is the sheet of the bytes that were read.
  pub text : take r after ≡ sheet_text (take n input)
  -- "All of the input is the record": it is the sheet of the whole input, also where that has more bytes than the buffer.
  pub whole : (all : List ℕ) → Bytes all → take (length input) all ≡ take n input → take r after ≡ sheet_text all
