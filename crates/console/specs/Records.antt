-- The records that a check program reads, each behind its length in two bytes.
use Rattle.std.specs.Prelude.{ℕ, ◌+◌, List, take, drop}
use Rattle.big_endian_spec.specs.Numbers.{number_at}

-- The record whose length stands at a place, or as much of it as the input has.
unfoldable pub record_at : (input : List ℕ) (at : ℕ) → List ℕ
record_at input at = take (number_at 2 input at) (drop (at + 2) input)
