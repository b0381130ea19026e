-- Numbers in bytes, over any width (document 01, "Record": "All numbers big-endian").
use Rattle.std.specs.Prelude.{ℕ, zero, suc, ◌+◌, ◌*◌, ◌/◌, ◌%◌, ◌<◌, Bool, cond, ◌&&◌, List, [], ◌∷◌, ◌++◌, leb, length, get_or, take, drop}
use Rattle.std.proofs.lemmas.List.Edits.{sets}

-- Each entry of the list is a byte.
abbrev pub Bytes : List ℕ → Type 0
Bytes bytes = (k : ℕ) → get_or bytes k 0 < 256

-- The number that stands in `width` bytes from `place` on.
unfoldable pub be_at : (width : ℕ) → List ℕ → (place : ℕ) → ℕ
be_at zero bytes place = 0
be_at (suc w) bytes place = be_at w bytes place * 256 + get_or bytes (place + w) 0

-- The `width` bytes of x.
unfoldable pub be_bytes : (width : ℕ) → ℕ → List ℕ
be_bytes zero x = []
be_bytes (suc w) x = be_bytes w (x / 256) ++ (x % 256 ∷ [])

-- The bytes hold `width` bytes from `place` on.
abbrev pub holds : (width : ℕ) → List ℕ → (place : ℕ) → Bool
holds width bytes place = leb (place + width) (length bytes)

-- Reading: the number that stands there, and 0 where it has more than 4 bytes or the bytes do not hold it.
unfoldable pub number_at : (width : ℕ) → List ℕ → (place : ℕ) → ℕ
number_at width bytes place = cond (leb width 4 && holds width bytes place) (be_at width bytes place) 0

-- Putting: the bytes of x laid there, and the bytes as they were where they do not hold it.
unfoldable pub number_put : (width : ℕ) → List ℕ → (place : ℕ) → ℕ → List ℕ
number_put width bytes place x = cond (holds width bytes place) (sets bytes place (be_bytes width x)) bytes

-- Copying: `width` bytes from `place` on laid at `to`, and the bytes as they were where either do not hold so many.
unfoldable pub part_put : (width : ℕ) → List ℕ → (place : ℕ) → (out : List ℕ) → (to : ℕ) → List ℕ
part_put width bytes place out to = cond (holds width bytes place && holds width out to) (sets out to (take width (drop place bytes))) out
