-- The checksum by which long answers are compared, as rust/trials/src/bin/family.rs describes it.
use Rattle.std.specs.Prelude.{ℕ, ◌+◌, ◌*◌, ◌%◌, List, [], ◌∷◌}

-- The checksum with one number more.
abbrev pub added : (sum x : ℕ) → ℕ
added sum x = (sum % 4294967291 * 16777619 + x % 4294967291 + 1) % 4294967291

-- The checksum after all numbers of a list.
unfoldable pub checksum_from : (sum : ℕ) → List ℕ → ℕ
checksum_from sum [] = sum
checksum_from sum (x ∷ xs) = checksum_from (added sum x) xs
