-- The record of a scheme (document 01, "Record", and document 02, item 5): its header, rules, bands and premiums one after another, over any layout.
use Rattle.std.specs.Prelude.{ℕ, List, [], ◌∷◌, ◌++◌}
use Rattle.scheme.specs.declared.Scheme.{Scheme}
use Rattle.scheme.specs.Tables.{tab}
use Rattle.scheme.specs.Access.{rule_at, premium_at, lower_at, upper_at, cell_count}
use Rattle.big_endian_spec.specs.Numbers.{be_bytes}
use Rattle.record_spec.specs.Joined.{joined}
use Rattle.record_spec.specs.Layout.{Layout, END_WIDTH, length_of}

-- "Byte 0: version … Bytes 1 to 2: length of the whole record. Byte 3: s. Byte 4: m. Byte 5: start. Byte 6: horizon.", then the layout's further bytes.
unfoldable pub header_bytes : Layout → (length s m start horizon : ℕ) → List ℕ
header_bytes y length s m start horizon = (y.version ∷ []) ++ be_bytes 2 length ++ (s ∷ m ∷ start ∷ horizon ∷ []) ++ tab y.further (y.holds m)

-- The header of a scheme's record.
abbrev pub header_of : Layout → Scheme → List ℕ
header_of y s = header_bytes y (length_of y s.classes s.columns) s.classes s.columns s.start s.horizon

-- The rules, class by class.
abbrev pub rules_of : Scheme → List ℕ
rules_of s = joined s.classes (λ i. tab (cell_count s) (rule_at s i))

-- A band, lower and upper.
abbrev pub band_bytes : ℕ → ℕ → List ℕ
band_bytes lower upper = be_bytes END_WIDTH lower ++ be_bytes END_WIDTH upper

-- The bands of class i + 1, column by column.
abbrev pub bands_of : Scheme → ℕ → List ℕ
bands_of s i = joined (cell_count s) (λ k. band_bytes (lower_at s i k) (upper_at s i k))

-- The premiums, class by class.
abbrev pub premiums_of : Layout → Scheme → List ℕ
premiums_of y s = joined s.classes (λ i. be_bytes y.width (premium_at s i))

-- The record of a scheme: its bands are those of the first class, which all classes share.
unfoldable pub bytes_of : Layout → Scheme → List ℕ
bytes_of y s = header_of y s ++ rules_of s ++ bands_of s 0 ++ premiums_of y s
