-- The sheet's text (document 01, "Sheet program and examples"), as bytes.
use Rattle.std.specs.Prelude.{ℕ, zero, suc, ◌+◌, ◌/◌, ◌%◌, cond, List, [], ◌∷◌, ◌++◌, ltb}

-- The decimal digits of x, at most as many as `most`.
unfoldable pub digits_within : ℕ → ℕ → List ℕ
digits_within zero x = []
digits_within (suc most) x = cond (ltb x 10) ((48 + x) ∷ []) (digits_within most (x / 10) ++ ((48 + x % 10) ∷ []))

-- The two digits of a number below 100.
abbrev pub two_digits : ℕ → List ℕ
two_digits x = (48 + x / 10) ∷ (48 + x % 10) ∷ []

-- "Numbers print in decimal without leading zeros": a 64-bit number has at most 20 digits.
abbrev pub decimal : ℕ → List ℕ
decimal x = digits_within 20 x

-- A field: one space, and the number.
abbrev pub field : ℕ → List ℕ
field x = 32 ∷ decimal x

-- Byte 0A.
abbrev pub newline : List ℕ
newline = 10 ∷ []

-- SCHEME.
abbrev pub scheme_word : List ℕ
scheme_word = 83 ∷ 67 ∷ 72 ∷ 69 ∷ 77 ∷ 69 ∷ []

-- YEAR.
abbrev pub year_word : List ℕ
year_word = 89 ∷ 69 ∷ 65 ∷ 82 ∷ []

-- A space and CLASS.
abbrev pub class_word : List ℕ
class_word = 32 ∷ 67 ∷ 76 ∷ 65 ∷ 83 ∷ 83 ∷ []

-- A space and PREMIUM.
abbrev pub premium_word : List ℕ
premium_word = 32 ∷ 80 ∷ 82 ∷ 69 ∷ 77 ∷ 73 ∷ 85 ∷ 77 ∷ []

-- TOTAL.
abbrev pub total_word : List ℕ
total_word = 84 ∷ 79 ∷ 84 ∷ 65 ∷ 76 ∷ []

-- REFUSED.
abbrev pub refused_word : List ℕ
refused_word = 82 ∷ 69 ∷ 70 ∷ 85 ∷ 83 ∷ 69 ∷ 68 ∷ []
