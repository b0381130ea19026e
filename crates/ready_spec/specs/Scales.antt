-- What the three ready schemes differ in: their classes, their factor and their premium scale (document 01, "Ready schemes").
use Rattle.std.specs.Prelude.{ℕ, ◌*◌, ◌/◌, cond, List, [], ◌∷◌, eqb, get_or}

-- "Ready schemes": what scheme 1, 2 or 3 has, by its number.
abbrev pub chosen {ℓ} : {A : Type ℓ} → ℕ → A → A → A → A
chosen number first second third = cond (eqb number 1) first (cond (eqb number 2) second third)

-- "Ready schemes": "Scheme 1: s 18 … Scheme 2: s 18 … Scheme 3: s 24".
abbrev pub classes_of : ℕ → ℕ
classes_of number = chosen number 18 18 24

-- "Ready schemes": "Scheme 1: … c 3. Scheme 2: … c 4. Scheme 3: … c 4".
abbrev pub factor_of : ℕ → ℕ
factor_of number = chosen number 3 4 4

-- "Ready schemes": "Tenths by class", 1.
unfoldable pub scale1 : List ℕ
scale1 =
    792 ∷ 822 ∷ 855 ∷ 888 ∷ 938 ∷ 996 ∷ 1000 ∷ 1000 ∷ 1000 ∷ 1000 ∷ 1802 ∷ 1951 ∷ 2208 ∷ 2379 ∷ 2581 ∷ 2824 ∷ 3066 ∷ 3579 ∷ []

-- "Ready schemes": "Tenths by class", 2.
unfoldable pub scale2 : List ℕ
scale2 =
    701 ∷ 731 ∷ 764 ∷ 802 ∷ 865 ∷ 919 ∷ 982 ∷ 1000 ∷ 1000 ∷ 1000 ∷ 1551 ∷ 1676 ∷ 1793 ∷ 1970 ∷ 2120 ∷ 2297 ∷ 2509 ∷ 2944 ∷ []

-- "Ready schemes": "Tenths by class", 3.
unfoldable pub scale3 : List ℕ
scale3 =
    541 ∷ 570 ∷ 604 ∷ 642 ∷ 785 ∷ 839 ∷ 901 ∷ 975 ∷ 1000 ∷ 1000 ∷ 1471 ∷ 1596 ∷ 1740 ∷ 1890 ∷ 2040 ∷ 2217 ∷ 2336 ∷ 2416 ∷ 2609 ∷ 2837 ∷ 3111 ∷ 3148 ∷ 3435 ∷ 3953 ∷ []

-- "Ready schemes": the tenths of a percent of class i + 1.
abbrev pub tenths_of : ℕ → ℕ → ℕ
tenths_of number i = get_or (chosen number scale1 scale2 scale3) i 0

-- "Ready schemes": "Premium = base × tenths of a percent / 1000, rounded down", of class i + 1.
abbrev pub premium_of : ℕ → ℕ → ℕ → ℕ
premium_of number base i = base * tenths_of number i / 1000
