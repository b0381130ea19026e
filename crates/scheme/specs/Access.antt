-- What a scheme holds, by class and cell. Classes are numbered from 1 in document 01 and from 0 here: i is class i + 1. A cell is a claim column.
-- Only this module looks into the scheme's arrays.
use Rattle.std.specs.Prelude.{ℕ, ◌+◌, ◌*◌, List, get_or, take}
use Rattle.scheme.specs.declared.Scheme.{Scheme}

-- How far the cells of a class stand after those of the class before it: as many as a class has room for.
abbrev pub CELL_STRIDE : ℕ
CELL_STRIDE = 8

-- How many cells 32 classes have room for.
abbrev pub CELL_PLACES : ℕ
CELL_PLACES = 256

-- How many bands there is room for.
abbrev pub BAND_PLACES : ℕ
BAND_PLACES = 8

-- How many cells a class has.
abbrev pub cell_count : Scheme → ℕ
cell_count s = s.columns

-- The next class, 1 to s, that cell k of class i leads to.
abbrev pub rule_at : Scheme → ℕ → ℕ → ℕ
rule_at s i k = get_or s.rules (i * CELL_STRIDE + k) 0

-- The lower end of the band that all classes share for cell k.
abbrev pub shared_lower : Scheme → ℕ → ℕ
shared_lower s k = get_or s.lowers k 0

-- The upper end.
abbrev pub shared_upper : Scheme → ℕ → ℕ
shared_upper s k = get_or s.uppers k 0

-- The lower end of the band of cell k of class i.
abbrev pub lower_at : Scheme → ℕ → ℕ → ℕ
lower_at s i k = shared_lower s k

-- The upper end.
abbrev pub upper_at : Scheme → ℕ → ℕ → ℕ
upper_at s i k = shared_upper s k

-- Of a list of bands' ends those of class i, as many as it has cells: all classes share them.
unfoldable pub class_bands : (cells : ℕ) → List ℕ → (i : ℕ) → List ℕ
class_bands cells ends i = take cells ends

-- The premium of class i.
abbrev pub premium_at : Scheme → ℕ → ℕ
premium_at s i = get_or s.premiums i 0
