-- The parts of a line: its head, and the two figures that end it.
use Rattle.std.specs.Prelude.{ℕ, suc, ◌+◌, ◌≡◌, List, ◌++◌}
use Rattle.std.proofs.Common.{ap, ◌∙◌, append_assoc, add-one}
use Rattle.sheet_spec.specs.Text.{field, newline, year_word, class_word, premium_word}
use Rattle.sheet_text.specs.Put.{Space, Put}

-- The two figures that end a line.
abbrev pub ends_text : (low high : ℕ) → List ℕ
ends_text low high = field low ++ field high ++ newline

-- What stands before them.
abbrev pub class_head : (year j : ℕ) → List ℕ
class_head year j = year_word ++ field year ++ class_word ++ field (suc j)

abbrev pub premium_head : (year : ℕ) → List ℕ
premium_head year = year_word ++ field year ++ premium_word

-- A head, then the figures.
ends_apart : (x : List ℕ) (low high : ℕ) → x ++ field low ++ field high ++ newline ≡ x ++ ends_text low high
ends_apart x low high =
    ap (λ l. l ++ newline) (append_assoc x (field low) (field high)) ∙ append_assoc x (field low ++ field high) newline

pub ends_space : {l : List ℕ} {at : ℕ} (x : List ℕ) (low high : ℕ) → Space l at (x ++ field low ++ field high ++ newline) → Space l at (x ++ ends_text low high)
ends_space x low high r = rw (ends_apart x low high) at r

pub ends_put : {l : List ℕ} {at : ℕ} {m : List ℕ} {to : ℕ} (x : List ℕ) (low high : ℕ)
    → Put l at (x ++ ends_text low high) m to → Put l at (x ++ field low ++ field high ++ newline) m to
ends_put x low high p = rw (ends_apart x low high) p

-- The class number: the code's j + 1.
pub class_field_space : {l : List ℕ} {at : ℕ} (j : ℕ) → Space l at (field (suc j)) → Space l at (field (j + 1))
class_field_space j r = rw add-one r

pub class_field_put : {l : List ℕ} {at : ℕ} {m : List ℕ} {to : ℕ} (j : ℕ) → Put l at (field (j + 1)) m to → Put l at (field (suc j)) m to
class_field_put j p = rw add-one at p
