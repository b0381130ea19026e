-- The rule row of a class, as a part of the record (document 01, "Record", and document 02, item 5).
use Rattle.std.specs.Prelude.{ℕ, ◌-◌, cond, List, [], ◌∷◌, eqb, take, drop}
use Rattle.scheme.specs.FirstCause.{◌when◌, first_of}
use Rattle.scheme.specs.Cause.{outside}
use Rattle.record_spec.specs.Layout.{layout_in, row_place, classes_in, columns_in}
use Rattle.record_spec.specs.Read.{read_cause}

-- "reading the record tells which cause, and where it is accepted the cause was 11".
abbrev pub rule_row_cause : List ℕ → ℕ → ℕ
rule_row_cause bytes class = first_of (read_cause bytes ∷ 11 when outside (classes_in bytes) class ∷ [])

-- "m bytes from 7 + (class − 1) × m", in version 2 from 8; "an empty part for every cause".
unfoldable pub rule_row : List ℕ → ℕ → List ℕ
rule_row bytes class =
    cond (eqb (rule_row_cause bytes class) 0)
    (take (columns_in bytes) (drop (row_place (layout_in bytes) (columns_in bytes) (class - 1)) bytes))
    []
