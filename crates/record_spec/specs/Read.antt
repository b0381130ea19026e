-- What reading a record answers (document 01, "Record" and "When a call is declined", and document 02, item 5).
use Rattle.std.specs.Prelude.{ℕ, ◌+◌, Bool, cond, not, ◌||◌, List, [], ◌∷◌, eqb, ltb, length, get_or, Result, Ok, Err}
use Rattle.scheme.specs.declared.Cause.{Cause}
use Rattle.scheme.specs.Number.{cause_number}
use Rattle.scheme.specs.declared.Scheme.{Scheme}
use Rattle.setchain.specs.Tests.{any_below}
use Rattle.scheme.specs.FirstCause.{first_of, Line, tests}
use Rattle.scheme.specs.Cause.{sizes_out, cause_of}
use Rattle.big_endian_spec.specs.Numbers.{be_at}
use Rattle.scheme.specs.Stored.{no_scheme}
use Rattle.record_spec.specs.Layout.{HEADER, other_version, version_in, layout_in, length_of, classes_in, columns_in, scheme_in}
use Rattle.record_spec.specs.Frame.{VersionFits, FieldFits, SizesFit, LengthFits, FurtherFits}

-- What reading a record answers: the number of the cause, or 0; and the scheme.
pub record ReadAnswer : Type 0 where
  pub number : ℕ
  pub scheme : Scheme

-- Cause 1: "no byte, or byte 0 is not 1", and not 2 either: "Reading accepts both versions."
abbrev pub version_out : List ℕ → Bool
version_out bytes = eqb (length bytes) 0 || other_version (version_in bytes)

-- Cause 2: "under 7 bytes, or length field differs from bytes given".
abbrev pub field_out : List ℕ → Bool
field_out bytes = ltb (length bytes) HEADER || not (eqb (be_at 2 bytes 1) (length bytes))

-- Cause 4: "length differs from the formula".
abbrev pub length_out : List ℕ → Bool
length_out bytes = not (eqb (length bytes) (length_of (layout_in bytes) (classes_in bytes) (columns_in bytes)))

-- Cause 17: "if, from version 2 on, byte 7 is not m − 1, tested after 4".
abbrev pub further_out : List ℕ → Bool
further_out bytes = any_below (layout_in bytes).further (λ k. not (eqb (get_or bytes (HEADER + k) 0) ((layout_in bytes).holds (columns_in bytes) k)))

-- The table's lines for a record's bytes, in the order of their tests; cause 3 is that of s and m.
abbrev pub frame_table : List ℕ → List Line
frame_table bytes =
    record { number = 1; applies = version_out bytes; Fits = VersionFits bytes }
    ∷ record { number = 2; applies = field_out bytes; Fits = FieldFits bytes }
    ∷ record { number = 3; applies = sizes_out (classes_in bytes) (columns_in bytes); Fits = SizesFit bytes }
    ∷ record { number = 4; applies = length_out bytes; Fits = LengthFits bytes }
    ∷ record { number = 17; applies = further_out bytes; Fits = FurtherFits bytes }
    ∷ []

-- The first of them, or 0.
unfoldable pub frame_cause : List ℕ → ℕ
frame_cause bytes = first_of (tests (frame_table bytes))

-- Causes 1 to 4 and 17 by the bytes, then 5 to 10 by the scheme in them: "the first that applies is returned".
abbrev pub read_cause : List ℕ → ℕ
read_cause bytes = first_of (frame_cause bytes ∷ cause_of (scheme_in bytes) ∷ [])

-- A declined reading: the cause and a scheme of 0.
abbrev pub declined_with : ℕ → ReadAnswer
declined_with number = record { number = number; scheme = no_scheme }

-- The answer of a scheme that is read, or of the cause for which there is none.
abbrev pub read_answer_of : Result Scheme Cause → ReadAnswer
read_answer_of (Ok scheme) = record { number = 0; scheme = scheme }
read_answer_of (Err cause) = declined_with (cause_number cause)

-- The number 0 and the scheme, or the cause and a scheme of 0.
unfoldable pub read_answer : List ℕ → ReadAnswer
read_answer bytes =
    cond (eqb (read_cause bytes) 0)
    (record { number = 0; scheme = scheme_in bytes })
    (declined_with (read_cause bytes))
