-- The band reader (document 01, "Record": "A reader stands over the lent record and hands out the bands in order.").
use Rattle.std.specs.Prelude.{ℕ, zero, suc, ◌+◌, ◌≡◌, Bool, cond, ◌&&◌, List, [], ◌∷◌, eqb, ltb, Option, Some, None}
use Rattle.record_spec.specs.declared.Band.{Band}
use Rattle.scheme.specs.Tables.{tab}
use Rattle.big_endian_spec.specs.Numbers.{be_at}
use Rattle.record_spec.specs.Layout.{END_WIDTH, layout_in, band_place, classes_in, columns_in}
use Rattle.record_spec.specs.Read.{read_cause}

-- What a reader answers: the ends of the next band, or that there is no more.
pub data BandAnswer : Type 0 where
  Ends : (lower upper : ℕ) → BandAnswer
  NoMore : BandAnswer

-- The answer of a band, or of none.
abbrev pub band_answer_of : Option Band → BandAnswer
band_answer_of (Some band) = Ends band.lower band.upper
band_answer_of None = NoMore

-- The number of each answer: how many bands it hands out.
abbrev pub handed_out : BandAnswer → ℕ
handed_out (Ends lower upper) = 1
handed_out NoMore = 0

-- The values of each answer: the band's lower and upper end, and none where there is no more.
abbrev pub ends_of : BandAnswer → List ℕ
ends_of (Ends lower upper) = lower ∷ upper ∷ []
ends_of NoMore = []

-- The bytes are an accepted record, and the column is one of its m.
abbrev pub stored : List ℕ → ℕ → Bool
stored bytes column = eqb (read_cause bytes) 0 && ltb column (columns_in bytes)

-- The band that stands in the bytes for a column.
abbrev pub band_in : List ℕ → ℕ → BandAnswer
band_in bytes column =
    Ends
    (be_at END_WIDTH bytes (band_place (layout_in bytes) (classes_in bytes) (columns_in bytes) column))
    (be_at END_WIDTH bytes (band_place (layout_in bytes) (classes_in bytes) (columns_in bytes) column + END_WIDTH))

-- "Past the last band, or over a record that isn't accepted, the answer is "no more"."
unfoldable pub band_at : List ℕ → (cursor : ℕ) → BandAnswer
band_at bytes cursor = cond (stored bytes cursor) (band_in bytes cursor) NoMore

-- The number of that answer: 1 where the column's band is stored, otherwise 0.
abbrev pub band_number : List ℕ → (cursor : ℕ) → ℕ
band_number bytes cursor = cond (stored bytes cursor) 1 0

-- Its values: the ends of the column's band where it is stored, otherwise none.
abbrev pub band_ends : List ℕ → (cursor : ℕ) → List ℕ
band_ends bytes cursor = cond (stored bytes cursor) (ends_of (band_in bytes cursor)) []

-- What a reader at this cursor answers, by its number and its values.
pub record BandAnswered (bytes : List ℕ) (cursor : ℕ) (b : BandAnswer) : Type 0 where
  pub answer : b ≡ band_at bytes cursor
  pub number : handed_out b ≡ band_number bytes cursor
  pub ends : ends_of b ≡ band_ends bytes cursor

-- The cursor after that answer: one column on where a band came.
abbrev pub after_at : List ℕ → (cursor : ℕ) → ℕ
after_at bytes cursor = cursor + handed_out (band_at bytes cursor)

-- What a reader is opened over: "Opening it on a declined record gives the number beside a reader over an empty part."
unfoldable pub open_part : List ℕ → List ℕ
open_part bytes = cond (eqb (read_cause bytes) 0) bytes []

-- The answers of n calls in order, the first at this cursor.
unfoldable pub answers : List ℕ → (n : ℕ) → (cursor : ℕ) → List BandAnswer
answers bytes zero cursor = []
answers bytes (suc n) cursor = band_at bytes cursor ∷ answers bytes n (after_at bytes cursor)

-- The cursor after n calls.
unfoldable pub cursor_after : List ℕ → (n : ℕ) → (cursor : ℕ) → ℕ
cursor_after bytes zero cursor = cursor
cursor_after bytes (suc n) cursor = cursor_after bytes n (after_at bytes cursor)

-- The record's bands, column by column.
abbrev pub stored_bands : List ℕ → List BandAnswer
stored_bands bytes = tab (columns_in bytes) (band_in bytes)
