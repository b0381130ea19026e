-- Worked cases of causes and answers: each cause has its number of document 01 or 02, an answer that is none tells it, and beside a cause stand zeros.
use Rattle.std.specs.Prelude.{ℕ, ◌≡◌, refl, [], ◌∷◌, map, replicate, Ok, Err}
use Rattle.scheme.specs.declared.Cause.TheVariants.{Version, LengthField, Size, Length, Start, Horizon, Rule, Band, Sum, Money, Class, Year, Slice, Ready, Base, NotMixing, LastColumn, Count, NoChamber, Frequency}
use Rattle.scheme.specs.declared.Row.{Row}
use Rattle.scheme.specs.Number.{cause_number, number_in}
use Rattle.scheme.specs.RowAnswer.{row_answer_of}

-- The causes in the order of their numbers; 20 is none.
numbers : map cause_number (Version ∷ LengthField ∷ Size ∷ Length ∷ Start ∷ Horizon ∷ Rule ∷ Band ∷ Sum ∷ Money ∷ Class ∷ Year ∷ Slice
    ∷ Ready ∷ Base ∷ NotMixing ∷ LastColumn ∷ Count ∷ NoChamber ∷ Frequency ∷ [])
    ≡ 1 ∷ 2 ∷ 3 ∷ 4 ∷ 5 ∷ 6 ∷ 7 ∷ 8 ∷ 9 ∷ 10 ∷ 11 ∷ 12 ∷ 13 ∷ 14 ∷ 15 ∷ 16 ∷ 17 ∷ 18 ∷ 19 ∷ 21 ∷ []
numbers = refl

-- An answer has the number 0, and a cause its own.
answered : number_in {A = ℕ} (Ok 7) ≡ 0
answered = refl

declined : number_in {A = ℕ} (Err Year) ≡ 12
declined = refl

-- A row is answered with its entries, and a cause with its number and zeros.
abbrev row : Row
row = record { lower = replicate 32 3; upper = replicate 32 5 }

row_is : row_answer_of (Ok row) ≡ record { number = 0; lower = replicate 32 3; upper = replicate 32 5 }
row_is = refl

no_row : row_answer_of (Err Class) ≡ record { number = 11; lower = replicate 32 0; upper = replicate 32 0 }
no_row = refl
