-- The causes of src/ by their numbers (document 01, "When a call is declined"; document 02 for those from 16 on), and the number that an answer declines with.
use Rattle.std.specs.Prelude.{ℕ, Result, Ok, Err}
use Rattle.scheme.specs.declared.Cause.{Cause}
use Rattle.scheme.specs.declared.Cause.TheVariants.{Version, LengthField, Size, Length, Start, Horizon, Rule, Band, Sum, Money, Class, Year, Slice, Ready, Base, NotMixing, LastColumn, Count, NoChamber, Frequency}

-- The number of a cause.
abbrev pub cause_number : Cause → ℕ
cause_number Version = 1
cause_number LengthField = 2
cause_number Size = 3
cause_number Length = 4
cause_number Start = 5
cause_number Horizon = 6
cause_number Rule = 7
cause_number Band = 8
cause_number Sum = 9
cause_number Money = 10
cause_number Class = 11
cause_number Year = 12
cause_number Slice = 13
cause_number Ready = 14
cause_number Base = 15
cause_number NotMixing = 16
cause_number LastColumn = 17
cause_number Count = 18
cause_number NoChamber = 19
cause_number Frequency = 21

-- The number that an answer declines with, and 0 where it does not.
abbrev pub number_in : {A : Type 0} → Result A Cause → ℕ
number_in (Ok answer) = 0
number_in (Err cause) = cause_number cause
