-- Worked cases of what reading, writing and the band reader answer, as the code's Option and Result say it.
use Rattle.std.specs.Prelude.{◌≡◌, refl, Ok, Err, Some, None}
use Rattle.scheme.specs.declared.Cause.TheVariants.{Length, Slice}
use Rattle.scheme.specs.Stored.{no_scheme}
use Rattle.record_spec.specs.Read.{read_answer_of}
use Rattle.record_spec.specs.Reader.{Ends, NoMore, band_answer_of}
use Rattle.record_spec.specs.Write.{Written, Declined, write_number, written_length, write_answer_of}

-- A scheme that is read stands beside 0, and a scheme of 0 beside a cause.
read : read_answer_of (Ok no_scheme) ≡ record { number = 0; scheme = no_scheme }
read = refl

not_read : read_answer_of (Err Length) ≡ record { number = 4; scheme = no_scheme }
not_read = refl

-- What is written has a length and no number, a cause has a number and no length.
written : write_answer_of (Ok 111) ≡ Written 111
written = refl

not_written : write_answer_of (Err Slice) ≡ Declined 13
not_written = refl

written_number : write_number (Written 111) ≡ 0
written_number = refl

not_written_length : written_length (Declined 13) ≡ 0
not_written_length = refl

-- A band is handed out with its lower end first.
band : band_answer_of (Some (record { lower = 3; upper = 5 })) ≡ Ends 3 5
band = refl

no_band : band_answer_of None ≡ NoMore
no_band = refl
