-- `compose` leaves the sheet of the whole input: a buffer with space for any sheet is never declined.
-- Assumes nothing.
use Rattle.std.specs.Prelude.{ℕ, ◌≡◌, refl, Result, Ok, Err}
use Rattle.std.specs.Result.{result_unwrap_or}
use Rattle.scheme.specs.declared.Cause.{Cause}
use Rattle.record_spec.specs.Write.{write_answer_of, written_length}
use Rattle.sheet.proofs.ComposeLaws.{composed}
use Rattle.sheet.proofs.compose.Goals as goal

-- The length of what was written, and 0 where the call was declined.
unwrapped : (written : Result ℕ Cause) → result_unwrap_or written 0 ≡ written_length (write_answer_of written)
unwrapped (Ok length) = refl
unwrapped (Err cause) = refl

pub returns : goal.returns
returns c =
    rw (c.unwrap_or.ensures, unwrapped c.sheet.result) (composed c.requires c.sheet.ensures.answer c.sheet.auto.out c.sheet.ensures.promise)
