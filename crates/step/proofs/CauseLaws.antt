-- The scheme's own cause in what the class's interval row is answered with: any cause but the class's.
-- Assumes nothing.
use Rattle.std.specs.Prelude.{ℕ, ◌≡◌, refl, Result, Ok, Err, IsOk}
use Rattle.std.proofs.Common.{ap, sym, ◌∙◌, true≢false}
use Rattle.scheme.specs.declared.Cause.{Cause}
use Rattle.scheme.specs.declared.Cause.TheVariants.{Version, LengthField, Size, Length, Start, Horizon, Rule, Band, Sum, Money, Class, Year, Slice, Ready, Base, NotMixing, LastColumn, Count, NoChamber, Frequency}
use Rattle.scheme.specs.declared.Row.{Row}
use Rattle.scheme.specs.Number.{cause_number}
use Rattle.scheme.specs.RowAnswer.{row_answer_of}
use Rattle.step.specs.Answer.{scheme_cause}

abbrev pub own_cause : Result Row Cause → ℕ
own_cause interval = scheme_cause (row_answer_of interval).number

-- A cause that is not the class's,
pub own_refused : (cause : Cause) → (cause ≡ Class → ⊥) → cause_number cause ≡ own_cause (Err cause)
own_refused Version other = refl
own_refused LengthField other = refl
own_refused Size other = refl
own_refused Length other = refl
own_refused Start other = refl
own_refused Horizon other = refl
own_refused Rule other = refl
own_refused Band other = refl
own_refused Sum other = refl
own_refused Money other = refl
own_refused Class other = absurd (other refl)
own_refused Year other = refl
own_refused Slice other = refl
own_refused Ready other = refl
own_refused Base other = refl
own_refused NotMixing other = refl
own_refused LastColumn other = refl
own_refused Count other = refl
own_refused NoChamber other = refl
own_refused Frequency other = refl

module _ {interval : Result Row Cause} where
  -- none where there is a row,
  pub own_row : (r : Result Row Cause) → interval ≡ r → IsOk r → 0 ≡ own_cause interval
  own_row (Ok row) is some = sym (ap own_cause is)
  own_row (Err cause) is some = absurd (true≢false (sym some))

  -- and none where the class is none.
  pub own_class : (cause : Cause) → interval ≡ Err cause → cause ≡ Class → 0 ≡ own_cause interval
  own_class cause is class = sym (ap own_cause is ∙ ap (λ c. scheme_cause (cause_number c)) class)
