-- What an answer's number tells: a cause is never 0, and a cause that `?` passes on keeps its number.
use Rattle.std.proofs.Common.{◌≡◌, refl, ℕ, ◌≤◌, sym, ap, ◌∙◌, arith, true≢false, Result, Ok, Err}
use Rattle.std.specs.Prelude.{cond, eqb, IsOk, IsErr, IsErrAnd}
use Rattle.scheme.specs.declared.Cause.{Cause}
use Rattle.scheme.specs.declared.Cause.TheVariants.{Version, LengthField, Size, Length, Start, Horizon, Rule, Band, Sum, Money, Class, Year, Slice, Ready, Base, NotMixing, LastColumn, Count, NoChamber, Frequency}
use Rattle.scheme.specs.FirstCause.{or_else}
use Rattle.scheme.specs.Number.{cause_number, number_in}
use Rattle.scheme.proofs.Laws.FirstCause.{first_cause, second_cause}

-- No cause has the number 0.
pub cause_some : (cause : Cause) → cause_number cause ≡ 0 → ⊥
cause_some Version none = omega arith
cause_some LengthField none = omega arith
cause_some Size none = omega arith
cause_some Length none = omega arith
cause_some Start none = omega arith
cause_some Horizon none = omega arith
cause_some Rule none = omega arith
cause_some Band none = omega arith
cause_some Sum none = omega arith
cause_some Money none = omega arith
cause_some Class none = omega arith
cause_some Year none = omega arith
cause_some Slice none = omega arith
cause_some Ready none = omega arith
cause_some Base none = omega arith
cause_some NotMixing none = omega arith
cause_some LastColumn none = omega arith
cause_some Count none = omega arith
cause_some NoChamber none = omega arith
cause_some Frequency none = omega arith

-- Every number has two digits at most.
pub cause_most : (cause : Cause) → cause_number cause ≤ 99
cause_most Version = omega arith
cause_most LengthField = omega arith
cause_most Size = omega arith
cause_most Length = omega arith
cause_most Start = omega arith
cause_most Horizon = omega arith
cause_most Rule = omega arith
cause_most Band = omega arith
cause_most Sum = omega arith
cause_most Money = omega arith
cause_most Class = omega arith
cause_most Year = omega arith
cause_most Slice = omega arith
cause_most Ready = omega arith
cause_most Base = omega arith
cause_most NotMixing = omega arith
cause_most LastColumn = omega arith
cause_most Count = omega arith
cause_most NoChamber = omega arith
cause_most Frequency = omega arith

-- An answer to which `?` passed a cause on is that cause.
pub passed_whole : {A : Type 0} (r : Result A Cause) (cause : Cause) → IsErr r × IsErrAnd r (λ e. e ≡ cause) → r ≡ Err cause
passed_whole (Ok answer) cause w = absurd (true≢false (sym w.0))
passed_whole (Err e) cause w = ap Err w.1

-- So it has the cause's number.
pub passed_on : {A : Type 0} (r : Result A Cause) (cause : Cause) → IsErr r × IsErrAnd r (λ e. e ≡ cause) → number_in r ≡ cause_number cause
passed_on r cause w = ap number_in (passed_whole r cause w)

-- The cause of the first of two checks, passed on, is the first of both.
pub first_declines : {A : Type 0} (r : Result A Cause) (cause : Cause) {first : ℕ} (second : ℕ) →
    IsErr r × IsErrAnd r (λ e. e ≡ cause) → cause_number cause ≡ first → number_in r ≡ or_else first second
first_declines r cause {first} second w is =
    passed_on r cause w ∙ is ∙ sym (first_cause first second (λ none. cause_some cause (is ∙ none)))

-- Where the first check finds none, what the second finds is the first of both.
pub second_declines : {number first second : ℕ} → 0 ≡ first → number ≡ second → number ≡ or_else first second
second_declines {number} {first} {second} none is = is ∙ sym (second_cause first second (sym none))

-- An answer without a number is no cause.
pub is_passed : {A : Type 0} (r : Result A Cause) → number_in r ≡ 0 → IsOk r
is_passed (Ok answer) none = refl
is_passed (Err cause) none = absurd (cause_some cause none)

-- The cause of a number, and that of 21 for every other.
unfoldable cause_numbered : ℕ → Cause
cause_numbered n =
    cond (eqb n 1) Version (cond (eqb n 2) LengthField (cond (eqb n 3) Size (cond (eqb n 4) Length (cond (eqb n 5) Start (cond (eqb n 6) Horizon (
    cond (eqb n 7) Rule (cond (eqb n 8) Band (cond (eqb n 9) Sum (cond (eqb n 10) Money (cond (eqb n 11) Class (cond (eqb n 12) Year (
    cond (eqb n 13) Slice (cond (eqb n 14) Ready (cond (eqb n 15) Base (cond (eqb n 16) NotMixing (cond (eqb n 17) LastColumn (cond (eqb n 18) Count (
    cond (eqb n 19) NoChamber (Frequency)))))))))))))))))))

numbered_again : (cause : Cause) → cause_numbered (cause_number cause) ≡ cause
unfolding cause_numbered
numbered_again Version = refl
numbered_again LengthField = refl
numbered_again Size = refl
numbered_again Length = refl
numbered_again Start = refl
numbered_again Horizon = refl
numbered_again Rule = refl
numbered_again Band = refl
numbered_again Sum = refl
numbered_again Money = refl
numbered_again Class = refl
numbered_again Year = refl
numbered_again Slice = refl
numbered_again Ready = refl
numbered_again Base = refl
numbered_again NotMixing = refl
numbered_again LastColumn = refl
numbered_again Count = refl
numbered_again NoChamber = refl
numbered_again Frequency = refl

-- No two causes have one number: an answer's number tells the cause.
pub cause_same : (one other : Cause) → cause_number one ≡ cause_number other → one ≡ other
cause_same one other same = sym (numbered_again one) ∙ ap cause_numbered same ∙ numbered_again other
