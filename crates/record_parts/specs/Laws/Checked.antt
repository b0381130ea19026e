-- What a test of a check's answer tells of the number that it declines with.
use Rattle.std.specs.Prelude.{ℕ, ◌≡◌, true, false, Result, Ok, Err, is_ok}
use Rattle.std.proofs.Common.{sym, ◌∙◌, true≢false}
use Rattle.scheme.specs.declared.Cause.{Cause}
use Rattle.scheme.specs.Number.{number_in}
use Rattle.scheme.proofs.Laws.Number.{cause_some}

-- The number of a check that is passed is 0.
pub passed_none : {A : Type 0} (checked : Result A Cause) {number : ℕ} → is_ok checked ≡ true → number_in checked ≡ number → number ≡ 0
passed_none (Ok answer) passed is = sym is
passed_none (Err cause) passed is = absurd (true≢false (sym passed))

-- That of one that declines is not.
pub declined_some : {A : Type 0} (checked : Result A Cause) {number : ℕ} → is_ok checked ≡ false → number_in checked ≡ number → number ≡ 0 → ⊥
declined_some (Ok answer) declined is none = true≢false declined
declined_some (Err cause) declined is none = cause_some cause (is ∙ none)
