-- Worked texts: numbers, and lines of Example A.
use Rattle.std.specs.Prelude.{ℕ, ◌≡◌, refl, List, [], ◌∷◌, ◌++◌, length}
use Rattle.std.proofs.Common.{ap, ◌∙◌, arith, take_at}
use Rattle.setchain.specs.Sums.{sum_to, only_if}
use Rattle.setchain.specs.Tests.{any_below}
use Rattle.setchain.specs.Step.{capacity_before, fill_row, step_figure}
use Rattle.setchain.specs.Years.{years_figure}
use Rattle.scheme.proofs.Examples.{scheme_a}
use Rattle.scheme.specs.Tables.{tab}
use Rattle.scheme.specs.Cause.{size_out, start_out, horizon_out, rule_out, band_out, sum_out, premium_out, cause_of}
use Rattle.record_spec.specs.Layout.{layout_of}
use Rattle.record_spec.specs.Joined.{joined}
use Rattle.big_endian_spec.specs.Numbers.{be_at}
use Rattle.scheme.specs.Stored.{up_to, scheme_of}
use Rattle.record_spec.specs.Read.{frame_cause}
use Rattle.record_spec.specs.Write.{Written}
use Rattle.record_spec.proofs.Examples.{example_a, read_a, scheme_a_lem}
use Rattle.record_spec.proofs.DoorLabelExamples.{label_a, read_label}
use Rattle.sheet_spec.specs.Text.{digits_within, two_digits, decimal}
use Rattle.sheet_spec.specs.Answer.{TextPromise}
use Rattle.sheet_spec.specs.Sheet.{class_line, premium_line, year_lines, total_line, refused_line, scheme_line, sheet_of, sheet_text}

-- 7 and 42 in two digits.
pub two_digits_lem : (two_digits 7 ≡ 48 ∷ 55 ∷ []) × (two_digits 42 ≡ 52 ∷ 50 ∷ [])
two_digits_lem = (refl, refl)

-- 0, 10 and the largest 64-bit number, 18446744073709551615.
pub decimal_zero : decimal 0 ≡ 48 ∷ []
unfolding digits_within
decimal_zero = refl

pub decimal_ten : decimal 10 ≡ 49 ∷ 48 ∷ []
unfolding digits_within
decimal_ten = refl

pub decimal_most : decimal 18446744073709551615 ≡ 49 ∷ 56 ∷ 52 ∷ 52 ∷ 54 ∷ 55 ∷ 52 ∷ 52 ∷ 48 ∷ 55 ∷ 51 ∷ 55 ∷ 48 ∷ 57 ∷ 53 ∷ 53 ∷ 49 ∷ 54 ∷ 49 ∷ 53 ∷ []
unfolding digits_within
decimal_most = refl

-- YEAR 0 CLASS 1 0 0.
pub class_line_A : class_line 0 0 0 0 ≡ 89 ∷ 69 ∷ 65 ∷ 82 ∷ 32 ∷ 48 ∷ 32 ∷ 67 ∷ 76 ∷ 65 ∷ 83 ∷ 83 ∷ 32 ∷ 49 ∷ 32 ∷ 48 ∷ 32 ∷ 48 ∷ 10 ∷ []
unfolding digits_within class_line
class_line_A = refl

-- YEAR 1 PREMIUM 10500 11000.
pub premium_line_A : premium_line 1 10500 11000
    ≡ 89 ∷ 69 ∷ 65 ∷ 82 ∷ 32 ∷ 49 ∷ 32 ∷ 80 ∷ 82 ∷ 69 ∷ 77 ∷ 73 ∷ 85 ∷ 77 ∷ 32 ∷ 49 ∷ 48 ∷ 53 ∷ 48 ∷ 48 ∷ 32 ∷ 49 ∷ 49 ∷ 48 ∷ 48 ∷ 48 ∷ 10 ∷ []
unfolding digits_within premium_line
premium_line_A = refl

-- TOTAL 25500 26000.
pub total_line_A : total_line 25500 26000 ≡ 84 ∷ 79 ∷ 84 ∷ 65 ∷ 76 ∷ 32 ∷ 50 ∷ 53 ∷ 53 ∷ 48 ∷ 48 ∷ 32 ∷ 50 ∷ 54 ∷ 48 ∷ 48 ∷ 48 ∷ 10 ∷ []
unfolding digits_within total_line
total_line_A = refl

-- REFUSED 17.
pub refused_line_17 : refused_line 17 ≡ 82 ∷ 69 ∷ 70 ∷ 85 ∷ 83 ∷ 69 ∷ 68 ∷ 32 ∷ 49 ∷ 55 ∷ 10 ∷ []
unfolding digits_within refused_line
refused_line_17 = refl

-- Example A, year 0: its classes in order, then its premium.
pub year_A : year_lines scheme_a 0
    ≡ 89 ∷ 69 ∷ 65 ∷ 82 ∷ 32 ∷ 48 ∷ 32 ∷ 67 ∷ 76 ∷ 65 ∷ 83 ∷ 83 ∷ 32 ∷ 49 ∷ 32 ∷ 48 ∷ 32 ∷ 48 ∷ 10
    ∷ 89 ∷ 69 ∷ 65 ∷ 82 ∷ 32 ∷ 48 ∷ 32 ∷ 67 ∷ 76 ∷ 65 ∷ 83 ∷ 83 ∷ 32 ∷ 50 ∷ 32 ∷ 49 ∷ 48 ∷ 48 ∷ 48 ∷ 48 ∷ 48 ∷ 48 ∷ 48 ∷ 48 ∷ 48 ∷ 32 ∷ 49 ∷ 48 ∷ 48 ∷ 48 ∷ 48 ∷ 48 ∷ 48 ∷ 48 ∷ 48 ∷ 48 ∷ 10
    ∷ 89 ∷ 69 ∷ 65 ∷ 82 ∷ 32 ∷ 48 ∷ 32 ∷ 80 ∷ 82 ∷ 69 ∷ 77 ∷ 73 ∷ 85 ∷ 77 ∷ 32 ∷ 49 ∷ 53 ∷ 48 ∷ 48 ∷ 48 ∷ 32 ∷ 49 ∷ 53 ∷ 48 ∷ 48 ∷ 48 ∷ 10
    ∷ []
unfolding digits_within class_line premium_line year_lines joined years_figure only_if
year_A = refl

-- Example A: the whole sheet of its bytes.
pub sheet_A : sheet_text example_a
    ≡ 83 ∷ 67 ∷ 72 ∷ 69 ∷ 77 ∷ 69 ∷ 32 ∷ 50 ∷ 32 ∷ 51 ∷ 32 ∷ 50 ∷ 32 ∷ 50 ∷ 10
    ∷ 89 ∷ 69 ∷ 65 ∷ 82 ∷ 32 ∷ 48 ∷ 32 ∷ 67 ∷ 76 ∷ 65 ∷ 83 ∷ 83 ∷ 32 ∷ 49 ∷ 32 ∷ 48 ∷ 32 ∷ 48 ∷ 10
    ∷ 89 ∷ 69 ∷ 65 ∷ 82 ∷ 32 ∷ 48 ∷ 32 ∷ 67 ∷ 76 ∷ 65 ∷ 83 ∷ 83 ∷ 32 ∷ 50 ∷ 32 ∷ 49 ∷ 48 ∷ 48 ∷ 48 ∷ 48 ∷ 48 ∷ 48 ∷ 48 ∷ 48 ∷ 48 ∷ 32 ∷ 49 ∷ 48 ∷ 48 ∷ 48 ∷ 48 ∷ 48 ∷ 48 ∷ 48 ∷ 48 ∷ 48 ∷ 10
    ∷ 89 ∷ 69 ∷ 65 ∷ 82 ∷ 32 ∷ 48 ∷ 32 ∷ 80 ∷ 82 ∷ 69 ∷ 77 ∷ 73 ∷ 85 ∷ 77 ∷ 32 ∷ 49 ∷ 53 ∷ 48 ∷ 48 ∷ 48 ∷ 32 ∷ 49 ∷ 53 ∷ 48 ∷ 48 ∷ 48 ∷ 10
    ∷ 89 ∷ 69 ∷ 65 ∷ 82 ∷ 32 ∷ 49 ∷ 32 ∷ 67 ∷ 76 ∷ 65 ∷ 83 ∷ 83 ∷ 32 ∷ 49 ∷ 32 ∷ 56 ∷ 48 ∷ 48 ∷ 48 ∷ 48 ∷ 48 ∷ 48 ∷ 48 ∷ 48 ∷ 32 ∷ 57 ∷ 48 ∷ 48 ∷ 48 ∷ 48 ∷ 48 ∷ 48 ∷ 48 ∷ 48 ∷ 10
    ∷ 89 ∷ 69 ∷ 65 ∷ 82 ∷ 32 ∷ 49 ∷ 32 ∷ 67 ∷ 76 ∷ 65 ∷ 83 ∷ 83 ∷ 32 ∷ 50 ∷ 32 ∷ 49 ∷ 48 ∷ 48 ∷ 48 ∷ 48 ∷ 48 ∷ 48 ∷ 48 ∷ 48 ∷ 32 ∷ 50 ∷ 48 ∷ 48 ∷ 48 ∷ 48 ∷ 48 ∷ 48 ∷ 48 ∷ 48 ∷ 10
    ∷ 89 ∷ 69 ∷ 65 ∷ 82 ∷ 32 ∷ 49 ∷ 32 ∷ 80 ∷ 82 ∷ 69 ∷ 77 ∷ 73 ∷ 85 ∷ 77 ∷ 32 ∷ 49 ∷ 48 ∷ 53 ∷ 48 ∷ 48 ∷ 32 ∷ 49 ∷ 49 ∷ 48 ∷ 48 ∷ 48 ∷ 10
    ∷ 89 ∷ 69 ∷ 65 ∷ 82 ∷ 32 ∷ 50 ∷ 32 ∷ 67 ∷ 76 ∷ 65 ∷ 83 ∷ 83 ∷ 32 ∷ 49 ∷ 32 ∷ 57 ∷ 50 ∷ 48 ∷ 48 ∷ 48 ∷ 48 ∷ 48 ∷ 48 ∷ 48 ∷ 32 ∷ 57 ∷ 57 ∷ 48 ∷ 48 ∷ 48 ∷ 48 ∷ 48 ∷ 48 ∷ 48 ∷ 10
    ∷ 89 ∷ 69 ∷ 65 ∷ 82 ∷ 32 ∷ 50 ∷ 32 ∷ 67 ∷ 76 ∷ 65 ∷ 83 ∷ 83 ∷ 32 ∷ 50 ∷ 32 ∷ 49 ∷ 48 ∷ 48 ∷ 48 ∷ 48 ∷ 48 ∷ 48 ∷ 48 ∷ 32 ∷ 56 ∷ 48 ∷ 48 ∷ 48 ∷ 48 ∷ 48 ∷ 48 ∷ 48 ∷ 10
    ∷ 89 ∷ 69 ∷ 65 ∷ 82 ∷ 32 ∷ 50 ∷ 32 ∷ 80 ∷ 82 ∷ 69 ∷ 77 ∷ 73 ∷ 85 ∷ 77 ∷ 32 ∷ 49 ∷ 48 ∷ 48 ∷ 53 ∷ 48 ∷ 32 ∷ 49 ∷ 48 ∷ 52 ∷ 48 ∷ 48 ∷ 10
    ∷ 84 ∷ 79 ∷ 84 ∷ 65 ∷ 76 ∷ 32 ∷ 50 ∷ 53 ∷ 53 ∷ 48 ∷ 48 ∷ 32 ∷ 50 ∷ 54 ∷ 48 ∷ 48 ∷ 48 ∷ 10
    ∷ []
unfolding layout_of sheet_text frame_cause be_at scheme_of up_to tab cause_of size_out start_out horizon_out rule_out band_out sum_out premium_out
    any_below digits_within scheme_line class_line premium_line year_lines total_line sheet_of joined years_figure step_figure fill_row capacity_before sum_to only_if
sheet_A = refl

-- Its label has the same sheet.
pub sheet_label : sheet_text label_a ≡ sheet_text example_a
unfolding sheet_text
sheet_label = rw (read_label.0, read_label.1, read_a, scheme_a_lem)

-- The sheet in the first bytes of a slice, and a slice that lacks it.
pub record TextPromises : Type 0 where
  pub kept : (rest : List ℕ) → TextPromise example_a (sheet_text example_a ++ rest) (Written (length (sheet_text example_a)))
  pub broken : TextPromise example_a [] (Written 0) → ⊥

pub text_promises : TextPromises
text_promises =
    record {
      kept = λ rest e. take_at (sheet_text example_a) rest (length (sheet_text example_a)) refl;
      broken = λ h. omega (arith, ap length (h refl ∙ sheet_A));
    }
