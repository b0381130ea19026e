-- Which buffer a call's record speaks of, by what it forbids: cause 13 goes by the buffer that is lent, and what is declined, or lies past what is written, is as it was lent.
use Rattle.std.specs.Prelude.{ℕ, ◌≡◌, List, [], ◌∷◌, ◌++◌, get_or, replicate}
use Rattle.std.proofs.Common.{ap, ◌∙◌, arith}
use Rattle.setchain.specs.Sums.{sum_to, only_if}
use Rattle.setchain.specs.Tests.{any_below}
use Rattle.scheme.specs.Tables.{tab}
use Rattle.scheme.specs.Cause.{size_out, start_out, horizon_out, rule_out, band_out, sum_out, premium_out, cause_of}
use Rattle.scheme.specs.Stored.{up_to, scheme_of}
use Rattle.scheme.specs.RowAnswer.{row_answered}
use Rattle.big_endian_spec.specs.Numbers.{be_at, be_bytes}
use Rattle.record_spec.specs.Layout.{layout_of}
use Rattle.record_spec.specs.Joined.{joined}
use Rattle.record_spec.specs.Read.{frame_cause}
use Rattle.record_spec.specs.Bytes.{header_bytes, bytes_of}
use Rattle.record_spec.specs.Write.{write_answer, write_leaves}
use Rattle.record_spec.proofs.Examples.{example_a}
use Rattle.ready_spec.specs.Scales.{scale1}
use Rattle.ready_spec.specs.Ready.{ready_scheme}
use Rattle.ready_spec.specs.Answer.{ready_answer}
use Rattle.sheet_spec.specs.Text.{digits_within}
use Rattle.sheet_spec.specs.Sheet.{refused_line, sheet_text}
use Rattle.sheet_spec.specs.Answer.{space_for, sheet_answer, sheet_leaves}
use Rattle.joguyvi_spec.specs.Shares.{ShareSheetCall}
use Rattle.joguyvi_spec.specs.Texts.{SheetCall}
use Rattle.joguyvi_spec.specs.Rows.{RowCall, RuleRowCall, BandsCall}
use Rattle.joguyvi_spec.specs.Records.{RewriteCall, ReadyCall}
use Rattle.joguyvi_spec.proofs.Examples.{one, two, three, long, after_a}

-- Buffers that a call changed: one, two and three numbers, and 32.
abbrev other : List ℕ
other = 8 ∷ []

abbrev others : List ℕ
others = 8 ∷ 8 ∷ []

abbrev changed : List ℕ
changed = 8 ∷ 8 ∷ 8 ∷ []

abbrev changed_row : List ℕ
changed_row = replicate 32 8

-- A row: 13 by either buffer as it is lent; declined, both stay.
pub rows_lent :
    ¬ RowCall example_a 2 three long 0 long long × ¬ RowCall example_a 2 long three 0 long long
    × ¬ RowCall [] 2 long long 1 changed_row long × ¬ RowCall [] 2 long long 1 long changed_row
unfolding layout_of row_answered only_if frame_cause be_at scheme_of up_to tab cause_of size_out start_out horizon_out rule_out band_out sum_out premium_out any_below sum_to
rows_lent = (
  λ w. let e : ◌≡◌ {A = ℕ} 0 13 = w.answer ∙ after_a _ in omega arith,
  λ w. let e : ◌≡◌ {A = ℕ} 0 13 = w.answer ∙ after_a _ in omega arith,
  λ w. let e : ◌≡◌ {A = ℕ} 8 7 = ap (λ l. get_or l 0 0) w.lowers in omega arith,
  λ w. let e : ◌≡◌ {A = ℕ} 8 7 = ap (λ l. get_or l 0 0) w.uppers in omega arith,
)

-- A rule row, and the bands.
pub rules_lent : ¬ RuleRowCall example_a 2 two 0 three × ¬ RuleRowCall example_a 3 two 11 others
unfolding layout_of frame_cause be_at scheme_of up_to tab cause_of size_out start_out horizon_out rule_out band_out sum_out premium_out any_below sum_to
rules_lent = (
  λ w. omega (arith, w.answer),
  λ w. let e : ◌≡◌ {A = ℕ} 8 7 = ap (λ l. get_or l 0 0) w.rules in omega arith,
)

pub bands_lent :
    ¬ BandsCall example_a two three 0 three three × ¬ BandsCall example_a three two 0 three three
    × ¬ BandsCall [] three three 1 changed three × ¬ BandsCall [] three three 1 three changed
unfolding layout_of frame_cause be_at scheme_of up_to tab
bands_lent = (
  λ w. let e : ◌≡◌ {A = ℕ} 0 13 = w.answer ∙ after_a _ in omega arith,
  λ w. let e : ◌≡◌ {A = ℕ} 0 13 = w.answer ∙ after_a _ in omega arith,
  λ w. let e : ◌≡◌ {A = ℕ} 8 7 = ap (λ l. get_or l 0 0) w.lowers in omega arith,
  λ w. let e : ◌≡◌ {A = ℕ} 8 7 = ap (λ l. get_or l 0 0) w.uppers in omega arith,
)

-- A record written again, and a ready scheme's: the bytes past the record are those that were lent.
pub rewrites_lent :
    ¬ RewriteCall example_a 1 two one 0 example_a (45 ∷ []) × ¬ RewriteCall example_a 1 (replicate 45 9) two 0 example_a (45 ∷ [])
    × ¬ RewriteCall example_a 1 (replicate 46 9) one 0 (example_a ++ other) (45 ∷ [])
unfolding layout_of write_answer write_leaves bytes_of header_bytes joined be_bytes frame_cause be_at scheme_of up_to tab cause_of size_out start_out horizon_out rule_out band_out sum_out premium_out any_below sum_to
rewrites_lent = (
  λ w. let e : ◌≡◌ {A = ℕ} 0 13 = w.answer ∙ after_a _ in omega arith,
  λ w. let e : ◌≡◌ {A = ℕ} 0 13 = w.answer ∙ after_a _ in omega arith,
  λ w. let e : ◌≡◌ {A = ℕ} 8 9 = ap (λ l. get_or l 45 0) w.written in omega arith,
)

pub readies_lent :
    ¬ ReadyCall 1 100 1 (replicate 209 9) two 0 (replicate 209 9) (209 ∷ []) × ¬ ReadyCall 4 100 1 two one 14 others one × ¬ ReadyCall 4 100 1 two one 14 two other
unfolding layout_of ready_answer ready_scheme scheme_of up_to scale1 write_answer write_leaves bytes_of header_bytes be_bytes tab
    cause_of size_out start_out horizon_out rule_out band_out sum_out premium_out any_below sum_to
readies_lent = (
  λ w. let e : ◌≡◌ {A = ℕ} 0 13 = w.answer in omega arith,
  λ w. let e : ◌≡◌ {A = ℕ} 8 7 = ap (λ l. get_or l 0 0) w.written in omega arith,
  λ w. let e : ◌≡◌ {A = ℕ} 8 7 = ap (λ l. get_or l 0 0) w.lengths in omega arith,
)

-- A sheet of text, "REFUSED 1" and the end of the line, and a share sheet.
abbrev refused_then : ℕ → List ℕ
refused_then last = 82 ∷ 69 ∷ 70 ∷ 85 ∷ 83 ∷ 69 ∷ 68 ∷ 32 ∷ 49 ∷ 10 ∷ last ∷ []

pub sheets_lent :
    ¬ SheetCall [] two one 0 (refused_then 7) (10 ∷ []) × ¬ SheetCall [] (replicate 11 7) two 0 (refused_then 7) (10 ∷ [])
    × ¬ SheetCall [] (replicate 11 7) one 0 (refused_then 8) (10 ∷ []) × ¬ SheetCall [] two one 13 others one × ¬ SheetCall [] two one 13 two other
unfolding layout_of sheet_answer sheet_leaves space_for sheet_text refused_line digits_within frame_cause
sheets_lent = (
  λ w. omega (arith, w.answer),
  λ w. omega (arith, w.answer),
  λ w. let e : ◌≡◌ {A = ℕ} 8 7 = ap (λ l. get_or l 10 0) w.text in omega arith,
  λ w. let e : ◌≡◌ {A = ℕ} 8 7 = ap (λ l. get_or l 0 0) w.text in omega arith,
  λ w. let e : ◌≡◌ {A = ℕ} 8 7 = ap (λ l. get_or l 0 0) w.lengths in omega arith,
)

pub share_sheets_lent : ¬ ShareSheetCall [] 1 two two 1 others two × ¬ ShareSheetCall [] 1 two two 1 two others
unfolding layout_of frame_cause
share_sheets_lent = (
  λ w. let e : ◌≡◌ {A = ℕ} 8 7 = ap (λ l. get_or l 0 0) w.lows in omega arith,
  λ w. let e : ◌≡◌ {A = ℕ} 8 7 = ap (λ l. get_or l 0 0) w.highs in omega arith,
)
