-- What each exported function may answer and leave, and what not, on Example A's record and on others, computed.
use Rattle.std.specs.Prelude.{ℕ, ◌≡◌, refl, true, false, List, [], ◌∷◌, ◌++◌, length, get_or, replicate}
use Rattle.std.proofs.Common.{ap, sym, ◌∙◌, subst, arith}
use Rattle.setchain.specs.Sums.{sum_to, only_if}
use Rattle.setchain.specs.Tests.{any_below, first_from}
use Rattle.setchain.specs.Step.{capacity_before, fill_row, step_figure}
use Rattle.scheme.specs.declared.Scheme.{Scheme}
use Rattle.scheme.specs.Tables.{tab}
use Rattle.scheme.specs.Cause.{size_out, start_out, horizon_out, rule_out, band_out, sum_out, premium_out, cause_of}
use Rattle.scheme.specs.Stored.{up_to, scheme_of}
use Rattle.scheme.specs.FirstCause.{or_else}
use Rattle.scheme.proofs.Laws.FirstCause.{second_cause}
use Rattle.scheme.proofs.Examples.{padded}
use Rattle.scheme.specs.RowAnswer.{row_answered}
use Rattle.big_endian_spec.specs.Numbers.{be_at, be_bytes}
use Rattle.record_spec.specs.Layout.{layout_of}
use Rattle.record_spec.specs.Joined.{joined}
use Rattle.record_spec.specs.Read.{frame_cause, read_cause, read_answer}
use Rattle.record_spec.specs.Bytes.{header_bytes, bytes_of}
use Rattle.record_spec.specs.Write.{write_answer, write_leaves}
use Rattle.record_spec.proofs.Examples.{example_a, read_a, scheme_a_lem, answers_read, rows_a}
use Rattle.record_spec.proofs.DoorLabelExamples.{label_a, read_label, answer_label}
use Rattle.ready_spec.specs.Scales.{scale1}
use Rattle.ready_spec.specs.Ready.{ready_scheme}
use Rattle.ready_spec.specs.Answer.{ready_answer}
use Rattle.step_spec.specs.StepAnswer.{payoff_out}
use Rattle.step_spec.proofs.Examples.{step_answers}
use Rattle.setchain.specs.Mixing.{path}
use Rattle.mixing_spec.specs.MixingAnswer.{mixes_scheme, first_count}
use Rattle.bounds_spec.specs.Answers.{BoundsAnswer, Answered, sheet_cause, low_shares, high_shares, share_answer, mean_answer, total_answer}
use Rattle.bounds_spec.specs.Promises.{ShareKept, MoneyKept, start_share, start_mean, start_total, SheetPromise}
use Rattle.bounds_spec.proofs.Examples.{document_examples, sheets_a}
use Rattle.bounds_spec.proofs.PromiseExamples.{forbidden}
use Rattle.bounds_spec.proofs.Laws.Kept.{sheet_kept}
use Rattle.sheet_spec.specs.Text.{digits_within}
use Rattle.sheet_spec.specs.Sheet.{refused_line, sheet_text}
use Rattle.sheet_spec.specs.Answer.{space_for, sheet_answer, sheet_leaves}
use Rattle.bounds_spec.specs.Reached.{reached_answer, start_reached}
use Rattle.bounds_spec.proofs.ChanceExamples.{answers_reached}
use Rattle.bounds_spec.proofs.ReachedPromiseExamples.{forbidden_chances}
use Rattle.joguyvi_spec.specs.Figures.{put_number, low_and_high, ShareCall, ReachedCall, MeanCall, TotalCall}
use Rattle.joguyvi_spec.specs.Shares.{ShareSheetCall}
use Rattle.joguyvi_spec.specs.Texts.{SheetCall}
use Rattle.joguyvi_spec.specs.Rows.{RowCall, RuleRowCall, BandsCall}
use Rattle.joguyvi_spec.specs.Records.{CheckCall, RewriteCall, ReadyCall}
use Rattle.joguyvi_spec.specs.Buffers.{first32}
use Rattle.joguyvi_spec.specs.Steps.{StepCall}
use Rattle.joguyvi_spec.specs.Mixing.{PutCountPost, MixingCall}
use Rattle.joguyvi_spec.proofs.Examples.{one, two, three, long, seven, in_a, after_a, one_class_record, edgeless_record, mixing_numbers}
use Rattle.joguyvi_spec.proofs.Laws.Figures.{RecordBoundsPost, share_call, reached_call, mean_call, total_call}

-- The number of Example A's record and of no bytes, and not another.
pub check_calls : CheckCall example_a 0 × CheckCall [] 1 × ¬ CheckCall [] 0
unfolding layout_of frame_cause
check_calls = (record { answer = sym read_a }, record { answer = refl }, λ w. omega (arith, w.answer))

-- Example A's class 2: the lower and upper entries of its tight row, each in its own buffer, and not those of its interval row; where the record is declined, neither.
abbrev lowers : List ℕ
lowers = padded 30 (800000000 ∷ 100000000 ∷ [])

abbrev uppers : List ℕ
uppers = padded 30 (900000000 ∷ 200000000 ∷ [])

pub row_calls :
    RowCall example_a 2 long long 0 lowers uppers × ¬ RowCall example_a 2 long long 0 uppers uppers × ¬ RowCall example_a 2 long long 0 lowers lowers
    × ¬ RowCall example_a 2 long long 0 lowers (padded 30 (900000000 ∷ 250000000 ∷ []))
    × RowCall [] 2 long long 1 long long × ¬ RowCall [] 2 long long 1 lowers long × ¬ RowCall [] 2 long long 0 lowers uppers
unfolding layout_of row_answered only_if frame_cause be_at scheme_of up_to tab cause_of size_out start_out horizon_out rule_out band_out sum_out premium_out any_below sum_to
row_calls = (
  record { answer = sym (after_a _); lowers = refl; uppers = refl },
  λ w. let e : ◌≡◌ {A = ℕ} 900000000 800000000 = ap (λ l. get_or l 0 0) w.lowers in omega arith,
  λ w. let e : ◌≡◌ {A = ℕ} 800000000 900000000 = ap (λ l. get_or l 0 0) w.uppers in omega arith,
  λ w. let e : ◌≡◌ {A = ℕ} 250000000 200000000 = ap (λ l. get_or l 1 0) w.uppers in omega arith,
  record { answer = refl; lowers = refl; uppers = refl },
  λ w. let e : ◌≡◌ {A = ℕ} 800000000 7 = ap (λ l. get_or l 0 0) w.lowers in omega arith,
  λ w. omega (arith, w.answer),
)

-- The rule row of class 2, 1 2 2, and not that of class 1; class 3 leaves the buffer as it was.
pub rule_row_calls :
    RuleRowCall example_a 2 three 0 (1 ∷ 2 ∷ 2 ∷ []) × ¬ RuleRowCall example_a 2 three 0 (1 ∷ 1 ∷ 2 ∷ []) × RuleRowCall example_a 3 two 11 two
    × ¬ RuleRowCall example_a 3 two 13 two
unfolding layout_of frame_cause be_at scheme_of up_to tab cause_of size_out start_out horizon_out rule_out band_out sum_out premium_out any_below sum_to
rule_row_calls = (
  record { answer = refl; rules = sym rows_a.0 },
  λ w. let e : ◌≡◌ {A = ℕ} 1 2 = ap (λ l. get_or l 1 0) (w.rules ∙ rows_a.0) in omega arith,
  record { answer = refl; rules = refl },
  λ w. omega (arith, w.answer),
)

-- The bands of the three columns: their lower and upper ends, each in its own buffer.
abbrev lower_ends : List ℕ
lower_ends = 800000000 ∷ 100000000 ∷ 0 ∷ []

abbrev upper_ends : List ℕ
upper_ends = 900000000 ∷ 200000000 ∷ 50000000 ∷ []

pub bands_calls :
    BandsCall example_a three three 0 lower_ends upper_ends × ¬ BandsCall example_a three three 0 upper_ends upper_ends × ¬ BandsCall example_a three three 0 lower_ends lower_ends
    × BandsCall [] three three 1 three three × ¬ BandsCall [] three three 2 three three
unfolding layout_of frame_cause be_at scheme_of up_to tab
bands_calls = (
  record { answer = sym (after_a _); lowers = refl; uppers = refl },
  λ w. let e : ◌≡◌ {A = ℕ} 900000000 800000000 = ap (λ l. get_or l 0 0) w.lowers in omega arith,
  λ w. let e : ◌≡◌ {A = ℕ} 800000000 900000000 = ap (λ l. get_or l 0 0) w.uppers in omega arith,
  record { answer = refl; lowers = refl; uppers = refl },
  λ w. omega (arith, w.answer),
)

-- Example A's label has no cause, and is read as its record is.
after_label : (second : ℕ) → or_else (read_cause label_a) second ≡ second
after_label second = second_cause (read_cause label_a) second read_label.0

read_alike : read_answer label_a ≡ read_answer example_a
read_alike = answer_label ∙ sym answers_read.0

-- Example A's record written again into 47 bytes: the two past it stay, and they may not change; the length is 45, and what is not read is not written.
pub rewrite_calls :
    RewriteCall example_a 1 (replicate 47 9) one 0 (example_a ++ (9 ∷ 9 ∷ [])) (45 ∷ [])
    × ¬ RewriteCall example_a 1 (replicate 47 9) one 0 (example_a ++ (9 ∷ 8 ∷ [])) (45 ∷ [])
    × ¬ RewriteCall example_a 1 (replicate 47 9) one 0 (example_a ++ (9 ∷ 9 ∷ [])) (47 ∷ [])
    × RewriteCall [] 1 two one 1 two one
    × ¬ RewriteCall [] 1 two one 1 three one
    × ¬ RewriteCall [] 1 two one 1 two (0 ∷ [])
    × ¬ RewriteCall [] 1 two one 2 two one
unfolding layout_of write_answer write_leaves bytes_of header_bytes joined be_bytes frame_cause be_at scheme_of up_to tab cause_of size_out start_out horizon_out rule_out band_out sum_out premium_out any_below sum_to
rewrite_calls = (
  record { answer = sym (after_a _); written = refl; lengths = refl; copied = λ z e. refl; counted = λ z e. refl; read_again = λ z. refl },
  λ w. let e : ◌≡◌ {A = ℕ} 8 9 = ap (λ l. get_or l 46 0) (w.copied refl refl) in omega arith,
  λ w. let e : ◌≡◌ {A = ℕ} 47 45 = ap (λ l. get_or l 0 0) (w.counted refl refl) in omega arith,
  record { answer = refl; written = refl; lengths = refl; copied = λ z. absurd (omega arith); counted = λ z. absurd (omega arith); read_again = λ z. absurd (omega arith) },
  λ w. omega (arith, ap length w.written),
  λ w. let e : ◌≡◌ {A = ℕ} 0 7 = ap (λ l. get_or l 0 0) w.lengths in omega arith,
  λ w. omega (arith, w.answer),
)

-- Rewritten as a label into 46 bytes and back into 45, and not with the bytes that it had; another version is declined, whatever the record, and writes nothing.
pub relabel_calls :
    RewriteCall example_a 2 (replicate 46 9) one 0 (label_a ++ (9 ∷ 9 ∷ [])) (44 ∷ [])
    × ¬ RewriteCall example_a 2 (replicate 45 9) one 0 example_a (45 ∷ [])
    × RewriteCall label_a 1 (replicate 45 9) one 0 example_a (45 ∷ [])
    × RewriteCall example_a 257 (replicate 45 9) one 1 (replicate 45 9) one
    × ¬ RewriteCall example_a 257 (replicate 45 9) one 0 example_a (45 ∷ [])
    × ¬ RewriteCall seven 3 two one 3 two one
unfolding layout_of write_answer write_leaves bytes_of header_bytes joined be_bytes frame_cause be_at scheme_of up_to tab cause_of size_out start_out horizon_out rule_out band_out sum_out premium_out any_below sum_to
relabel_calls = (
  record { answer = sym (after_a _); written = refl; lengths = refl; copied = λ z e. absurd (omega arith); counted = λ z e. absurd (omega arith); read_again = λ z. read_alike },
  λ w. let e : ◌≡◌ {A = ℕ} 1 2 = ap (λ l. get_or l 0 0) w.written in omega arith,
  record {
    answer = sym (after_label _);
    written = refl;
    lengths = refl;
    copied = λ z e. absurd (omega arith);
    counted = λ z e. absurd (omega arith);
    read_again = λ z. sym read_alike;
  },
  record { answer = refl; written = refl; lengths = refl; copied = λ z. absurd (omega arith); counted = λ z. absurd (omega arith); read_again = λ z. absurd (omega arith) },
  λ w. omega (arith, w.answer),
  λ w. omega (arith, w.answer),
)

-- Ready scheme 1 on base 100 is a record of 209 bytes, the first of them 1, and a label of 192, the first of them 2; there is no ready scheme 4, nor a version 3.
pub ready_calls :
    ReadyCall 1 100 1 (replicate 211 9) one 0 (write_leaves (ready_scheme 1 100) 1 (replicate 211 9)) (209 ∷ [])
    × ¬ ReadyCall 1 100 1 (replicate 211 9) one 0 (replicate 211 9) (209 ∷ [])
    × ¬ ReadyCall 1 100 1 (replicate 211 9) one 0 (write_leaves (ready_scheme 1 100) 1 (replicate 211 9)) (211 ∷ [])
    × ReadyCall 4 100 1 two one 14 two one
    × ¬ ReadyCall 4 100 1 two one 0 two one
    × ReadyCall 1 100 2 (replicate 193 9) one 0 (write_leaves (ready_scheme 1 100) 2 (replicate 193 9)) (192 ∷ [])
    × ¬ ReadyCall 1 100 2 (replicate 211 9) one 0 (write_leaves (ready_scheme 1 100) 1 (replicate 211 9)) (209 ∷ [])
    × ReadyCall 4 100 3 two one 1 two one
    × ¬ ReadyCall 4 100 3 two one 14 two one
unfolding layout_of ready_answer ready_scheme scheme_of up_to scale1 write_answer write_leaves bytes_of header_bytes be_bytes tab
    cause_of size_out start_out horizon_out rule_out band_out sum_out premium_out any_below sum_to
ready_calls = (
  record { answer = refl; written = refl; lengths = refl },
  λ w. let e : ◌≡◌ {A = ℕ} 9 1 = ap (λ l. get_or l 0 0) w.written in omega arith,
  λ w. let e : ◌≡◌ {A = ℕ} 211 209 = ap (λ l. get_or l 0 0) w.lengths in omega arith,
  record { answer = refl; written = refl; lengths = refl },
  λ w. omega (arith, w.answer),
  record { answer = refl; written = refl; lengths = refl },
  λ w. let e : ◌≡◌ {A = ℕ} 209 192 = ap (λ l. get_or l 0 0) w.lengths in omega arith,
  record { answer = refl; written = refl; lengths = refl },
  λ w. omega (arith, w.answer),
)

-- The sheet of no bytes, "REFUSED 1" with the end of the line, in 11 bytes.
abbrev refused_one : List ℕ
refused_one = 82 ∷ 69 ∷ 70 ∷ 85 ∷ 83 ∷ 69 ∷ 68 ∷ 32 ∷ 49 ∷ 10 ∷ 0 ∷ []

pub sheet_calls :
    SheetCall [] (replicate 11 0) one 0 refused_one (10 ∷ []) × ¬ SheetCall [] (replicate 11 0) one 0 (replicate 11 0) (10 ∷ [])
    × ¬ SheetCall [] (replicate 11 0) one 0 refused_one (11 ∷ []) × SheetCall [] two one 13 two one × ¬ SheetCall [] two one 1 two one
unfolding layout_of sheet_answer sheet_leaves space_for sheet_text refused_line digits_within frame_cause
sheet_calls = (
  record { answer = refl; text = refl; lengths = refl },
  λ w. let e : ◌≡◌ {A = ℕ} 0 82 = ap (λ l. get_or l 0 0) w.text in omega arith,
  λ w. let e : ◌≡◌ {A = ℕ} 11 10 = ap (λ l. get_or l 0 0) w.lengths in omega arith,
  record { answer = refl; text = refl; lengths = refl },
  λ w. omega (arith, w.answer),
)

-- Low and high of Example A's record in a buffer of 2 numbers, from those of its scheme.
put_a : (query : Scheme → BoundsAnswer) {low high : ℕ} → query in_a ≡ Answered low high → RecordBoundsPost query example_a two 0 (low ∷ high ∷ [])
unfolding put_number
put_a query e = record { answer = sym (after_a _ ∙ ap (λ b. put_number b two) e); filled = sym (ap low_and_high e) }

-- Class 1's share in year 2: low, then high, and no wider; where the record is declined the buffer is left as it was.
pub share_calls :
    ShareCall example_a 1 2 two 0 (920000000 ∷ 990000000 ∷ []) × ¬ ShareCall example_a 1 2 two 0 (919999997 ∷ 990000000 ∷ [])
    × ShareCall [] 1 2 two 1 two × ¬ ShareCall [] 1 2 two 1 (920000000 ∷ 990000000 ∷ []) × ¬ ShareCall [] 1 2 two 0 two
unfolding layout_of frame_cause
share_calls = (
  share_call example_a 2 two 1 (put_a (λ s. share_answer s 1 2) (ap (λ s. share_answer s 1 2) scheme_a_lem ∙ document_examples.year2_class1)),
  λ w. forbidden.low_wide (λ z. subst (λ s. ShareKept s 2 (start_share s 0) 919999997 990000000) scheme_a_lem (w.promise refl)),
  record { answer = refl; figures = refl; promise = λ z. absurd (omega arith) },
  λ w. let e : ◌≡◌ {A = ℕ} 920000000 7 = ap (λ l. get_or l 0 0) w.figures in omega arith,
  λ w. omega (arith, w.answer),
)

-- The chance of having reached class 1 by year 2: not 3 parts less for its low, and not the share of class 1; declined, the buffer is left as it was.
pub reached_calls :
    ReachedCall example_a 1 2 two 0 (960000000 ∷ 990000000 ∷ []) × ¬ ReachedCall example_a 1 2 two 0 (959999997 ∷ 990000000 ∷ [])
    × ¬ ReachedCall example_a 1 2 two 0 (920000000 ∷ 990000000 ∷ []) × ReachedCall [] 1 2 two 1 two × ¬ ReachedCall [] 1 2 two 1 (960000000 ∷ 990000000 ∷ [])
    × ¬ ReachedCall [] 1 2 two 0 two
unfolding layout_of frame_cause
reached_calls = (
  reached_call example_a 2 two 1 (put_a (λ s. reached_answer s 1 2) (ap (λ s. reached_answer s 1 2) scheme_a_lem ∙ answers_reached.year2)),
  λ w. forbidden_chances.low_wide (λ z. subst (λ s. ShareKept s 2 (start_reached s 0) 959999997 990000000) scheme_a_lem (w.promise refl)),
  λ w. forbidden_chances.share (λ z. subst (λ s. ShareKept s 2 (start_reached s 0) 920000000 990000000) scheme_a_lem (w.promise refl)),
  record { answer = refl; figures = refl; promise = λ z. absurd (omega arith) },
  λ w. let e : ◌≡◌ {A = ℕ} 960000000 7 = ap (λ l. get_or l 0 0) w.figures in omega arith,
  λ w. omega (arith, w.answer),
)

-- The mean premium of year 2, and not 2 cents less for its low.
pub mean_calls : MeanCall example_a 2 two 0 (10050 ∷ 10400 ∷ []) × ¬ MeanCall example_a 2 two 0 (10048 ∷ 10400 ∷ [])
mean_calls = (
  mean_call example_a 2 two (put_a (λ s. mean_answer s 2) (ap (λ s. mean_answer s 2) scheme_a_lem ∙ document_examples.year2_mean)),
  λ w. forbidden.mean_wide.0 (λ z. subst (λ s. MoneyKept s 2 (start_mean s) 10048 10400) scheme_a_lem (w.promise refl)),
)

-- The total of two premiums, and not 2 cents less for its low.
pub total_calls : TotalCall example_a 2 two 0 (25500 ∷ 26000 ∷ []) × ¬ TotalCall example_a 2 two 0 (25498 ∷ 26000 ∷ [])
total_calls = (
  total_call example_a 2 two (put_a (λ s. total_answer s 2) (ap (λ s. total_answer s 2) scheme_a_lem ∙ document_examples.total)),
  λ w. forbidden.total_wide.0 (λ z. subst (λ s. MoneyKept s 2 (start_total s) 25498 26000) scheme_a_lem (w.promise refl)),
)

-- The shares of both classes in year 1, each low and each high in its own buffer; in year 2 not the figures of class 2 at class 1.
lows_a_lem : low_shares in_a 1 ≡ 800000000 ∷ 100000000 ∷ []
lows_a_lem = ap (λ s. low_shares s 1) scheme_a_lem ∙ sheets_a.low_shares1

highs_a_lem : high_shares in_a 1 ≡ 900000000 ∷ 200000000 ∷ []
highs_a_lem = ap (λ s. high_shares s 1) scheme_a_lem ∙ sheets_a.high_shares1

pub share_sheet_calls :
    ShareSheetCall example_a 1 two two 0 (low_shares in_a 1) (high_shares in_a 1)
    × ¬ ShareSheetCall example_a 1 two two 0 (high_shares in_a 1) (high_shares in_a 1)
    × ¬ ShareSheetCall example_a 1 two two 0 (low_shares in_a 1) (low_shares in_a 1)
    × ¬ ShareSheetCall example_a 2 two two 0 (10000000 ∷ 10000000 ∷ []) (80000000 ∷ 80000000 ∷ [])
    × ShareSheetCall [] 1 two three 1 two three
    × ¬ ShareSheetCall [] 1 two two 2 two two
unfolding layout_of sheet_cause frame_cause be_at scheme_of up_to tab cause_of size_out start_out horizon_out rule_out band_out sum_out premium_out any_below sum_to
share_sheet_calls = (
  record { answer = sym (after_a _); lows = refl; highs = refl; promise = sheet_kept in_a 1 two two },
  λ w. let e : ◌≡◌ {A = ℕ} 900000000 800000000 = ap (λ l. get_or l 0 0) (sym highs_a_lem ∙ w.lows ∙ lows_a_lem) in omega arith,
  λ w. let e : ◌≡◌ {A = ℕ} 800000000 900000000 = ap (λ l. get_or l 0 0) (sym lows_a_lem ∙ w.highs ∙ highs_a_lem) in omega arith,
  λ w. forbidden.sheet (subst (λ s. SheetPromise s 2 0 (10000000 ∷ 10000000 ∷ []) (80000000 ∷ 80000000 ∷ [])) scheme_a_lem w.promise),
  record { answer = refl; lows = refl; highs = refl; promise = λ z. absurd (omega arith) },
  λ w. omega (arith, w.answer),
)

-- A payoff of 32 numbers, 30 in class 1 and 10 in class 2, and the row that reaches the low figure of class 2.
abbrev thirty_ten : List ℕ
thirty_ten = padded 30 (30 ∷ 10 ∷ [])

abbrev four_fifths : List ℕ
four_fifths = padded 30 (800000000 ∷ 200000000 ∷ [])

-- The low figure 26 and that row; not another figure, no part beyond s, no shorter row, no other row, not the high figure.
pub step_calls :
    StepCall false example_a thirty_ten 2 one long 0 (26 ∷ []) four_fifths
    × ¬ StepCall false example_a thirty_ten 2 one long 0 (28 ∷ []) four_fifths
    × ¬ StepCall true example_a thirty_ten 2 one long 0 (26 ∷ []) four_fifths
    × ¬ StepCall false example_a thirty_ten 2 one long 0 (26 ∷ []) (800000000 ∷ 200000000 ∷ 1 ∷ replicate 29 0)
    × ¬ StepCall false example_a thirty_ten 2 one long 0 (26 ∷ []) (800000000 ∷ 200000000 ∷ [])
    × ¬ StepCall false example_a thirty_ten 2 one long 0 (26 ∷ []) (900000000 ∷ 100000000 ∷ replicate 30 0)
    × StepCall false [] thirty_ten 2 one long 1 one long
    × ¬ StepCall false [] thirty_ten 2 one long 1 one four_fifths
    × ¬ StepCall false [] thirty_ten 2 one long 2 one long
unfolding layout_of first32 payoff_out step_figure fill_row capacity_before only_if frame_cause be_at scheme_of up_to tab cause_of size_out start_out horizon_out rule_out band_out sum_out premium_out any_below sum_to
step_calls =
    let reached = step_answers.answered.reaches refl in (
      record {
        answer = sym (after_a _);
        figures = refl;
        left = λ h. absurd (h refl);
        size = λ z. refl;
        beyond = λ z. step_answers.answered.beyond refl;
        reaches = λ z. record { inside = reached.inside; extreme = reached.extreme; rounded = refl };
      },
      λ w. let e : ◌≡◌ {A = ℕ} 28 26 = ap (λ l. get_or l 0 0) w.figures in omega arith,
      λ w. let e : ◌≡◌ {A = ℕ} 26 28 = ap (λ l. get_or l 0 0) w.figures in omega arith,
      λ w. let e : ◌≡◌ {A = ℕ} 1 0 = w.beyond refl 2 (omega arith) in omega arith,
      λ w. let e : ◌≡◌ {A = ℕ} 2 32 = w.size refl in omega arith,
      λ w. omega (arith, (w.reaches refl).rounded),
      record {
        answer = refl;
        figures = refl;
        left = λ h. refl;
        size = λ z. absurd (omega arith);
        beyond = λ z. absurd (omega arith);
        reaches = λ z. absurd (omega arith);
      },
      λ w. let e : ◌≡◌ {A = ℕ} 800000000 7 = ap (λ l. get_or l 0 0) (w.left (λ z. omega arith)) in omega arith,
      λ w. omega (arith, w.answer),
    )

-- A count is put, and not its number; a cause leaves the buffer.
pub count_posts :
    PutCountPost (record { number = 0; count = 4 }) one 0 (4 ∷ [])
    × ¬ PutCountPost (record { number = 0; count = 4 }) one 0 (0 ∷ [])
    × PutCountPost (record { number = 16; count = 0 }) one 16 one
    × ¬ PutCountPost (record { number = 16; count = 0 }) one 16 (0 ∷ [])
count_posts = (
  record { answer = refl; filled = refl },
  λ w. let e : ◌≡◌ {A = ℕ} 0 4 = ap (λ l. get_or l 0 0) w.filled in omega arith,
  record { answer = refl; filled = refl },
  λ w. let e : ◌≡◌ {A = ℕ} 0 7 = ap (λ l. get_or l 0 0) w.filled in omega arith,
)

-- One class: 1 year, the first that mixes, and not 2, which mixes too; one number alone is put; the buffer that is lent decides 13, and without edges it stays.
pub mixing_calls :
    MixingCall one_class_record one 0 (1 ∷ [])
    × ¬ MixingCall one_class_record one 0 (2 ∷ [])
    × ¬ MixingCall one_class_record one 0 (1 ∷ 7 ∷ [])
    × MixingCall one_class_record two 13 two
    × ¬ MixingCall one_class_record two 0 (1 ∷ [])
    × MixingCall edgeless_record one 16 one
    × ¬ MixingCall edgeless_record one 16 (1 ∷ [])
    × ¬ MixingCall edgeless_record one 0 (1 ∷ [])
    × MixingCall [] one 1 one
    × ¬ MixingCall [] one 1 (1 ∷ [])
unfolding first_count first_from mixes_scheme path only_if layout_of frame_cause be_at scheme_of up_to tab cause_of size_out start_out horizon_out rule_out band_out sum_out premium_out any_below sum_to
mixing_calls =
    let m = mixing_numbers in (
      record { answer = sym m.0; filled = refl },
      λ w. let e : ◌≡◌ {A = ℕ} 2 1 = ap (λ l. get_or l 0 0) w.filled in omega arith,
      λ w. let e : ◌≡◌ {A = ℕ} 2 1 = ap length w.filled in omega arith,
      record { answer = sym m.1; filled = refl },
      λ w. omega (arith, w.answer, m.1),
      record { answer = sym m.2; filled = refl },
      λ w. let e : ◌≡◌ {A = ℕ} 1 7 = ap (λ l. get_or l 0 0) w.filled in omega arith,
      λ w. omega (arith, w.answer, m.2),
      record { answer = sym m.4; filled = refl },
      λ w. let e : ◌≡◌ {A = ℕ} 1 7 = ap (λ l. get_or l 0 0) w.filled in omega arith,
    )
