-- Example A's record (document 01, "Sheet program and examples"), other bytes, and lent buffers of several lengths, computed.
use Rattle.std.specs.Prelude.{ℕ, ◌≡◌, refl, true, false, List, [], ◌∷◌, length, replicate}
use Rattle.setchain.specs.Sums.{at, sum_to, only_if}
use Rattle.setchain.specs.Tests.{any_below, first_from}
use Rattle.setchain.specs.Step.{capacity_before, fill_row, step_figure}
use Rattle.scheme.specs.declared.Scheme.{Scheme}
use Rattle.scheme.specs.Tables.{tab}
use Rattle.scheme.specs.FirstCause.{or_else}
use Rattle.scheme.specs.Cause.{size_out, start_out, horizon_out, rule_out, band_out, sum_out, premium_out, cause_of}
use Rattle.scheme.specs.Stored.{up_to, scheme_of}
use Rattle.scheme.proofs.Examples.{padded}
use Rattle.scheme.proofs.Laws.FirstCause.{second_cause}
use Rattle.big_endian_spec.specs.Numbers.{be_at}
use Rattle.record_spec.specs.Layout.{layout_of, scheme_in}
use Rattle.record_spec.specs.Read.{frame_cause, read_cause}
use Rattle.record_spec.proofs.Examples.{example_a, read_a}
use Rattle.scheme.specs.RowAnswer.{RowAnswer, row_answered}
use Rattle.scheme.proofs.RowExamples.{answer_of}
use Rattle.record_spec.specs.Write.{write_answer}
use Rattle.ready_spec.specs.Scales.{scale1}
use Rattle.ready_spec.specs.Ready.{ready_scheme}
use Rattle.ready_spec.specs.Answer.{ready_answer}
use Rattle.step_spec.specs.StepAnswer.{payoff_out}
use Rattle.setchain.specs.Mixing.{path}
use Rattle.book_spec.specs.Book.{count_out, no_chamber}
use Rattle.mixing_spec.specs.MixingAnswer.{mixes_scheme, first_count}
use Rattle.bounds_spec.specs.Answers.{BoundsAnswer, Answered, Refused, sheet_cause}
use Rattle.bounds_spec.specs.Pooled.{pooled_sheet_cause}
use Rattle.sheet_spec.specs.Text.{digits_within}
use Rattle.sheet_spec.specs.Sheet.{refused_line, sheet_text}
use Rattle.sheet_spec.specs.Answer.{space_for, sheet_answer}
use Rattle.joguyvi_spec.specs.Figures.{put_number, low_and_high, bounds_number}
use Rattle.joguyvi_spec.specs.Shares.{shares_number}
use Rattle.joguyvi_spec.specs.Books.{lent_answer, pooled_number}
use Rattle.joguyvi_spec.specs.Texts.{sheet_number, sheet_length}
use Rattle.joguyvi_spec.specs.Rows.{put_row_number, row_of_record, row_number, part_number, rule_row_number, bands_number, lower_bands, upper_bands}
use Rattle.joguyvi_spec.specs.Records.{check_number, length_alone, rewrite_number, ready_number}
use Rattle.joguyvi_spec.specs.Buffers.{first32}
use Rattle.joguyvi_spec.specs.Steps.{step_buffers, step_number, figure_of}
use Rattle.joguyvi_spec.specs.Mixing.{put_count_number, mixing_call_number}

-- Buffers of one, two, three, 32 and 33 numbers.
abbrev pub one : List ℕ
one = 7 ∷ []

abbrev pub two : List ℕ
two = 7 ∷ 7 ∷ []

abbrev pub three : List ℕ
three = 7 ∷ 7 ∷ 7 ∷ []

abbrev pub long : List ℕ
long = replicate 32 7

abbrev pub longer : List ℕ
longer = replicate 33 7

-- The scheme in Example A's record.
abbrev pub in_a : Scheme
in_a = scheme_in example_a

-- The record of one class and one column that starts in class 2, with 0 after its header.
abbrev starts_in_two : List ℕ
starts_in_two = padded 13 (1 ∷ 0 ∷ 20 ∷ 1 ∷ 1 ∷ 2 ∷ 0 ∷ [])

-- Example A's record is read, no bytes are cause 1, and a start that is no class is cause 5.
pub checks : (check_number example_a ≡ 0) × (check_number [] ≡ 1) × (check_number starts_in_two ≡ 5)
unfolding layout_of frame_cause be_at scheme_of up_to tab cause_of size_out start_out horizon_out rule_out band_out sum_out premium_out any_below sum_to
checks = (read_a, refl, refl)

-- Class 1's share in year 2 of Example A.
abbrev pub share_a : BoundsAnswer
share_a = Answered 920000000 990000000

-- Low, then high; a buffer of two numbers fits, and one of three is cause 13, after the cause of the query.
pub low_and_high_lem : (low_and_high share_a ≡ 920000000 ∷ 990000000 ∷ []) × (put_number share_a two ≡ 0) × (put_number share_a three ≡ 13) × (put_number (Refused 11) three ≡ 11)
unfolding put_number
low_and_high_lem = (refl, refl, refl, refl)

-- Example A's record is read, so what comes after the cause of reading counts.
pub after_a : (n : ℕ) → or_else (read_cause example_a) n ≡ n
after_a n = second_cause (read_cause example_a) n read_a

-- A record is declined before the buffer for its low and high.
pub low_and_high_a : (bounds_number [] share_a three ≡ 1) × (bounds_number example_a share_a two ≡ 0)
unfolding layout_of put_number frame_cause
low_and_high_a = (refl, after_a _)

-- A share sheet takes two buffers of s numbers; a record is declined before the year.
pub share_sheets : (shares_number [] 3 two three ≡ 1) × (shares_number example_a 2 two two ≡ 0) × (shares_number example_a 2 two three ≡ 13) × (shares_number example_a 2 three two ≡ 13)
unfolding layout_of sheet_cause frame_cause be_at scheme_of up_to tab cause_of size_out start_out horizon_out rule_out band_out sum_out premium_out any_below sum_to
share_sheets = (refl, after_a _, after_a _, after_a _)

-- Two chambers in class 1 and one in class 2: in a buffer of 32 counts, and in one of 2.
abbrev pub lent_a : List ℕ
lent_a = padded 30 (2 ∷ 1 ∷ [])

abbrev pub short_a : List ℕ
short_a = 2 ∷ 1 ∷ []

-- An answer over a book of 32 counts, and of another length: 13, after the answer's own cause.
pub lent_answers :
    (lent_answer lent_a (Answered 3 5) ≡ Answered 3 5) × (lent_answer short_a (Answered 3 5) ≡ Refused 13) × (lent_answer (replicate 33 1) (Answered 3 5) ≡ Refused 13)
    × (lent_answer short_a (Refused 19) ≡ Refused 19) × (lent_answer lent_a (Refused 12) ≡ Refused 12)
lent_answers = (refl, refl, refl, refl, refl)

-- The number of a pooled share sheet: the record, the year, 18, 19, then 13 by each buffer.
pub pooled_numbers :
    (pooled_number [] short_a 3 two three ≡ 1) × (pooled_number example_a (1000001 ∷ []) 3 two three ≡ 12) × (pooled_number example_a (1000001 ∷ []) 2 two three ≡ 18)
    × (pooled_number example_a (replicate 31 0) 2 two three ≡ 19) × (pooled_number example_a short_a 2 two two ≡ 13) × (pooled_number example_a lent_a 2 three two ≡ 13)
    × (pooled_number example_a lent_a 2 two two ≡ 0)
unfolding layout_of first32 pooled_sheet_cause count_out no_chamber frame_cause be_at scheme_of up_to tab cause_of size_out start_out horizon_out rule_out band_out sum_out premium_out any_below sum_to
pooled_numbers = (refl, after_a _, after_a _, after_a _, after_a _, after_a _, after_a _)

-- The sheet of no bytes, "REFUSED 1", takes 11 bytes of space and a buffer of one number for its length, 10 with the end of the line.
pub sheets :
    (sheet_number [] (replicate 11 0) one ≡ 0) × (sheet_number [] (replicate 10 0) one ≡ 13) × (sheet_number [] (replicate 11 0) two ≡ 13)
    × (sheet_length [] (replicate 11 0) ≡ 10 ∷ [])
unfolding layout_of sheet_answer space_for sheet_text refused_line digits_within frame_cause
sheets = (refl, refl, refl, refl)

-- A row's answer by its number.
abbrev row_with : (number : ℕ) → RowAnswer
row_with number = record { number = number; lower = long; upper = long }

-- A row takes two buffers of 32 numbers, after its own cause.
pub row_buffers :
    (put_row_number (row_with 0) long long ≡ 0) × (put_row_number (row_with 0) long longer ≡ 13) × (put_row_number (row_with 0) longer long ≡ 13) × (put_row_number (row_with 11) longer long ≡ 11)
row_buffers = (refl, refl, refl, refl)

-- Example A, "in its class 2 row only the last upper entry changes, to 200000000"; a record is declined before the class.
pub row_a :
    (row_number [] 3 long long ≡ 1) × (row_number example_a 2 long longer ≡ 13) × (row_number example_a 2 longer long ≡ 13)
    × (row_of_record example_a 2 ≡ answer_of (800000000 ∷ 100000000 ∷ []) (900000000 ∷ 200000000 ∷ []))
unfolding layout_of row_answered only_if frame_cause be_at scheme_of up_to tab cause_of size_out start_out horizon_out rule_out band_out sum_out premium_out any_below sum_to
row_a = (refl, after_a _, after_a _, refl)

-- A rule row takes m bytes; a class that there is not is declined before the buffer.
pub rule_row_a : (rule_row_number example_a 2 three ≡ 0) × (rule_row_number example_a 3 two ≡ 11)
unfolding layout_of frame_cause be_at scheme_of up_to tab cause_of size_out start_out horizon_out rule_out band_out sum_out premium_out any_below sum_to
rule_row_a = (refl, refl)

-- An empty part is cause 11, a part of two bytes fills a buffer of two, and one of three is cause 13.
pub parts : (part_number [] three ≡ 11) × (part_number (1 ∷ 2 ∷ []) two ≡ 0) × (part_number (1 ∷ 2 ∷ []) three ≡ 13)
parts = (refl, refl, refl)

-- The bands take two buffers of m numbers; a record is declined before the buffers.
pub bands_a_lem :
    (bands_number [] three two ≡ 1) × (bands_number example_a three three ≡ 0) × (bands_number example_a three two ≡ 13) × (bands_number example_a two three ≡ 13)
    × (lower_bands in_a ≡ 800000000 ∷ 100000000 ∷ 0 ∷ []) × (upper_bands in_a ≡ 900000000 ∷ 200000000 ∷ 50000000 ∷ [])
unfolding layout_of frame_cause be_at scheme_of up_to tab
bands_a_lem = (refl, after_a _, after_a _, after_a _, refl, refl)

-- Seven bytes that say version 1, with no class.
abbrev pub seven : List ℕ
seven = 1 ∷ 0 ∷ 7 ∷ 0 ∷ 1 ∷ 1 ∷ 1 ∷ []

-- Example A's record takes 45 bytes and a buffer of one number for its length; what is read is declined before the buffers.
pub rewriting_a :
    (rewrite_number [] 1 (replicate 45 0) two ≡ 1) × (rewrite_number example_a 1 (replicate 45 0) one ≡ 0) × (rewrite_number example_a 1 (replicate 45 0) two ≡ 13)
    × (rewrite_number example_a 1 (replicate 44 0) one ≡ 13)
    × (length_alone in_a 1 (replicate 45 0) ≡ 45 ∷ [])
unfolding layout_of write_answer frame_cause be_at scheme_of up_to tab cause_of size_out start_out horizon_out rule_out band_out sum_out premium_out any_below sum_to
rewriting_a = (refl, after_a _, after_a _, after_a _, refl)

-- As a label it takes 44; another version is cause 1 before all else: seven bytes of no class alone have cause 3.
pub relabelling_a :
    (rewrite_number example_a 2 (replicate 44 0) one ≡ 0) × (rewrite_number example_a 2 (replicate 43 0) one ≡ 13) × (length_alone in_a 2 (replicate 44 0) ≡ 44 ∷ [])
    × (rewrite_number seven 2 [] two ≡ 3) × (rewrite_number seven 3 [] two ≡ 1) × (rewrite_number example_a 257 (replicate 45 0) one ≡ 1)
unfolding layout_of write_answer frame_cause be_at scheme_of up_to tab cause_of size_out start_out horizon_out rule_out band_out sum_out premium_out any_below sum_to
relabelling_a = (after_a _, after_a _, refl, refl, refl, refl)

-- There is no ready scheme 4, and a base above 2,500,000 is declined; both before the buffers, and another version before both.
pub ready_schemes :
    (ready_number 4 2500001 1 [] two ≡ 14) × (ready_number 3 2500001 1 [] two ≡ 15) × (ready_number 1 2500001 2 [] two ≡ 15) × (ready_number 2500001 1 2 [] two ≡ 14)
    × (ready_number 4 2500001 3 [] two ≡ 1) × (ready_number 1 2500001 258 [] two ≡ 1)
unfolding ready_answer
ready_schemes = (refl, refl, refl, refl, refl, refl)

-- Ready scheme 1 takes 209 bytes, and as a label 192.
pub ready_space :
    (ready_number 1 100 1 (replicate 209 0) one ≡ 0) × (ready_number 1 100 1 (replicate 208 0) one ≡ 13) × (ready_number 1 100 2 (replicate 192 0) one ≡ 0)
    × (ready_number 1 100 2 (replicate 191 0) one ≡ 13)
unfolding layout_of ready_answer ready_scheme scheme_of up_to scale1 write_answer tab cause_of size_out start_out horizon_out rule_out band_out sum_out premium_out any_below sum_to
ready_space = (refl, refl, refl, refl)

-- A step takes a payoff of 32 numbers, a buffer of one for the figure and one of 32 for the row.
pub step_buffers_lem : (step_buffers long one long ≡ 0) × (step_buffers two one long ≡ 13) × (step_buffers long two long ≡ 13) × (step_buffers long one two ≡ 13)
step_buffers_lem = (refl, refl, refl, refl)

-- A payoff of 30 in class 1 and 10 in class 2.
abbrev thirty_ten : List ℕ
thirty_ten = 30 ∷ 10 ∷ []

-- It counts as one of 32 numbers.
pub payoffs : (length (first32 thirty_ten) ≡ 32) × (at (first32 thirty_ten) 1 ≡ 10) × (at (first32 thirty_ten) 2 ≡ 0)
unfolding first32 tab
payoffs = (refl, refl, refl)

-- A payoff not of 32 numbers is declined after the class, and a record before the class.
pub step_a : (step_number [] thirty_ten 3 one long ≡ 1) × (step_number example_a thirty_ten 3 one long ≡ 11) × (step_number example_a thirty_ten 2 one long ≡ 13)
unfolding layout_of first32 payoff_out frame_cause be_at scheme_of up_to tab cause_of size_out start_out horizon_out rule_out band_out sum_out premium_out any_below sum_to
step_a = (refl, after_a _, after_a _)

-- The low figure of Example A's class 2, and the high one.
pub figures_a : (figure_of false in_a thirty_ten 2 ≡ 26 ∷ []) × (figure_of true in_a thirty_ten 2 ≡ 28 ∷ [])
unfolding layout_of first32 step_figure fill_row capacity_before sum_to only_if be_at scheme_of up_to tab
figures_a = (refl, refl)

-- A count takes a buffer of one number, after its own cause.
pub count_buffers :
    (put_count_number (record { number = 0; count = 4 }) one ≡ 0) × (put_count_number (record { number = 0; count = 4 }) two ≡ 13)
    × (put_count_number (record { number = 16; count = 0 }) two ≡ 16)
count_buffers = (refl, refl, refl)

-- The records of one class, and of two whose bands from 0 to ONE leave no lower entry above 0.
abbrev pub one_class_record : List ℕ
one_class_record = 1 ∷ 0 ∷ 20 ∷ 1 ∷ 1 ∷ 1 ∷ 0 ∷ 1 ∷ 0 ∷ 0 ∷ 0 ∷ 0 ∷ 59 ∷ 154 ∷ 202 ∷ 0 ∷ padded 4 []

abbrev pub edgeless_record : List ℕ
edgeless_record =
    1 ∷ 0 ∷ 35 ∷ 2 ∷ 2 ∷ 1 ∷ 0 ∷ 1 ∷ 2 ∷ 1 ∷ 2 ∷ 0 ∷ 0 ∷ 0 ∷ 0 ∷ 59 ∷ 154 ∷ 202 ∷ 0 ∷ 0 ∷ 0 ∷ 0 ∷ 0 ∷ 59 ∷ 154 ∷ 202 ∷ 0 ∷ padded 8 []

-- The cause of reading, then 16, then 13.
pub mixing_numbers :
    (mixing_call_number one_class_record one ≡ 0) × (mixing_call_number one_class_record two ≡ 13) × (mixing_call_number edgeless_record one ≡ 16)
    × (mixing_call_number edgeless_record two ≡ 16) × (mixing_call_number [] two ≡ 1) × (mixing_call_number starts_in_two one ≡ 5)
unfolding first_count first_from mixes_scheme path only_if layout_of frame_cause be_at scheme_of up_to tab cause_of size_out start_out horizon_out rule_out band_out sum_out premium_out any_below sum_to
mixing_numbers = (refl, refl, refl, refl, refl, refl)
