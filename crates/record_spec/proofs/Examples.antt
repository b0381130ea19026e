-- Example A of document 01 ("Sheet program and examples") and records with a cause, computed by the definitions.
use Rattle.std.specs.Prelude.{ℕ, ◌≡◌, refl, List, [], ◌∷◌, ◌++◌, replicate}
use Rattle.std.proofs.Common.{arith}
use Rattle.setchain.specs.Sums.{sum_to}
use Rattle.setchain.specs.Tests.{any_below}
use Rattle.scheme.specs.Tables.{tab}
use Rattle.scheme.specs.Cause.{size_out, start_out, horizon_out, rule_out, band_out, sum_out, premium_out, cause_of}
use Rattle.scheme.specs.Stored.{up_to, scheme_of, no_scheme}
use Rattle.scheme.proofs.Examples.{scheme_a, single}
use Rattle.scheme.proofs.Laws.Values.{same_values}
use Rattle.big_endian_spec.specs.Numbers.{be_bytes, be_at}
use Rattle.record_spec.specs.Reader.{Ends, NoMore, band_at, band_number, band_ends, open_part, answers, stored_bands, handed_out, ends_of}
use Rattle.record_spec.specs.Write.{Written, Declined, write_number, written_length, write_answer, write_leaves, Reread, WritePromise}
use Rattle.record_spec.specs.Joined.{joined}
use Rattle.record_spec.specs.Layout.{version1, layout_of, length_of, scheme_in}
use Rattle.record_spec.specs.Read.{frame_cause, read_cause, read_answer}
use Rattle.record_spec.specs.RuleRow.{rule_row_cause, rule_row}
use Rattle.record_spec.specs.Bytes.{header_bytes, bytes_of}

-- Its record.
abbrev pub example_a : List ℕ
example_a =
    1 ∷ 0 ∷ 45 ∷ 2 ∷ 3 ∷ 2 ∷ 2 ∷
    1 ∷ 1 ∷ 2 ∷ 1 ∷ 2 ∷ 2 ∷
    47 ∷ 175 ∷ 8 ∷ 0 ∷ 53 ∷ 164 ∷ 233 ∷ 0 ∷
    5 ∷ 245 ∷ 225 ∷ 0 ∷ 11 ∷ 235 ∷ 194 ∷ 0 ∷
    0 ∷ 0 ∷ 0 ∷ 0 ∷ 2 ∷ 250 ∷ 240 ∷ 128 ∷
    0 ∷ 0 ∷ 39 ∷ 16 ∷ 0 ∷ 0 ∷ 58 ∷ 152 ∷ []

-- The length of its record, and the greatest: "at most 455".
pub lengths : (length_of version1 2 3 ≡ 45) × (length_of version1 32 8 ≡ 455)
lengths = (refl, refl)

pub read_a : read_cause example_a ≡ 0
unfolding layout_of frame_cause be_at scheme_of up_to tab cause_of size_out start_out horizon_out rule_out band_out sum_out premium_out any_below sum_to
read_a = refl

-- The scheme in it is the scheme of example A, and the record of that scheme is the record itself.
pub scheme_a_lem : scheme_in example_a ≡ scheme_a
unfolding layout_of scheme_of up_to tab be_at
scheme_a_lem = refl

pub bytes_a : bytes_of version1 scheme_a ≡ example_a
unfolding bytes_of header_bytes joined be_bytes tab
bytes_a = refl

-- A record of one class and one column, of 20 bytes, with these values.
abbrev pub small : (version length classes start horizon : ℕ) → List ℕ
small version length classes start horizon =
    version ∷ 0 ∷ length ∷ classes ∷ 1 ∷ start ∷ horizon ∷ 1 ∷
    0 ∷ 0 ∷ 0 ∷ 0 ∷ 59 ∷ 154 ∷ 202 ∷ 0 ∷
    0 ∷ 0 ∷ 0 ∷ 10 ∷ []

-- The record of a scheme whose start and horizon differ: 1 and 100.
pub bytes_single : bytes_of version1 (single 1 0 1000000000 10) ≡ small 1 20 1 1 100
unfolding bytes_of header_bytes joined be_bytes tab
bytes_single = refl

-- Several causes at once: "the first that applies is returned".
pub record CausesInOrder : Type 0 where
  pub no_byte : read_cause [] ≡ 1
  pub version : read_cause (small 3 21 0 0 101) ≡ 1
  pub field : read_cause (small 1 21 0 0 101) ≡ 2
  pub sizes : read_cause (small 1 20 0 0 101) ≡ 3
  pub length : read_cause (small 1 20 2 0 101) ≡ 4
  pub start : read_cause (small 1 20 1 0 101) ≡ 5
  pub horizon : read_cause (small 1 20 1 1 101) ≡ 6
  pub none : read_cause (small 1 20 1 1 100) ≡ 0

pub causes_in_order : CausesInOrder
unfolding layout_of frame_cause be_at scheme_of up_to tab cause_of size_out start_out horizon_out rule_out band_out sum_out premium_out any_below sum_to
causes_in_order =
    record { no_byte = refl; version = refl; field = refl; sizes = refl; length = refl; start = refl; horizon = refl; none = refl }

-- What reading answers: example A's scheme, and a cause beside a scheme of 0.
pub answers_read : (read_answer example_a ≡ record { number = 0; scheme = scheme_a }) × (read_answer (small 1 20 1 1 101) ≡ record { number = 6; scheme = no_scheme })
unfolding layout_of read_answer no_scheme frame_cause be_at scheme_of up_to tab cause_of size_out start_out horizon_out rule_out band_out sum_out premium_out any_below sum_to
answers_read = (refl, refl)

-- The rule row of class 2, and an empty part for class 3 and for a declined record.
pub rows_a : (rule_row example_a 2 ≡ 1 ∷ 2 ∷ 2 ∷ []) × (rule_row example_a 3 ≡ []) × (rule_row (small 1 20 1 1 101) 1 ≡ [])
unfolding layout_of rule_row frame_cause be_at scheme_of up_to tab cause_of size_out start_out horizon_out rule_out band_out sum_out premium_out any_below sum_to
rows_a = (refl, refl, refl)

-- The cause behind an empty part: "where it is accepted the cause was 11".
pub row_causes : (rule_row_cause example_a 2 ≡ 0) × (rule_row_cause example_a 3 ≡ 11) × (rule_row_cause (small 1 20 1 1 101) 3 ≡ 6)
unfolding layout_of frame_cause be_at scheme_of up_to tab cause_of size_out start_out horizon_out rule_out band_out sum_out premium_out any_below sum_to
row_causes = (refl, refl, refl)

-- Its bands in order.
pub stored_a : stored_bands example_a ≡ Ends 800000000 900000000 ∷ Ends 100000000 200000000 ∷ Ends 0 50000000 ∷ []
unfolding layout_of tab be_at
stored_a = refl

-- The first 5 answers of a reader over it.
pub bands_a_lem : answers (open_part example_a) 5 0 ≡ Ends 800000000 900000000 ∷ Ends 100000000 200000000 ∷ Ends 0 50000000 ∷ NoMore ∷ NoMore ∷ []
unfolding layout_of answers band_at open_part frame_cause be_at scheme_of up_to tab cause_of size_out start_out horizon_out rule_out band_out sum_out premium_out any_below sum_to
bands_a_lem = refl

-- The number and the values of its first answer, and past its last band.
pub first_a :
    (handed_out (band_at example_a 0) ≡ 1) × (ends_of (band_at example_a 0) ≡ 800000000 ∷ 900000000 ∷ [])
    × (handed_out (band_at example_a 3) ≡ 0) × (ends_of (band_at example_a 3) ≡ [])
    × (band_number example_a 0 ≡ 1) × (band_ends example_a 0 ≡ 800000000 ∷ 900000000 ∷ []) × (band_number example_a 3 ≡ 0) × (band_ends example_a 3 ≡ [])
unfolding layout_of band_at frame_cause be_at scheme_of up_to tab cause_of size_out start_out horizon_out rule_out band_out sum_out premium_out any_below sum_to
first_a = (refl, refl, refl, refl, refl, refl, refl, refl)

-- A reader over a declined record: an empty part, and no more.
pub none_declined : (open_part (small 1 20 1 1 101) ≡ []) × (band_at (small 1 20 1 1 101) 0 ≡ NoMore)
unfolding layout_of open_part band_at frame_cause be_at scheme_of up_to tab cause_of size_out start_out horizon_out rule_out band_out sum_out premium_out any_below sum_to
none_declined = (refl, refl)

-- Example A's scheme written in version 1 into 50 bytes and into 44, and a scheme with cause 7: the length or the cause, and what the slice holds.
pub record Writings : Type 0 where
  pub length : write_answer scheme_a 1 (replicate 50 9) ≡ Written 45
  pub written : write_leaves scheme_a 1 (replicate 50 9) ≡ example_a ++ replicate 5 9
  pub short : write_answer scheme_a 1 (replicate 44 9) ≡ Declined 13
  pub left : write_leaves scheme_a 1 (replicate 44 9) ≡ replicate 44 9
  pub cause : write_answer (single 2 0 1000000000 10) 1 (replicate 19 9) ≡ Declined 7

pub writings : Writings
unfolding layout_of write_answer write_leaves bytes_of header_bytes joined be_bytes tab cause_of size_out start_out horizon_out rule_out band_out sum_out premium_out any_below sum_to
writings = record { length = refl; written = refl; short = refl; left = refl; cause = refl }

-- The number and the value of each answer: 45 bytes written, and cause 13.
pub write_answers : (write_number (Written 45) ≡ 0) × (written_length (Written 45) ≡ 45) × (write_number (Declined 13) ≡ 13) × (written_length (Declined 13) ≡ 0)
write_answers = (refl, refl, refl, refl)

-- Example A's record read again has the values of its scheme; a refusal has not, nor has a scheme that starts elsewhere; and no byte is no record.
pub record Rereadings : Type 0 where
  pub same : Reread scheme_a (read_answer example_a)
  pub refused : Reread scheme_a (record { number = 6; scheme = scheme_a }) → ⊥
  pub changed : Reread scheme_a (record { number = 0; scheme = no_scheme }) → ⊥
  pub nothing : WritePromise scheme_a example_a (Written 0) → ⊥

pub rereadings : Rereadings
unfolding layout_of no_scheme read_answer frame_cause
rereadings =
    record {
      same = rw answers_read.0 (record {
        number = refl;
        values = same_values scheme_a;
      });
      refused = λ h. omega (arith, h.number);
      changed = λ h. omega (arith, h.values.others.start);
      nothing = λ h. omega (arith, (h refl).number);
    }
