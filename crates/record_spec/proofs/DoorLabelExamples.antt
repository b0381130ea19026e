-- Example A of document 01 as a label, in version 2 (document 02, item 5), and labels with a cause, computed by the definitions.
use Rattle.std.specs.Prelude.{ℕ, ◌≡◌, refl, true, false, List, [], ◌∷◌, ◌++◌, drop, replicate}
use Rattle.setchain.specs.Sums.{sum_to}
use Rattle.setchain.specs.Tests.{any_below}
use Rattle.scheme.specs.Tables.{tab}
use Rattle.scheme.specs.Cause.{size_out, start_out, horizon_out, rule_out, band_out, sum_out, premium_out, cause_of}
use Rattle.scheme.specs.Stored.{up_to, scheme_of}
use Rattle.scheme.proofs.Examples.{scheme_a, single}
use Rattle.big_endian_spec.specs.Numbers.{be_at, be_bytes}
use Rattle.record_spec.specs.Reader.{Ends, NoMore, band_at, open_part, answers, stored_bands}
use Rattle.record_spec.specs.Write.{Written, Declined, write_answer, write_leaves}
use Rattle.record_spec.specs.Joined.{joined}
use Rattle.record_spec.specs.Layout.{version1, version2, other_version, layout_of, length_of, scheme_in}
use Rattle.record_spec.specs.Read.{frame_cause, read_cause, read_answer}
use Rattle.record_spec.specs.RuleRow.{rule_row}
use Rattle.record_spec.specs.Bytes.{header_bytes, bytes_of}

-- Its label: 1 byte more in the header, 1 byte less for each of 2 premiums.
abbrev pub label_a : List ℕ
label_a =
    2 ∷ 0 ∷ 44 ∷ 2 ∷ 3 ∷ 2 ∷ 2 ∷ 2 ∷
    1 ∷ 1 ∷ 2 ∷ 1 ∷ 2 ∷ 2 ∷
    47 ∷ 175 ∷ 8 ∷ 0 ∷ 53 ∷ 164 ∷ 233 ∷ 0 ∷
    5 ∷ 245 ∷ 225 ∷ 0 ∷ 11 ∷ 235 ∷ 194 ∷ 0 ∷
    0 ∷ 0 ∷ 0 ∷ 0 ∷ 2 ∷ 250 ∷ 240 ∷ 128 ∷
    0 ∷ 39 ∷ 16 ∷ 0 ∷ 58 ∷ 152 ∷ []

-- The length of its label, and the greatest: 8 + 256 + 64 + 96.
pub label_lengths : (length_of version2 2 3 ≡ 44) × (length_of version2 32 8 ≡ 424)
label_lengths = (refl, refl)

-- There are the versions 1 and 2, each with its layout, and no other: 257 is not 1.
pub record Versions : Type 0 where
  pub first : (other_version 1 ≡ false) × (layout_of 1 ≡ version1)
  pub second : (other_version 2 ≡ false) × (layout_of 2 ≡ version2)
  pub none : (other_version 0 ≡ true) × (other_version 3 ≡ true) × (other_version 257 ≡ true) × (other_version 258 ≡ true)

pub versions : Versions
unfolding layout_of
versions = record { first = (refl, refl); second = (refl, refl); none = (refl, refl, refl, refl) }

-- It is read, the scheme in it is the scheme of example A, and the label of that scheme is the label itself.
pub read_label : (read_cause label_a ≡ 0) × (scheme_in label_a ≡ scheme_a)
unfolding layout_of frame_cause be_at scheme_of up_to tab cause_of size_out start_out horizon_out rule_out band_out sum_out premium_out any_below sum_to
read_label = (refl, refl)

pub answer_label : read_answer label_a ≡ record { number = 0; scheme = scheme_a }
unfolding layout_of read_answer frame_cause be_at scheme_of up_to tab cause_of size_out start_out horizon_out rule_out band_out sum_out premium_out any_below sum_to
answer_label = refl

pub label_a_lem : bytes_of version2 scheme_a ≡ label_a
unfolding bytes_of header_bytes joined be_bytes tab
label_a_lem = refl

-- A label of one class and one column, of 20 bytes, with these values.
abbrev pub small_label : (version length classes start horizon last : ℕ) (premium : List ℕ) → List ℕ
small_label version length classes start horizon last premium =
    version ∷ 0 ∷ length ∷ classes ∷ 1 ∷ start ∷ horizon ∷ last ∷ 1 ∷
    0 ∷ 0 ∷ 0 ∷ 0 ∷ 59 ∷ 154 ∷ 202 ∷ 0 ∷ premium

-- The greatest premium, 10,000,000, in 3 bytes.
abbrev greatest : List ℕ
greatest = 152 ∷ 150 ∷ 128 ∷ []

pub greatest_premium : bytes_of version2 (single 1 0 1000000000 10000000) ≡ small_label 2 20 1 1 100 0 greatest
unfolding bytes_of header_bytes joined be_bytes tab
greatest_premium = refl

-- Several causes at once: 17 is "tested after 4", and before 5; 7 bytes that say version 2 have cause 3 or 4.
pub record LabelCauses : Type 0 where
  pub version : read_cause (small_label 3 21 0 0 101 1 greatest) ≡ 1
  pub field : read_cause (small_label 2 21 0 0 101 1 greatest) ≡ 2
  pub sizes : read_cause (small_label 2 20 0 0 101 1 greatest) ≡ 3
  pub length : read_cause (small_label 2 20 2 0 101 1 greatest) ≡ 4
  pub last : read_cause (small_label 2 20 1 0 101 1 greatest) ≡ 17
  pub start : read_cause (small_label 2 20 1 0 101 0 greatest) ≡ 5
  pub horizon : read_cause (small_label 2 20 1 1 101 0 greatest) ≡ 6
  pub premium : read_cause (small_label 2 20 1 1 100 0 (152 ∷ 150 ∷ 129 ∷ [])) ≡ 10
  pub none : read_cause (small_label 2 20 1 1 100 0 greatest) ≡ 0
  pub seven : (read_cause (2 ∷ 0 ∷ 7 ∷ 0 ∷ 1 ∷ 1 ∷ 100 ∷ []) ≡ 3) × (read_cause (2 ∷ 0 ∷ 7 ∷ 1 ∷ 1 ∷ 1 ∷ 100 ∷ []) ≡ 4)
  pub six : read_cause (2 ∷ 0 ∷ 6 ∷ 1 ∷ 1 ∷ 1 ∷ []) ≡ 2

pub label_causes : LabelCauses
unfolding layout_of frame_cause be_at scheme_of up_to tab cause_of size_out start_out horizon_out rule_out band_out sum_out premium_out any_below sum_to
label_causes =
    record {
      version = refl;
      field = refl;
      sizes = refl;
      length = refl;
      last = refl;
      start = refl;
      horizon = refl;
      premium = refl;
      none = refl;
      seven = (refl, refl);
      six = refl;
    }

-- Byte 7 of example A's label as it would be for 4 columns, and for 2.
pub last_wrong :
    (read_cause (2 ∷ 0 ∷ 44 ∷ 2 ∷ 3 ∷ 2 ∷ 2 ∷ 3 ∷ drop 8 label_a) ≡ 17) × (read_cause (2 ∷ 0 ∷ 44 ∷ 2 ∷ 3 ∷ 2 ∷ 2 ∷ 1 ∷ drop 8 label_a) ≡ 17)
unfolding layout_of frame_cause be_at scheme_of up_to tab cause_of size_out start_out horizon_out rule_out band_out sum_out premium_out any_below sum_to
last_wrong = (refl, refl)

-- Its rule rows, the first from byte 8, and its bands.
pub rows_label : (rule_row label_a 1 ≡ 1 ∷ 1 ∷ 2 ∷ []) × (rule_row label_a 2 ≡ 1 ∷ 2 ∷ 2 ∷ []) × (rule_row label_a 3 ≡ [])
unfolding layout_of rule_row frame_cause be_at scheme_of up_to tab cause_of size_out start_out horizon_out rule_out band_out sum_out premium_out any_below sum_to
rows_label = (refl, refl, refl)

pub bands_label : stored_bands label_a ≡ Ends 800000000 900000000 ∷ Ends 100000000 200000000 ∷ Ends 0 50000000 ∷ []
unfolding layout_of tab be_at
bands_label = refl

-- The first 4 answers of a reader over it.
pub reader_label : answers (open_part label_a) 4 0 ≡ Ends 800000000 900000000 ∷ Ends 100000000 200000000 ∷ Ends 0 50000000 ∷ NoMore ∷ []
unfolding layout_of answers band_at open_part frame_cause be_at scheme_of up_to tab cause_of size_out start_out horizon_out rule_out band_out sum_out premium_out any_below sum_to
reader_label = refl

-- Example A's scheme written in version 2 into 46 bytes and into 43.
pub record LabelWritings : Type 0 where
  pub length : write_answer scheme_a 2 (replicate 46 9) ≡ Written 44
  pub written : write_leaves scheme_a 2 (replicate 46 9) ≡ label_a ++ (9 ∷ 9 ∷ [])
  pub short : write_answer scheme_a 2 (replicate 43 9) ≡ Declined 13
  pub left : write_leaves scheme_a 2 (replicate 43 9) ≡ replicate 43 9
  pub cause : write_answer (single 2 0 1000000000 10) 2 (replicate 19 9) ≡ Declined 7

pub label_writings : LabelWritings
unfolding layout_of write_answer write_leaves bytes_of header_bytes joined be_bytes tab cause_of size_out start_out horizon_out rule_out band_out sum_out premium_out any_below sum_to
label_writings = record { length = refl; written = refl; short = refl; left = refl; cause = refl }

-- Another version is cause 1, before the scheme's cause and the slice's; the slice is left as it was.
pub record OtherVersions : Type 0 where
  pub third : write_answer scheme_a 3 (replicate 50 9) ≡ Declined 1
  pub zeroth : write_answer scheme_a 0 (replicate 50 9) ≡ Declined 1
  pub wide : write_answer scheme_a 257 (replicate 50 9) ≡ Declined 1
  pub left : write_leaves scheme_a 257 (replicate 50 9) ≡ replicate 50 9
  pub before : write_answer (single 2 0 1000000000 10) 3 [] ≡ Declined 1

pub other_versions : OtherVersions
unfolding layout_of write_answer write_leaves bytes_of header_bytes joined be_bytes tab cause_of size_out start_out horizon_out rule_out band_out sum_out premium_out any_below sum_to
other_versions = record { third = refl; zeroth = refl; wide = refl; left = refl; before = refl }
