-- The tight row of a class, the rule row of a class, and the bands of all columns.
use Rattle.std.specs.Prelude.{ℕ, ◌≡◌, List, [], ◌∷◌, eqb, length}
use Rattle.scheme.specs.declared.Scheme.{Scheme}
use Rattle.scheme.specs.RowAnswer.{RowAnswer}
use Rattle.scheme.specs.Tables.{tab}
use Rattle.scheme.specs.Access.{shared_lower, shared_upper, cell_count}
use Rattle.scheme.specs.FirstCause.{◌when◌, first_of}
use Rattle.scheme.specs.RowAnswer.{row_answer}
use Rattle.record_spec.specs.Layout.{scheme_in, columns_in}
use Rattle.record_spec.specs.Read.{read_cause}
use Rattle.record_spec.specs.RuleRow.{rule_row_cause, rule_row}
use Rattle.joguyvi_spec.specs.Buffers.{buffer_cause, buffers_cause, filled_where, BufferPost, BuffersPost}

-- A row into two buffers: its cause, then 13 where one of them is not of 32 numbers.
abbrev pub put_row_number : RowAnswer → (lower upper : List ℕ) → ℕ
put_row_number answer lower upper = first_of (answer.number ∷ buffers_cause 32 lower upper ∷ [])

-- What is answered and left for it.
abbrev pub RowPost : RowAnswer → (lower upper : List ℕ) (number : ℕ) (lower' upper' : List ℕ) → Type 0
RowPost answer lower upper = BuffersPost (put_row_number answer lower upper) answer.lower answer.upper lower upper

-- The row of a class of a record (document 01, "Interval rows"; document 02, item 2).
abbrev pub row_of_record : List ℕ → (class : ℕ) → RowAnswer
row_of_record bytes class = row_answer (scheme_in bytes) class

-- The number for it: the cause of reading comes first.
abbrev pub row_number : List ℕ → (class : ℕ) (lower upper : List ℕ) → ℕ
row_number bytes class lower upper = first_of (read_cause bytes ∷ put_row_number (row_of_record bytes class) lower upper ∷ [])

-- joguyvi_row: what it answers and leaves.
pub record RowCall (bytes : List ℕ) (class : ℕ) (lower upper : List ℕ) (number : ℕ) (lower' upper' : List ℕ) : Type 0 where
  -- The cause of reading, then that of the row, then 13.
  pub answer : number ≡ row_number bytes class lower upper
  pub lowers : lower' ≡ filled_where number (row_of_record bytes class).lower lower
  pub uppers : upper' ≡ filled_where number (row_of_record bytes class).upper upper

-- A part of a record into a buffer: 11 where it is empty, then 13 where the buffer is of another length.
abbrev pub part_number : (part out : List ℕ) → ℕ
part_number part out = first_of (11 when eqb (length part) 0 ∷ buffer_cause (length part) out ∷ [])

-- What is answered and left for it.
abbrev pub PartPost : (part out : List ℕ) (number : ℕ) (out' : List ℕ) → Type 0
PartPost part out = BufferPost (part_number part out) part out

-- The number for a rule row of a record (document 01, "Record"): its cause, then 13 where the buffer is not of m bytes.
abbrev pub rule_row_number : List ℕ → (class : ℕ) → List ℕ → ℕ
rule_row_number bytes class out = first_of (rule_row_cause bytes class ∷ buffer_cause (columns_in bytes) out ∷ [])

-- joguyvi_rule_row: what it answers and leaves.
pub record RuleRowCall (bytes : List ℕ) (class : ℕ) (out : List ℕ) (number : ℕ) (out' : List ℕ) : Type 0 where
  pub answer : number ≡ rule_row_number bytes class out
  pub rules : out' ≡ filled_where number (rule_row bytes class) out

-- The lower ends of a scheme's bands, a number for each column.
abbrev pub lower_bands : Scheme → List ℕ
lower_bands s = tab (cell_count s) (shared_lower s)

-- The upper ends.
abbrev pub upper_bands : Scheme → List ℕ
upper_bands s = tab (cell_count s) (shared_upper s)

-- What is answered and left for a scheme's bands into two buffers: 13 where one of them is not of m numbers.
abbrev pub BandsPost : Scheme → (lower upper : List ℕ) (number : ℕ) (lower' upper' : List ℕ) → Type 0
BandsPost s lower upper = BuffersPost (buffers_cause (cell_count s) lower upper) (lower_bands s) (upper_bands s) lower upper

-- The number for a record's bands: the cause of reading, then 13 where a buffer is not of m numbers.
abbrev pub bands_number : List ℕ → (lower upper : List ℕ) → ℕ
bands_number bytes lower upper = first_of (read_cause bytes ∷ buffers_cause (columns_in bytes) lower upper ∷ [])

-- joguyvi_bands: what it answers and leaves.
pub record BandsCall (bytes lower upper : List ℕ) (number : ℕ) (lower' upper' : List ℕ) : Type 0 where
  pub answer : number ≡ bands_number bytes lower upper
  pub lowers : lower' ≡ filled_where number (lower_bands (scheme_in bytes)) lower
  pub uppers : upper' ≡ filled_where number (upper_bands (scheme_in bytes)) upper
