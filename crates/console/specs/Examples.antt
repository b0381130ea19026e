-- Two bytes read into a buffer of four behind its first: what is allowed and what is not; what a read that failed and one that did not have brought; records of short inputs; and checksums, computed.
use Rattle.std.specs.Prelude.{◌≡◌, refl, List, [], ◌∷◌, ℕ, get_or, Ok, Err}
use Rattle.std.proofs.Common.{ap, arith}
use Rattle.big_endian_spec.specs.Numbers.{be_at, number_at}
use Rattle.console.specs.Input.{ReadInto, length_read}
use Rattle.console.specs.Records.{record_at}
use Rattle.console.specs.Checksum.{checksum_from}

-- The buffer before.
abbrev before : List ℕ
before = 7 ∷ 7 ∷ 7 ∷ 7 ∷ []

-- Any two bytes behind the first; not a changed first, not a changed last, not more than fit, not another length.
pub record ReadIntoExamples : Type 0 where
  pub two : (a b : ℕ) → ReadInto 1 before (7 ∷ a ∷ b ∷ 7 ∷ []) 2
  pub full : (a b c : ℕ) → ReadInto 1 before (7 ∷ a ∷ b ∷ c ∷ []) 3
  pub first_lost : ReadInto 1 before (8 ∷ 7 ∷ 7 ∷ 7 ∷ []) 2 → ⊥
  pub rest_lost : ReadInto 1 before (7 ∷ 7 ∷ 7 ∷ 8 ∷ []) 2 → ⊥
  pub too_many : ReadInto 1 before before 4 → ⊥
  pub longer : ReadInto 1 before (7 ∷ 7 ∷ 7 ∷ 7 ∷ 7 ∷ []) 4 → ⊥

pub read_into_examples : ReadIntoExamples
read_into_examples =
    record {
      two = λ a b. record { size = refl; within = omega arith; front = refl; rest = refl };
      full = λ a b c. record { size = refl; within = omega arith; front = refl; rest = refl };
      first_lost = λ h. omega (arith, ap (λ l. get_or l 0 0) h.front);
      rest_lost = λ h. omega (arith, ap (λ l. get_or l 0 0) h.rest);
      too_many = λ h. omega (arith, h.within);
      longer = λ h. omega (arith, h.size);
    }

-- Three bytes that came, and three that came before a read failed.
pub record LengthReadExamples : Type 0 where
  pub whole : length_read (Ok 3) ≡ 3
  pub failed : length_read (Err (record { length = 3 })) ≡ 3

pub length_read_examples : LengthReadExamples
length_read_examples = record { whole = refl; failed = refl }

-- The record behind its length, what the input has of a longer one, a length that is big-endian, and an input too short for a length.
pub record RecordExamples : Type 0 where
  pub behind : record_at (9 ∷ 0 ∷ 2 ∷ 5 ∷ 6 ∷ 7 ∷ []) 1 ≡ 5 ∷ 6 ∷ []
  pub cut : record_at (0 ∷ 3 ∷ 5 ∷ []) 0 ≡ 5 ∷ []
  pub big_endian : record_at (1 ∷ 0 ∷ 5 ∷ 6 ∷ []) 0 ≡ 5 ∷ 6 ∷ []
  pub short : record_at (5 ∷ 6 ∷ []) 1 ≡ []

pub record_examples : RecordExamples
unfolding record_at number_at be_at
record_examples = record { behind = refl; cut = refl; big_endian = refl; short = refl }

-- No number, one, two, and numbers at the modulus.
pub record ChecksumExamples : Type 0 where
  pub none : checksum_from 0 [] ≡ 0
  pub one : checksum_from 0 (7 ∷ []) ≡ 8
  pub two : checksum_from 0 (7 ∷ 3 ∷ []) ≡ 134220956
  pub least : checksum_from 0 (4294967291 ∷ []) ≡ 1
  pub most : checksum_from 0 (4294967290 ∷ []) ≡ 0

pub checksum_examples : ChecksumExamples
unfolding checksum_from
checksum_examples = record { none = refl; one = refl; two = refl; least = refl; most = refl }
