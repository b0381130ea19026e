-- What the causes tell, and what is answered where there is none.
-- Assumes nothing.
use Rattle.std.specs.Prelude.{ℕ, suc, ◌≤◌, ◌<◌, ◌≡◌, Bool, cond, ◌||◌, List, ltb, replicate}
use Rattle.std.proofs.Common.{ap, arith, eq-eqb, ne_eqb, ltb-false}
use Rattle.std.proofs.Math.Bool.{true, false}
use Rattle.setchain.specs.Sums.{at}
use Rattle.setchain.proofs.Laws.Tests.{or_false_left, or_false_right}
use Rattle.scheme.specs.Access.{BAND_PLACES}
use Rattle.scheme.proofs.Laws.FirstCause.{first_none, second_none, test_none, answered}
use Rattle.scheme.proofs.Laws.Stored.{stored_at}
use Rattle.poisson_spec.specs.Values.{value}
use Rattle.poisson_spec.specs.Bands.{frequency_of, last_end, end_of, ends_of, lower_ends, upper_ends}
use Rattle.poisson_spec.specs.Answer.{columns_cause, frequency_cause, bands_cause, bands_answer}
use Rattle.poisson_spec.specs.Laws.Values.{claimed_by, free_by}

-- Frequencies and columns that have bands: "0 to 1,000, and m from 2 to 8".
pub record Asked (first second m : ℕ) : Type 0 where
  pub several : 2 ≤ m
  pub columns : m ≤ 8
  pub ordered : first ≤ second
  pub small : second ≤ 1000

module _ (first second m : ℕ) where
  pub no_cause : bands_cause first second m ≡ 0 → Asked first second m
  no_cause z =
      let columns = test_none (ltb m 2 || ltb 8 m) 3 (omega arith) (first_none (columns_cause m) (frequency_cause first second) z) in
      let frequencies = test_none (ltb 1000 first || ltb 1000 second || ltb second first) 21 (omega arith) (second_none (columns_cause m) (frequency_cause first second) z) in
      let above = or_false_left (ltb 1000 first || ltb 1000 second) (ltb second first) frequencies in
      record {
        several = ltb-false m 2 (or_false_left (ltb m 2) (ltb 8 m) columns);
        columns = ltb-false 8 m (or_false_right (ltb m 2) (ltb 8 m) columns);
        ordered = ltb-false second first (or_false_right (ltb 1000 first || ltb 1000 second) (ltb second first) frequencies);
        small = ltb-false 1000 second (or_false_right (ltb 1000 first) (ltb 1000 second) above);
      }

  -- The ends that are answered, lower or upper.
  abbrev pub answered_ends : Bool → List ℕ
  answered_ends false = (bands_answer first second m).lower
  answered_ends true = (bands_answer first second m).upper

  pub ends_answered : (high : Bool) → bands_cause first second m ≡ 0 → answered_ends high ≡ ends_of high (claimed_by high first second) (free_by high first second) m
  unfolding bands_answer
  ends_answered false z = answered (bands_cause first second m) (lower_ends first second m) (replicate BAND_PLACES 0) z
  ends_answered true z = answered (bands_cause first second m) (upper_ends first second m) (replicate BAND_PLACES 0) z

-- The end of a column.
module _ (high : Bool) (claimed free m k : ℕ) where
  pub end_at : k < m → m ≤ 8 → at (ends_of high claimed free m) k ≡ end_of high claimed free m k
  unfolding ends_of
  end_at l most = stored_at BAND_PLACES m (end_of high claimed free m) k (omega arith) l

  -- Of every column but the last it is a value.
  pub end_value : suc k < m → end_of high claimed free m k ≡ value high (frequency_of claimed free k) k
  end_value l = ap (λ b. cond b (last_end high claimed m) (value high (frequency_of claimed free k) k)) (ne_eqb (suc k) m (λ e. omega arith))

  pub end_last : suc k ≡ m → end_of high claimed free m k ≡ last_end high claimed m
  end_last e = ap (λ b. cond b (last_end high claimed m) (value high (frequency_of claimed free k) k)) (eq-eqb (suc k) m e)
