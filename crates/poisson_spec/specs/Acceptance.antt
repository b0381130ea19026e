-- A scheme that has the bands of two claim frequencies is not declined for them: neither 8 nor 9 applies (document 01, "Units and the scheme").
use Rattle.std.specs.Prelude.{ℕ, zero, suc, ◌≤◌, ◌<◌, ◌≡◌, Bool, true, false}
use Rattle.std.proofs.Common.{ap, sym, ◌∙◌, subst, subst₂, arith}
use Rattle.setchain.specs.Sums.{at, sum_to}
use Rattle.setchain.specs.Rows.{ONE}
use Rattle.setchain.proofs.Laws.Sums.{sum_to_eq}
use Rattle.scheme.specs.declared.Scheme.{Scheme}
use Rattle.scheme.specs.Access.{cell_count, lower_at, upper_at}
use Rattle.scheme.specs.Accepted.{BandsFit, SumsFit}
use Rattle.poisson_spec.specs.Answer.{BandsAnswer, bands_cause, bands_answer}
use Rattle.poisson_spec.specs.Laws.Values.{claimed_by, free_by}
use Rattle.poisson_spec.specs.Laws.Answer.{Asked, no_cause, answered_ends, ends_answered, end_at}
use Rattle.poisson_spec.specs.Laws.Ends.{end_by, in_order, capped, lowers_sum, uppers_sum}

-- A scheme of m columns whose classes all have these bands.
pub record HasBands (s : Scheme) (m : ℕ) (answer : BandsAnswer) : Type 0 where
  pub columns : cell_count s ≡ m
  pub lowers : (i k : ℕ) → i < s.classes → k < m → lower_at s i k ≡ at answer.lower k
  pub uppers : (i k : ℕ) → i < s.classes → k < m → upper_at s i k ≡ at answer.upper k

-- "for each column a band, lower ≤ upper ≤ ONE, with sum of lowers ≤ ONE ≤ sum of uppers".
pub record BandsHold (s : Scheme) : Type 0 where
  pub bands : BandsFit s
  pub sums : SumsFit s

-- c + 2 columns, 2 to 8.
module _ (first second c : ℕ) (s : Scheme) (z : bands_cause first second (suc (suc c)) ≡ 0) (has : HasBands s (suc (suc c)) (bands_answer first second (suc (suc c)))) where
  asked : Asked first second (suc (suc c))
  asked = no_cause first second (suc (suc c)) z

  few : c < 7
  few = omega (arith, asked.columns)

  column : (k : ℕ) → k < cell_count s → k < suc (suc c)
  column k l = omega (arith, has.columns)

  -- The ends that a scheme has are those of the two frequencies.
  end_by_lem : (high : Bool) (k : ℕ) → k < suc (suc c) → at (answered_ends first second (suc (suc c)) high) k ≡ end_by first second c asked.ordered asked.small few high k
  end_by_lem high k l =
      ap (λ ends. at ends k) (ends_answered first second (suc (suc c)) high z)
      ∙ end_at high (claimed_by high first second) (free_by high first second) (suc (suc c)) k l asked.columns

  lower_by : (i k : ℕ) → i < s.classes → k < suc (suc c) → lower_at s i k ≡ end_by first second c asked.ordered asked.small few false k
  lower_by i k h l = has.lowers i k h l ∙ end_by_lem false k l

  upper_by : (i k : ℕ) → i < s.classes → k < suc (suc c) → upper_at s i k ≡ end_by first second c asked.ordered asked.small few true k
  upper_by i k h l = has.uppers i k h l ∙ end_by_lem true k l

  -- So are their sums.
  sum_by : (f g : ℕ → ℕ) → ((k : ℕ) → k < suc (suc c) → f k ≡ g k) → sum_to (suc (suc c)) g ≡ sum_to (cell_count s) f
  sum_by f g e = sym (ap (λ n. sum_to n f) has.columns ∙ sum_to_eq (suc (suc c)) f g e)

  hold : BandsHold s
  hold =
      record {
        bands =
            record {
              ordered =
                  λ i k h l. subst₂ ◌≤◌ (sym (lower_by i k h (column k l))) (sym (upper_by i k h (column k l)))
                  (in_order first second c asked.ordered asked.small few k (column k l));
              capped = λ i k h l. subst (λ x. x ≤ ONE) (sym (upper_by i k h (column k l))) (capped first second c asked.ordered asked.small few k (column k l));
            };
        sums =
            record {
              lowers = λ i h. subst (λ x. x ≤ ONE) (sum_by (lower_at s i) _ (λ k l. lower_by i k h l)) (lowers_sum first second c asked.ordered asked.small few);
              uppers = λ i h. subst (λ x. ONE ≤ x) (sum_by (upper_at s i) _ (λ k l. upper_by i k h l)) (uppers_sum first second c asked.ordered asked.small few);
            };
      }

pub bands_accepted : (first second m : ℕ) (s : Scheme) → bands_cause first second m ≡ 0 → HasBands s m (bands_answer first second m) → BandsHold s
bands_accepted first second zero s z has = absurd (omega (arith, (no_cause first second 0 z).several))
bands_accepted first second (suc zero) s z has = absurd (omega (arith, (no_cause first second 1 z).several))
bands_accepted first second (suc (suc c)) s z has = hold first second c s z has
