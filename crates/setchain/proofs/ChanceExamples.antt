-- The chance of having reached a state, computed: its figures on Example A's interval rows, and the exact chance of given picks (document 02, item 9).
use Rattle.std.specs.Prelude.{ℕ, ◌+◌, ◌*◌, ◌≡◌, refl, true, false, [], ◌∷◌, length}
use Rattle.std.proofs.Common.{arith}
use Rattle.setchain.specs.Sums.{at, sum_to, only_if}
use Rattle.setchain.specs.Fractions.{whole, sum_fractions}
use Rattle.setchain.specs.Rows.{ONE}
use Rattle.setchain.specs.Step.{capacity_before, fill_row, step_figure}
use Rattle.setchain.specs.Reached.{reached_figure, begins_at, holds, along, sum_sequences, exact_reached, reached_in_parts}
use Rattle.setchain.specs.Sequences.{each_of, sequences, sum_of, filter, same}
use Rattle.setchain.proofs.Examples.{chain_a, first_year, picks_a}
use Rattle.setchain.proofs.DistanceExamples.{HasValue}

-- The low and the high figure of state j after t years, seen from state i of Example A's chain.
abbrev Figures : (j t i low high : ℕ) → Type 0
Figures j t i low high = (reached_figure false chain_a j t i ≡ low) × (reached_figure true chain_a j t i ≡ high)

-- "ONE in every year for the class itself", year 0 too; class 1 from class 2, and class 2 from class 1.
pub record FiguresReached : Type 0 where
  pub itself0 : Figures 1 0 1 ONE ONE
  pub itself1 : Figures 1 1 1 ONE ONE
  pub itself2 : Figures 1 2 1 ONE ONE
  pub year0 : Figures 0 0 1 0 0
  pub year1 : Figures 0 1 1 800000000 900000000
  pub year2 : Figures 0 2 1 960000000 990000000
  pub other0 : Figures 1 0 0 0 0
  pub other1 : Figures 1 1 0 0 50000000
  pub other2 : Figures 1 2 0 0 97500000

pub figures_reached : FiguresReached
unfolding reached_figure step_figure fill_row capacity_before sum_to only_if
figures_reached =
    record {
      itself0 = (refl, refl);
      itself1 = (refl, refl);
      itself2 = (refl, refl);
      year0 = (refl, refl);
      year1 = (refl, refl);
      year2 = (refl, refl);
      other0 = (refl, refl);
      other1 = (refl, refl);
      other2 = (refl, refl);
    }

-- Which sequences begin at a state and hold one: in the first, a middle or the last place.
pub record SequenceExamples : Type 0 where
  pub begins : (begins_at 2 (2 ∷ 0 ∷ []) ≡ true) × (begins_at 0 (2 ∷ 0 ∷ []) ≡ false) × (begins_at 0 [] ≡ false)
  pub first : holds 2 (2 ∷ 0 ∷ 1 ∷ []) ≡ true
  pub middle : holds 0 (2 ∷ 0 ∷ 1 ∷ []) ≡ true
  pub last : holds 1 (2 ∷ 0 ∷ 1 ∷ []) ≡ true
  pub nowhere : (holds 3 (2 ∷ 0 ∷ 1 ∷ []) ≡ false) × (holds 0 [] ≡ false)

pub sequence_examples : SequenceExamples
unfolding begins_at holds
sequence_examples = record { begins = (refl, refl, refl); first = refl; middle = refl; last = refl; nowhere = (refl, refl) }

-- Every sequence once: 8 of three places out of two states; and each place for itself, the states 0 to 2 in the first, ten times those in the second.
pub record SumExamples : Type 0 where
  pub eight : HasValue (sum_sequences 2 3 (λ ks. whole 1)) 8 1
  pub places : HasValue (sum_sequences 3 2 (λ ks. whole (at ks 0 + 10 * at ks 1))) 99 1
  pub none : HasValue (sum_sequences 3 0 (λ ks. whole 7)) 7 1

pub sum_examples : SumExamples
unfolding sum_sequences sum_fractions
sum_examples =
    record {
      eight = record { proper = omega arith; same = refl };
      places = record { proper = omega arith; same = refl };
      none = record { proper = omega arith; same = refl };
    }

-- The list of all sequences of two states out of two, and out of three; those that pass a test; a sum over a list; and which sequences are the same.
pub record ListExamples : Type 0 where
  pub two : sequences 2 2 ≡ (0 ∷ 0 ∷ []) ∷ (0 ∷ 1 ∷ []) ∷ (1 ∷ 0 ∷ []) ∷ (1 ∷ 1 ∷ []) ∷ []
  pub three : length (sequences 3 2) ≡ 9
  pub filtered : filter (holds 1) (sequences 2 2) ≡ (0 ∷ 1 ∷ []) ∷ (1 ∷ 0 ∷ []) ∷ (1 ∷ 1 ∷ []) ∷ []
  pub summed : HasValue (sum_of (λ ks. whole (at ks 0 + 10 * at ks 1)) (sequences 3 2)) 99 1
  pub same_states : (same (0 ∷ 1 ∷ []) (0 ∷ 1 ∷ []) ≡ true) × (same [] [] ≡ true)
  pub other_states : (same (0 ∷ 1 ∷ []) (0 ∷ 2 ∷ []) ≡ false) × (same (1 ∷ 1 ∷ []) (0 ∷ 1 ∷ []) ≡ false)
  pub other_length : (same (0 ∷ 1 ∷ []) (0 ∷ []) ≡ false) × (same (0 ∷ []) (0 ∷ 1 ∷ []) ≡ false)

pub list_examples : ListExamples
unfolding sequences each_of filter sum_of same holds
list_examples =
    record {
      two = refl;
      three = refl;
      filtered = refl;
      summed = record { proper = omega arith; same = refl };
      same_states = (refl, refl);
      other_states = (refl, refl);
      other_length = (refl, refl);
    }

-- The product along a sequence: class 2, class 1, class 2 has four fifths of one twentieth; no year has 1.
-- From class 2 the chance of having reached class 1 is 0, then four fifths, then that and one fifth of six sevenths, or 34 of 35; that of its own class is 1.
-- From class 1, which the first year's matrix does not leave, class 2 is reached in the second year alone.
pub record ExactReached : Type 0 where
  pub product : HasValue (along picks_a (1 ∷ 0 ∷ 1 ∷ [])) 1 25
  pub no_year : HasValue (along [] (1 ∷ [])) 1 1
  pub year0 : HasValue (exact_reached 2 0 [] 1) 0 1
  pub year1 : HasValue (exact_reached 2 0 (first_year ∷ []) 1) 4 5
  pub year2 : HasValue (exact_reached 2 0 picks_a 1) 34 35
  pub itself0 : HasValue (exact_reached 2 1 [] 1) 1 1
  pub itself2 : HasValue (exact_reached 2 1 picks_a 1) 1 1
  pub other2 : HasValue (exact_reached 2 1 picks_a 0) 1 20
  pub parts : HasValue (reached_in_parts 2 0 (first_year ∷ []) 1) 800000000 1

pub exact_reached_lem : ExactReached
unfolding exact_reached along holds begins_at sum_sequences sum_fractions
exact_reached_lem =
    record {
      product = record { proper = omega arith; same = refl };
      no_year = record { proper = omega arith; same = refl };
      year0 = record { proper = omega arith; same = refl };
      year1 = record { proper = omega arith; same = refl };
      year2 = record { proper = omega arith; same = refl };
      itself0 = record { proper = omega arith; same = refl };
      itself2 = record { proper = omega arith; same = refl };
      other2 = record { proper = omega arith; same = refl };
      parts = record { proper = omega arith; same = refl };
    }
