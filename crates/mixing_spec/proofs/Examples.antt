-- Worked cases, computed: which schemes mix, in which counts of years, the first of them, the number and the answer (document 02, items 3 and 11).
use Rattle.std.specs.Prelude.{ℕ, ◌+◌, ◌/◌, ◌%◌, ◌≡◌, refl, true, false, cond, ◌&&◌, ◌||◌, [], ◌∷◌, eqb}
use Rattle.setchain.specs.Sums.{sum_to, only_if}
use Rattle.setchain.specs.Tests.{any_below, first_from}
use Rattle.setchain.specs.Mixing.{path}
use Rattle.scheme.specs.declared.Scheme.{Scheme}
use Rattle.scheme.specs.Cause.{size_out, start_out, horizon_out, rule_out, band_out, sum_out, premium_out, cause_of}
use Rattle.scheme.specs.Tables.{tab}
use Rattle.scheme.specs.Access.{CELL_STRIDE, CELL_PLACES}
use Rattle.scheme.proofs.Examples.{padded, scheme_a, single}
use Rattle.mixing_spec.specs.MixingAnswer.{scheme_edges, mixes_scheme, first_count, mixing_number, mixing_answer}

-- Two classes and two columns, each class with two rules; both columns have one band.
abbrev pub two_classes : (rule1 rule2 rule1' rule2' upper premium : ℕ) → Scheme
two_classes rule1 rule2 rule1' rule2' upper premium =
    record {
      classes = 2;
      columns = 2;
      start = 1;
      horizon = 100;
      rules = padded 246 (rule1 ∷ rule2 ∷ 0 ∷ 0 ∷ 0 ∷ 0 ∷ 0 ∷ 0 ∷ rule1' ∷ rule2' ∷ []);
      lowers = padded 6 (0 ∷ 0 ∷ []);
      uppers = padded 6 (upper ∷ upper ∷ []);
      premiums = padded 30 (premium ∷ premium ∷ []);
    }

-- One class, with a band from 0 to ONE: its tight lower entry is ONE.
abbrev pub one_class : Scheme
one_class = single 1 0 1000000000 0

-- Each class leads to both; bands from 0 to .6, so that the interval rows have no lower entry above 0 and the tight rows have only such.
abbrev pub both : Scheme
both = two_classes 1 2 1 2 600000000 0

-- Class 1 leads to class 2 alone, and class 2 to both.
abbrev pub one_way : Scheme
one_way = two_classes 2 2 1 2 600000000 0

-- Each class leads to the other alone.
abbrev pub cycle : (premium : ℕ) → Scheme
cycle premium = two_classes 2 2 1 1 600000000 premium

-- No class leads to class 2.
abbrev pub never_entered : Scheme
never_entered = two_classes 1 1 1 1 600000000 0

-- Each class leads to both; bands from 0 to ONE, so that no row has a lower entry above 0.
abbrev pub edgeless : (premium : ℕ) → Scheme
edgeless premium = two_classes 1 2 1 2 1000000000 premium

-- So many classes in a cycle with a chord, two or more: each leads to the next and the last to class 1, and the one before it leads to class 1 too.
-- The rules beyond the classes and columns are ignored.
abbrev pub chord_rule : (classes place : ℕ) → ℕ
chord_rule classes place =
    let class = place / CELL_STRIDE + 1 in
    cond (eqb class classes || eqb (place % CELL_STRIDE) 1 && eqb (class + 1) classes) 1 (class + 1)

abbrev pub cycle_and_chord : (classes : ℕ) → Scheme
cycle_and_chord classes =
    record {
      classes = classes;
      columns = 2;
      start = 1;
      horizon = 100;
      rules = tab CELL_PLACES (chord_rule classes);
      lowers = padded 6 (400000000 ∷ 400000000 ∷ []);
      uppers = padded 6 (600000000 ∷ 600000000 ∷ []);
      premiums = padded 32 [];
    }

pub record EdgesByTightLowers : Type 0 where
  -- Example A: class 1 has no tight lower entry to class 2, though an upper one; class 2 has both.
  pub example_a : (scheme_edges scheme_a 0 0 ≡ true) × (scheme_edges scheme_a 0 1 ≡ false) × (scheme_edges scheme_a 1 0 ≡ true) × (scheme_edges scheme_a 1 1 ≡ true)
  pub tight_alone : (scheme_edges both 0 0 ≡ true) × (scheme_edges both 0 1 ≡ true) × (scheme_edges both 1 0 ≡ true) × (scheme_edges both 1 1 ≡ true)
  pub none : (scheme_edges (edgeless 0) 0 0 ≡ false) × (scheme_edges (edgeless 0) 0 1 ≡ false)

pub edges_by_tight_lowers : EdgesByTightLowers
unfolding sum_to only_if
edges_by_tight_lowers = record { example_a = (refl, refl, refl, refl); tight_alone = (refl, refl, refl, refl); none = (refl, refl) }

pub record WhichMix : Type 0 where
  -- One class: every count, also 0, which is none of 1 to 1,024.
  pub one : (mixes_scheme one_class 0 ≡ true) × (mixes_scheme one_class 1 ≡ true) × (mixes_scheme one_class 1024 ≡ true) × (mixes_scheme one_class 1025 ≡ true)
  pub in_one : (mixes_scheme both 0 ≡ false) × (mixes_scheme both 1 ≡ true)
  pub in_two : (mixes_scheme one_way 1 ≡ false) × (mixes_scheme one_way 2 ≡ true)
  -- A cycle: exactly so many years, so that three are no more than one.
  pub never : (mixes_scheme (cycle 0) 1 ≡ false) × (mixes_scheme (cycle 0) 2 ≡ false) × (mixes_scheme (cycle 0) 3 ≡ false)

pub which_mix : WhichMix
unfolding mixes_scheme path any_below sum_to only_if
which_mix = record { one = (refl, refl, refl, refl); in_one = (refl, refl); in_two = (refl, refl); never = (refl, refl, refl) }

-- The first count that mixes, or 0: 1 year where the edges are all there, and of classes in a cycle with a chord one more than the square of one less than they are.
pub record FirstCounts : Type 0 where
  pub one : first_count one_class ≡ 1
  pub in_one : first_count both ≡ 1
  pub in_two : first_count one_way ≡ 2
  pub none : first_count (edgeless 0) ≡ 0
  pub of_two : first_count (cycle_and_chord 2) ≡ 2
  pub of_three : first_count (cycle_and_chord 3) ≡ 5

pub first_counts : FirstCounts
unfolding first_count first_from mixes_scheme path any_below tab sum_to only_if
first_counts = record { one = refl; in_one = refl; in_two = refl; none = refl; of_two = refl; of_three = refl }

-- The number: 16 where no count mixes, 0 where one does, and the causes of the scheme before 16.
pub record Numbers : Type 0 where
  pub none : mixing_number (edgeless 0) ≡ 16
  pub first : mixing_number both ≡ 0
  pub second : mixing_number one_way ≡ 0
  pub alone : mixing_number one_class ≡ 0
  -- A premium too large, an upper end above ONE, and a rule to a class that there is not.
  pub premium : mixing_number (edgeless 10000001) ≡ 10
  pub band : mixing_number (two_classes 1 2 1 2 1000000001 0) ≡ 8
  pub rule : mixing_number (two_classes 1 2 1 3 1000000000 0) ≡ 7

pub numbers : Numbers
unfolding cause_of size_out start_out horizon_out rule_out band_out sum_out premium_out first_count first_from mixes_scheme path any_below sum_to only_if
numbers = record { none = refl; first = refl; second = refl; alone = refl; premium = refl; band = refl; rule = refl }

-- The whole answer: the first count, or the cause alone, also of a scheme that would mix but for its premiums.
pub record Answers : Type 0 where
  pub counted : mixing_answer one_way ≡ record { number = 0; count = 2 }
  pub none : mixing_answer (edgeless 0) ≡ record { number = 16; count = 0 }
  pub declined : mixing_answer (two_classes 1 2 1 2 600000000 10000001) ≡ record { number = 10; count = 0 }

pub answers : Answers
unfolding cause_of size_out start_out horizon_out rule_out band_out sum_out premium_out first_count first_from mixes_scheme path any_below sum_to only_if
answers = record { counted = refl; none = refl; declined = refl }
