-- What the mixing check answers for schemes of which no count mixes, and of which some does.
use Rattle.std.specs.Prelude.{ℕ, zero, suc, ◌%◌, ◌<◌, ◌≡◌, Bool, true, false, Ok, Err}
use Rattle.std.proofs.Math.Path.{refl}
use Rattle.std.proofs.Common.{ap, sym, ◌∙◌, subst, true≢false, arith}
use Rattle.std.specs.Bool.{beq}
use Rattle.std.proofs.lemmas.Bool.{false≢true}
use Rattle.setchain.specs.Sums.{sum_to, only_if}
use Rattle.setchain.specs.Tests.{any_below, all_below}
use Rattle.setchain.specs.Mixing.{path, mixes}
use Rattle.setchain.proofs.Examples.{cycle_with_chord}
use Rattle.setchain.proofs.Cycle.{cycle_first}
use Rattle.setchain.proofs.Laws.Tests.{all_true, first_eq}
use Rattle.setchain.proofs.Laws.Mixing.{mixes_agrees, no_path_within}
use Rattle.scheme.specs.declared.Scheme.{Scheme}
use Rattle.scheme.specs.declared.Cause.TheVariants.{NotMixing}
use Rattle.scheme.specs.Tables.{tab}
use Rattle.scheme.specs.Cause.{size_out, start_out, horizon_out, rule_out, band_out, sum_out, premium_out, cause_of}
use Rattle.scheme.proofs.Examples.{scheme_a}
use Rattle.mixing_spec.specs.MixingAnswer.{scheme_edges, mixes_scheme, first_count, mixing_answer_of, mixing_answer}
use Rattle.mixing_spec.proofs.Examples.{one_class, both, one_way, cycle, never_entered, cycle_and_chord, first_counts}
use Rattle.mixing_spec.proofs.Theorems.{MixingAnswered, ShortestCount, first_shortest, mixing_answered}
use Rattle.mixing_spec.proofs.Laws.{none_to_last, answer_not_mixing, answer_count}

-- A count is answered as it is, and a cause with its number and no count.
count_is : mixing_answer_of (Ok 7) ≡ record { number = 0; count = 7 }
count_is = refl

no_count : mixing_answer_of (Err NotMixing) ≡ record { number = 16; count = 0 }
no_count = refl

-- Class 1 is not left along the edges: Example A, and where class 2 is never entered.
module _ (s : Scheme) (two : s.classes ≡ 2) (closed : scheme_edges s 0 1 ≡ false) where
  stays : (u k l : ℕ) → l < 2 → k ≡ 0 → scheme_edges s k l ≡ true → l ≡ 0
  stays u k zero g w e = refl
  stays u k (suc zero) g w e = absurd (true≢false (sym e ∙ ap (λ x. scheme_edges s x 1) w ∙ closed))
  stays u k (suc (suc l)) g w e = absurd (omega arith)

  not_left : first_count s ≡ 0
  unfolding mixes_scheme
  not_left =
      none_to_last s
      (ap (λ n. mixes n (scheme_edges s) 1024) two
      ∙ no_path_within 2 (scheme_edges s) (λ u k. k ≡ 0) stays 1024 0 1 (omega arith) (omega arith) refl (λ e. omega (arith, e)))

-- In a cycle of two the class tells the year's parity.
turns : (u k l : ℕ) → l < 2 → k ≡ u % 2 → scheme_edges (cycle 0) k l ≡ true → l ≡ suc u % 2
unfolding sum_to only_if
turns u zero zero g w e = absurd (true≢false (sym e))
turns u zero (suc zero) g w e = omega arith
turns u (suc zero) zero g w e = omega arith
turns u (suc zero) (suc zero) g w e = absurd (true≢false (sym e))
turns u zero (suc (suc l)) g w e = absurd (omega arith)
turns u (suc zero) (suc (suc l)) g w e = absurd (omega arith)
turns u (suc (suc k)) l g w e = absurd (omega arith)

not_left_in_turn : first_count (cycle 0) ≡ 0
unfolding mixes_scheme
not_left_in_turn =
    none_to_last (cycle 0) (no_path_within 2 (scheme_edges (cycle 0)) (λ u k. k ≡ u % 2) turns 1024 0 1 (omega arith) (omega arith) refl (λ e. omega (arith, e)))

-- 32 classes in a cycle with a chord have the edges of which the first count is known.
beq_eq : (a b : Bool) → beq a b ≡ true → a ≡ b
beq_eq true true e = refl
beq_eq true false e = absurd (false≢true e)
beq_eq false true e = absurd (false≢true e)
beq_eq false false e = refl

abbrev same_edge : (i j : ℕ) → Bool
same_edge i j = beq (scheme_edges (cycle_and_chord 32) i j) (cycle_with_chord 31 i j)

same_edges : all_below 32 (λ i. all_below 32 (same_edge i)) ≡ true
unfolding any_below tab sum_to only_if
same_edges = refl

first_of_32 : first_count (cycle_and_chord 32) ≡ 962
unfolding first_count mixes_scheme
first_of_32 =
    first_eq 1024 1 (mixes 32 (scheme_edges (cycle_and_chord 32))) (mixes 32 (cycle_with_chord 31))
    (λ t l. mixes_agrees 32 (scheme_edges (cycle_and_chord 32)) (cycle_with_chord 31) agree t)
    ∙ cycle_first 31 (omega arith) 1024 (omega arith)
  where
    agree : (i j : ℕ) → i < 32 → j < 32 → scheme_edges (cycle_and_chord 32) i j ≡ cycle_with_chord 31 i j
    agree i j l g =
        beq_eq (scheme_edges (cycle_and_chord 32) i j) (cycle_with_chord 31 i j) (all_true 32 (same_edge i) (all_true 32 (λ i. all_below 32 (same_edge i)) same_edges i l) j g)

-- All of them are accepted, and so causes 3 to 10 are not theirs.
accepted : (cause_of scheme_a ≡ 0) × (cause_of never_entered ≡ 0) × (cause_of (cycle 0) ≡ 0) × (cause_of both ≡ 0) × (cause_of one_way ≡ 0) × (cause_of one_class ≡ 0)
    × (cause_of (cycle_and_chord 2) ≡ 0) × (cause_of (cycle_and_chord 3) ≡ 0) × (cause_of (cycle_and_chord 32) ≡ 0)
unfolding cause_of size_out start_out horizon_out rule_out band_out sum_out premium_out any_below tab sum_to
accepted = (refl, refl, refl, refl, refl, refl, refl, refl, refl)

-- What is answered where no count mixes: 16, and no count.
pub record NoneMixes : Type 0 where
  pub example_a : mixing_answer scheme_a ≡ record { number = 16; count = 0 }
  pub entered : mixing_answer never_entered ≡ record { number = 16; count = 0 }
  pub turning : mixing_answer (cycle 0) ≡ record { number = 16; count = 0 }

pub none_mixes_in : NoneMixes
unfolding sum_to only_if
none_mixes_in =
    record {
      example_a = sym (answer_not_mixing scheme_a accepted.0 (sym (not_left scheme_a refl refl)) refl);
      entered = sym (answer_not_mixing never_entered accepted.1 (sym (not_left never_entered refl refl)) refl);
      turning = sym (answer_not_mixing (cycle 0) accepted.2 (sym not_left_in_turn) refl);
    }

-- What is answered where some count mixes: the first. A cycle with a chord is known to take the longest of so many classes (Wielandt 1950).
pub record SomeMixes : Type 0 where
  pub one : mixing_answer one_class ≡ record { number = 0; count = 1 }
  pub in_one : mixing_answer both ≡ record { number = 0; count = 1 }
  pub in_two : mixing_answer one_way ≡ record { number = 0; count = 2 }
  pub of_two : mixing_answer (cycle_and_chord 2) ≡ record { number = 0; count = 2 }
  pub of_three : mixing_answer (cycle_and_chord 3) ≡ record { number = 0; count = 5 }
  pub of32 : mixing_answer (cycle_and_chord 32) ≡ record { number = 0; count = 962 }

pub some_mixes_in : SomeMixes
some_mixes_in =
    record {
      one = counted one_class 0 accepted.5 first_counts.one;
      in_one = counted both 0 accepted.3 first_counts.in_one;
      in_two = counted one_way 1 accepted.4 first_counts.in_two;
      of_two = counted (cycle_and_chord 2) 1 accepted.6 first_counts.of_two;
      of_three = counted (cycle_and_chord 3) 4 accepted.7 first_counts.of_three;
      of32 = counted (cycle_and_chord 32) 961 accepted.8 first_of_32;
    }
  where
    counted : (s : Scheme) (before : ℕ) → cause_of s ≡ 0 → first_count s ≡ suc before → mixing_answer s ≡ record { number = 0; count = suc before }
    counted s before ok e = sym (answer_count s ok (sym e) (λ z. omega (arith, z)))

-- What item 3's promise allows, any count that mixes, and what it forbids: 0 years, 1,025, a count that does not mix, 16 where a count mixes, and a count beside 16.
pub record PromiseOfItem3 : Type 0 where
  pub first : MixingAnswered one_class (record { number = 0; count = 1 })
  pub last : MixingAnswered one_class (record { number = 0; count = 1024 })
  pub none : MixingAnswered scheme_a (record { number = 16; count = 0 })
  pub no_years : ¬ MixingAnswered one_class (record { number = 0; count = 0 })
  pub too_many : ¬ MixingAnswered one_class (record { number = 0; count = 1025 })
  pub too_few : ¬ MixingAnswered one_way (record { number = 0; count = 1 })
  pub declined : ¬ MixingAnswered one_class (record { number = 16; count = 0 })
  pub no_count : ¬ MixingAnswered scheme_a (record { number = 0; count = 1024 })
  pub number_alone : ¬ MixingAnswered scheme_a (record { number = 16; count = 1024 })

pub promise_of_item_3 : PromiseOfItem3
unfolding mixes_scheme path any_below sum_to only_if
promise_of_item_3 =
    record {
      first = alone;
      last = record { number = alone.number; count = λ z. record { from = omega arith; to = omega arith; mixing = refl }; declined_count = λ some. absurd (some refl) };
      none = never;
      no_years = λ w. omega (arith, (w.count refl).from);
      too_many = λ w. omega (arith, (w.count refl).to);
      too_few = λ w. true≢false (sym (w.count refl).mixing);
      declined = λ w. omega (arith, w.number, alone.number);
      no_count = λ w. omega (arith, w.number, never.number);
      number_alone = λ w. omega (arith, w.declined_count (λ z. omega (arith, z)));
    }
  where
    alone : MixingAnswered one_class (record { number = 0; count = 1 })
    alone = subst (MixingAnswered one_class) some_mixes_in.one (mixing_answered one_class)

    never : MixingAnswered scheme_a (record { number = 16; count = 0 })
    never = subst (MixingAnswered scheme_a) none_mixes_in.example_a (mixing_answered scheme_a)

-- Shortest is 2 years, and not 1, which does not mix, nor 3, which mixes as 2 do.
pub record Shortest : Type 0 where
  pub two : ShortestCount one_way 2
  pub not_one : ¬ ShortestCount one_way 1
  pub not_three : ¬ ShortestCount one_way 3

pub shortest_of_one_way : Shortest
unfolding mixes_scheme path any_below sum_to only_if
shortest_of_one_way =
    record {
      two = subst (ShortestCount one_way) first_counts.in_two (first_shortest one_way (λ z. omega (arith, z, first_counts.in_two)));
      not_one = λ w. true≢false (sym w.counted.mixing);
      not_three = λ w. true≢false (w.none 2 (omega arith) (omega arith));
    }
