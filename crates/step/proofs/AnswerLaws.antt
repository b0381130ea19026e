-- The one-year step's cause from that of the class's interval row, and its whole answer from the class's interval row.
-- Assumes nothing.
use Prim.Native.Nat.{ℕ, ◌-◌, ◌≤◌, ◌<◌}
use mathlib.Core.Path.{◌≡◌, refl, ap, sym, ◌∙◌, subst}
use mathlib.Core.Bool.{Bool, true, false, cond}
use mathlib.Core.List.{List, ◌++◌}
use native.Mathlib.Decide.{ℕ_discrete}
use native.Mathlib.Omega.{arith}
use lib.Dec.{ltb}
use lib.ListN.{length, take, drop, replicate, length-replicate}
use lib.Seq.{take_at, length-take-le, get_or-take}
use borrow.Author.Tests.{ltb-false, ne_eqb}
use Rattle.setchain.specs.Sums.{at}
use Rattle.setchain.specs.Rows.{SoundRow, lists_row}
use Rattle.setchain.specs.Step.{step_figure, Reaches}
use Rattle.setchain.proofs.Laws.Agreeing.{Agree, agree_sym, sound_agrees, reaches_agree}
use Rattle.setchain.proofs.Laws.Step.{reached_figure_lem}
use Rattle.setchain.proofs.Laws.Tests.{any_false}
use Rattle.scheme.specs.declared.Scheme.{Scheme}
use Rattle.scheme.specs.RowAnswer.{RowAnswer, row_cause, row_refused, interval_at, interval_answer}
use Rattle.scheme.specs.Accepted.{Accepted}
use Rattle.scheme.specs.FirstCause.{◌when◌, or_else}
use Rattle.scheme.specs.Cause.{outside, cause_of, class_cause}
use Rattle.scheme.specs.Stages.{limit_cause}
use Rattle.scheme.proofs.Laws.FirstCause.{first_cause, second_cause, declined, answered, first_none, second_none, test_none, cause_first}
use Rattle.scheme.proofs.Laws.Cause.{class_fits}
use Rattle.scheme.proofs.Laws.Judged.{accepted_cause, cause_most}
use Rattle.scheme.proofs.Laws.Sound.{accepted_sound}
use Rattle.scheme.proofs.Laws.RowAnswer.{interval_number, answered_size, answered_agrees}
use Rattle.rows.specs.Laws.Front.{front_lent, whole_size, whole_front, whole_beyond}
use Rattle.order.specs.Order.{SortedPermutation}
use Rattle.step_spec.specs.StepAnswer.{StepAnswer, MOST_PAYOFF, payoff_out, step_cause, class_row, StepAnswered}
use Rattle.step.specs.Answer.{scheme_cause, step_refused}
use Rattle.step.specs.Step.{StepPre, StepPost}

-- The causes of a scheme are 10 at most: a number of 11 is the class's cause, and any other is the scheme's.
apart : (a : ℕ) (out : Bool) → a ≤ 10 → scheme_cause (or_else a (cond out 11 0)) ≡ a
apart a out few = by (ℕ_discrete a 0)
  where
    class : (b : Bool) → scheme_cause (cond b 11 0) ≡ 0
    class true = refl
    class false = refl

    by : Dec (a ≡ 0) → scheme_cause (or_else a (cond out 11 0)) ≡ a
    by (yes z) = ap scheme_cause (second_cause a (cond out 11 0) z) ∙ class out ∙ sym z
    by (no h) = ap scheme_cause (first_cause a (cond out 11 0) h) ∙ ap (λ b. cond b 0 a) (ne_eqb a 11 (λ e. omega arith))

module _ (s : Scheme) (payoff : List ℕ) (class : ℕ) where
  -- Cause 10 of the payoffs.
  payoff_cause : ℕ
  payoff_cause = 10 when payoff_out s payoff

  -- A call that is declined: the number, and 0 everywhere else.
  pub step_declined : {high : Bool} {r : StepAnswer} (n : ℕ) → r ≡ step_refused n → n ≡ step_cause s payoff class → (n ≡ 0 → ⊥) → StepAnswered high s payoff class r
  step_declined {high} n made is some =
      rw made
      (record {
        number = is;
        figure = sym (declined (step_cause s payoff class) (step_figure high s.classes (class_row s class) (at payoff)) 0 (λ z. some (is ∙ z)));
        size = length-replicate {A = ℕ} 32 0;
        declined_row = λ h. refl;
        beyond = λ z. absurd (some z);
        reaches = λ z. absurd (some z);
      })

  -- Over the answer for the class's interval row.
  module _ {interval : RowAnswer} (is : interval ≡ interval_answer s class) where
    number_is : interval.number ≡ row_cause s class
    number_is = interval_number s class is

    module _ {own : ℕ} (owns : own ≡ scheme_cause interval.number) where
      -- The scheme's own cause.
      own_is : own ≡ cause_of s
      own_is = owns ∙ ap scheme_cause number_is ∙ apart (cause_of s) (outside s.classes class) (cause_most s)

      -- Comes first.
      pub cause_scheme : (own ≡ 0 → ⊥) → own ≡ step_cause s payoff class
      cause_scheme h = cause_first _ own_is h

      module _ (none : own ≡ 0) where
        -- Without one there are 32 classes at most.
        pub classes_fit : s.classes ≤ 32
        classes_fit = (accepted_cause s (sym own_is ∙ none)).size.classes

        -- And the payoffs' cause comes before the class's.
        pub cause_later : or_else (limit_cause MOST_PAYOFF payoff s.classes) interval.number ≡ step_cause s payoff class
        unfolding payoff_out
        cause_later =
            let accepted : cause_of s ≡ 0 = sym own_is ∙ none in
            ap (or_else (10 when payoff_out s payoff)) (number_is ∙ second_cause (cause_of s) (class_cause s class) accepted) ∙ sym (second_cause (cause_of s) _ accepted)

    -- A call that is not declined.
    module _ {number : ℕ} (counts : number ≡ step_cause s payoff class) (none : number ≡ 0) where
      -- The causes in turn are all 0: the scheme's,
      scheme_none : cause_of s ≡ 0
      scheme_none = first_none (cause_of s) _ (sym counts ∙ none)

      later_none : or_else payoff_cause (class_cause s class) ≡ 0
      unfolding payoff_cause
      later_none = second_none (cause_of s) _ (sym counts ∙ none)

      -- and the class's.
      class_none : class_cause s class ≡ 0
      class_none = second_none payoff_cause (class_cause s class) later_none

      -- So the scheme is accepted.
      ok : Accepted s
      ok = accepted_cause s scheme_none

      -- The class is one of 1 to s.
      range : (1 ≤ class) × (class ≤ s.classes)
      range = class_fits s.classes class class_none

      -- And no payoff is above its limit.
      payoff_fits : (j : ℕ) → j < s.classes → at payoff j ≤ MOST_PAYOFF
      unfolding payoff_cause payoff_out
      payoff_fits j l =
          ltb-false MOST_PAYOFF (at payoff j)
          (any_false s.classes (λ i. ltb MOST_PAYOFF (at payoff i)) (test_none _ 10 (omega arith) (first_none payoff_cause (class_cause s class) later_none)) j l)

      -- Its row is sound.
      sound : SoundRow s.classes (class_row s class)
      sound = accepted_sound s ok (class - 1) (omega (arith, range))

      -- And is the one that is answered.
      entries_are : interval ≡ interval_at s (class - 1)
      entries_are =
          is
          ∙ answered (row_cause s class) (interval_at s (class - 1)) (row_refused (row_cause s class))
          (second_cause (cause_of s) (class_cause s class) scheme_none ∙ class_none)

      -- With a lower and an upper entry for each class.
      pub entries_fit : (s.classes ≤ length interval.lower) × (s.classes ≤ length interval.upper)
      entries_fit =
          let size = answered_size s.classes (class_row s class) in
          omega (
            arith,
            ap (λ r. length r.lower) entries_are,
            ap (λ r. length r.upper) entries_are,
            size.0,
            size.1,
            ok.size.classes,
          )

      -- So the entries that are lent are the class's interval row.
      same : Agree s.classes (lists_row (take s.classes interval.lower) (take s.classes interval.upper)) (class_row s class)
      same =
          let agree = answered_agrees s.classes (class_row s class) ok.size.classes in
          record {
            lower = λ j l. get_or-take s.classes interval.lower j 0 l ∙ ap (λ r. at r.lower j) entries_are ∙ agree.lower j l;
            upper = λ j l. get_or-take s.classes interval.upper j 0 l ∙ ap (λ r. at r.upper j) entries_are ∙ agree.upper j l;
          }

      -- Of which as many are lent as there are classes.
      lower_count : length (take s.classes interval.lower) ≡ s.classes
      lower_count = length-take-le s.classes interval.lower entries_fit.0

      upper_count : length (take s.classes interval.upper) ≡ s.classes
      upper_count = length-take-le s.classes interval.upper entries_fit.1

      module _ (enough : s.classes ≤ length payoff) {high : Bool} where
        -- What the step asks, with the sorted order back in its place.
        pub answer_steps : (order rest : List ℕ) → SortedPermutation (take s.classes payoff) order
            → StepPre (take s.classes interval.lower) (take s.classes interval.upper) (take s.classes payoff)
            (take s.classes (order ++ rest)) high (take s.classes (replicate 32 0))
        answer_steps order rest by_payoff =
            record {
              uppers = upper_count ∙ sym lower_count;
              payoffs = pays ∙ sym lower_count;
              rows = front_lent s.classes ok.size.classes ∙ sym lower_count;
              sound =
                  subst (λ n. SoundRow n (lists_row (take s.classes interval.lower) (take s.classes interval.upper))) (sym lower_count)
                  (sound_agrees (agree_sym same) sound);
              small = λ j l.
                  let h : j < s.classes = rw lower_count at l in
                  omega (arith, get_or-take s.classes payoff j 0 h, payoff_fits j h);
              sorted = subst (SortedPermutation (take s.classes payoff)) (sym (take_at order rest s.classes (by_payoff.permutation.size ∙ pays))) by_payoff;
            }
          where
            pays : length (take s.classes payoff) ≡ s.classes
            pays = length-take-le s.classes payoff enough

        -- What it leaves is the answer.
        pub answer_made : (row : List ℕ) {figure : ℕ}
            → StepPost (take s.classes interval.lower) (take s.classes interval.upper) (take s.classes payoff) high row figure
            → StepAnswered high s payoff class (record { number = number; figure = figure; row = row ++ drop s.classes (replicate 32 0) })
        answer_made row {figure} w =
            record {
              number = counts;
              figure =
                  reached_figure_lem s.classes (class_row s class) sound high (at payoff) (at whole) figure reached
                  ∙ sym (answered (step_cause s payoff class) (step_figure high s.classes (class_row s class) (at payoff)) 0 (sym counts ∙ none));
              size = whole_size s.classes row ok.size.classes size;
              declined_row = λ h. absurd (h none);
              beyond = λ z. whole_beyond s.classes row ok.size.classes size;
              reaches = λ z. reached;
            }
          where
            whole : List ℕ
            whole = row ++ drop s.classes (replicate 32 0)

            size : length row ≡ s.classes
            size = w.size ∙ lower_count

            reached : Reaches high s.classes (class_row s class) (at payoff) (at whole) figure
            reached =
                reaches_agree same (λ j l. get_or-take s.classes payoff j 0 l) (λ j l. sym (whole_front s.classes row ok.size.classes size j l))
                (subst (λ n. Reaches high n (lists_row (take s.classes interval.lower) (take s.classes interval.upper)) (at (take s.classes payoff)) (at row) figure)
                lower_count w.reaches)

-- The same, where the front that is lent has n places, and n is the number of classes.
module _ (s : Scheme) (payoff : List ℕ) (class : ℕ) {interval : RowAnswer} (is : interval ≡ interval_answer s class) {number : ℕ}
    (counts : number ≡ step_cause s payoff class) (none : number ≡ 0) (enough : s.classes ≤ length payoff) {n : ℕ} (count : n ≡ s.classes) {high : Bool} where
  pub front_steps : (order rest : List ℕ) → SortedPermutation (take n payoff) order
      → StepPre (take n interval.lower) (take n interval.upper) (take n payoff) (take n (order ++ rest)) high (take n (replicate 32 0))
  front_steps order rest sorted = rw count (answer_steps s payoff class is counts none enough order rest (rw count at sorted))

  pub front_made : (row : List ℕ) {figure : ℕ} → StepPost (take n interval.lower) (take n interval.upper) (take n payoff) high row figure
      → StepAnswered high s payoff class (record { number = number; figure = figure; row = row ++ drop n (replicate 32 0) })
  front_made row w = rw count (answer_made s payoff class is counts none enough row (rw count at w))
