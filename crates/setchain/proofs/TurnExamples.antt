-- What turns do, and which figures obey the step and follow it: the chance of having reached class 1 on Example A's interval rows, and figures that do not.
use Rattle.std.specs.Prelude.{◌≡◌, refl, true, false, eqb}
use Rattle.std.proofs.Common.{arith, le_refl}
use Rattle.setchain.specs.Sums.{sum_to, only_if}
use Rattle.setchain.specs.Fractions.{whole, sum_fractions}
use Rattle.setchain.specs.Rows.{ONE}
use Rattle.setchain.specs.Step.{capacity_before, fill_row, step_figure}
use Rattle.setchain.specs.Years.{years_figure, nothing, share_payoff, low_share}
use Rattle.setchain.specs.Picks.{product, exact_share}
use Rattle.setchain.specs.Turns.{add, stay, turned, turned_exact, plain, Obeys, Follows}
use Rattle.setchain.specs.Reached.{reached_figure}
use Rattle.setchain.proofs.Laws.Reached.{reached_turn, reached_obeys}
use Rattle.setchain.proofs.Examples.{chain_a, picks_a}
use Rattle.setchain.proofs.DistanceExamples.{fraction, HasValue}
use Rattle.setchain.proofs.PromiseExamples.{picks_examples}

-- A gain of 5 is added to the one-year figure; a state that stays at 10 has 10, whatever its one-year figure is.
pub record TurnExamples : Type 0 where
  pub adds : turned (add 5) 7 ≡ 12
  pub stays : turned (stay 10) 7 ≡ 10
  pub adds_exact : HasValue (turned_exact (add 5) (fraction 7 2)) 17 2
  pub stays_exact : HasValue (turned_exact (stay 10) (fraction 7 2)) 10 1

pub turn_examples : TurnExamples
turn_examples = record { adds = refl; stays = refl; adds_exact = record { proper = omega arith; same = refl }; stays_exact = record { proper = omega arith; same = refl } }

-- The low chance of having reached class 1 obeys where class 1 stays at ONE. It obeys no high step; the low share of class 1, which class 1 does leave again,
-- does not obey its turn; nor does the chance obey from another payoff.
pub record ObeysExamples : Type 0 where
  pub reached : Obeys false chain_a (share_payoff 0) (reached_turn ONE 0) (reached_figure false chain_a 0)
  pub not_high : Obeys true chain_a (share_payoff 0) (reached_turn ONE 0) (reached_figure false chain_a 0) → ⊥
  pub not_staying : Obeys false chain_a (share_payoff 0) (reached_turn ONE 0) (low_share chain_a 0) → ⊥
  pub not_from : Obeys false chain_a nothing (reached_turn ONE 0) (reached_figure false chain_a 0) → ⊥

pub obeys_examples : ObeysExamples
unfolding reached_figure years_figure step_figure fill_row capacity_before sum_to only_if
obeys_examples =
    record {
      reached = reached_obeys false chain_a 0;
      not_high = λ h. omega (arith, h.more 0 1 (omega arith));
      not_staying = λ h. omega (arith, h.more 0 0 (omega arith));
      not_from = λ h. omega (arith, h.start 0 (omega arith));
    }

-- What is 10 for all picks follows where every state stays at 10, from the payoff 10 alone; the share of class 1 follows no gain; and nothing improper follows.
pub record FollowsExamples : Type 0 where
  pub stays : Follows chain_a (λ i. 10) (λ i. stay 10) (λ ps i. whole 10)
  pub other_payoff : Follows chain_a (λ i. 11) (λ i. stay 10) (λ ps i. whole 10) → ⊥
  pub other_turn : Follows chain_a (λ i. 10) (λ i. stay 11) (λ ps i. whole 10) → ⊥
  pub gained : Follows chain_a (λ i. only_if (eqb i 0) 1) (λ i. add 1) (exact_share 2 0) → ⊥
  pub improper : Follows chain_a nothing plain (λ ps i. fraction 0 0) → ⊥

pub follows_examples : FollowsExamples
unfolding product sum_fractions only_if
follows_examples =
    record {
      stays = record { proper = λ ps inside i l. le_refl 1; start = λ i l. refl; more = λ p ps inside i l. refl };
      other_payoff = λ h. omega (arith, h.start 0 (omega arith));
      other_turn = λ h. omega (arith, h.more _ _ picks_examples.two.inside 0 (omega arith));
      gained = λ h. omega (arith, h.more _ _ picks_examples.two.inside 0 (omega arith));
      improper = λ h. omega (arith, h.proper picks_a picks_examples.two.inside 0 (omega arith));
    }
