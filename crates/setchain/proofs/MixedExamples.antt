-- A path told by the states that it passes, worked out on three states in a round.
use Rattle.std.specs.Prelude.{ℕ, zero, suc, ◌<◌, ◌≡◌, refl, true, [], ◌∷◌}
use Rattle.std.proofs.Common.{sym, true≢false, arith}
use Rattle.setchain.specs.Sums.{at}
use Rattle.setchain.specs.Tests.{any_below}
use Rattle.setchain.specs.Mixing.{path, Passes}
use Rattle.setchain.proofs.Mixed.{passes_path}
use Rattle.setchain.proofs.Examples.{round}

-- The states of years 0, 1 and 2.
abbrev in_turn : ℕ → ℕ
in_turn = at (0 ∷ 1 ∷ 2 ∷ [])

-- In two years from 0 to 2, by way of 1; not to 1, which is one year on.
pub record PassedStates : Type 0 where
  pub two : Passes 3 round 2 0 2
  pub not_one : ¬ Passes 3 round 2 0 1

pub passed_states : PassedStates
unfolding path any_below
passed_states =
    record {
      two = record { state = in_turn; begins = refl; ends = refl; within = below; steps = along };
      not_one = λ w. true≢false (sym (passes_path 3 round 2 0 1 w));
    }
  where
    below : (u : ℕ) → u < 2 → in_turn (suc u) < 3
    below zero l = omega arith
    below (suc zero) l = omega arith
    below (suc (suc u)) l = absurd (omega arith)

    along : (u : ℕ) → u < 2 → round (in_turn u) (in_turn (suc u)) ≡ true
    along zero l = refl
    along (suc zero) l = refl
    along (suc (suc u)) l = absurd (omega arith)
