-- One row, summed by target at the fronts of two arrays and added to the lists.
-- Assumes nothing.
use Prim.Native.Nat.{ℕ, ◌+◌, ◌-◌, ◌<◌}
use mathlib.Core.Path.{◌≡◌, ap, ap₂, sym, ◌∙◌, subst}
use mathlib.Core.List.{List, ◌++◌}
use native.Mathlib.Omega.{arith}
use lib.Dec.{eqb}
use lib.ListN.{length, take, drop}
use Rattle.setchain.specs.Sums.{at, sum_to, only_if}
use Rattle.setchain.specs.Rows.{ONE, lists_row}
use Rattle.setchain.proofs.Laws.Sums.{sum_to_eq}
use Rattle.setchain.proofs.Laws.Agreeing.{Agree, agree_sym, sound_agrees}
use Rattle.scheme.specs.Tables.{tab}
use Rattle.scheme.specs.SumByTarget.{sum_by_target, slack_of}
use Rattle.scheme.proofs.Laws.Tab.{length_tab, get_d_tab}
use Rattle.bounds.specs.Entries.{rules_row, lower_ends, capacities, list_sum, AddRowPre, AddRowPost}
use Rattle.bounds.proofs.FrontLaws.{zeros, front_made}

-- What was written at the front of an array of 32.
abbrev pub front : ℕ → List ℕ → List ℕ
front n l = take n (l ++ drop n zeros)

-- A row whose ends stand at the fronts of arrays of 32 that were lent to be summed in.
module _ (rules lowers uppers : List ℕ) {n i : ℕ} {entries : List ℕ} (lower upper : List ℕ)
    (able : AddRowPre n (rules_row rules lowers uppers) i entries)
    (isLower : lower ≡ tab (length (take n zeros)) (sum_by_target rules lowers))
    (isUpper : upper ≡ tab (length (take n zeros)) (sum_by_target rules uppers)) where
  front_is : (l ends : List ℕ) → l ≡ tab (length (take n zeros)) (sum_by_target rules ends) → front n l ≡ tab n (sum_by_target rules ends)
  front_is l ends e = front_made n l (drop n zeros) able.states (sum_by_target rules ends) e

  front_count : (l ends : List ℕ) → l ≡ tab (length (take n zeros)) (sum_by_target rules ends) → length (front n l) ≡ n
  front_count l ends e = ap length (front_is l ends e) ∙ length_tab n (sum_by_target rules ends)

  front_at : (l ends : List ℕ) → l ≡ tab (length (take n zeros)) (sum_by_target rules ends) → (j : ℕ) → j < n → at (front n l) j ≡ sum_by_target rules ends j
  front_at l ends e j h = ap (λ x. at x j) (front_is l ends e) ∙ get_d_tab n (sum_by_target rules ends) j 0 h

  lower_size_lem : length (front n lower) ≡ n
  lower_size_lem = front_count lower lowers isLower

  upper_size_lem : length (front n upper) ≡ n
  upper_size_lem = front_count upper uppers isUpper

  agree : Agree n (lists_row (front n lower) (front n upper)) (rules_row rules lowers uppers)
  agree = record { lower = front_at lower lowers isLower; upper = front_at upper uppers isUpper }

  pub row_adds : (length (front n lower) ≡ length (front n upper)) × AddRowPre (length (front n upper)) (lists_row (front n lower) (front n upper)) i entries
  row_adds = (
    lower_size_lem ∙ sym upper_size_lem,
    subst (λ k. AddRowPre k (lists_row (front n lower) (front n upper)) i entries) (sym upper_size_lem)
        (record { states = able.states; inside = able.inside; sound = sound_agrees (agree_sym agree) able.sound; lists = able.lists }),
  )

  pub row_added : {entries' : List ℕ} → AddRowPost (length (front n upper)) (lists_row (front n lower) (front n upper)) i entries entries'
      → AddRowPost n (rules_row rules lowers uppers) i entries entries'
  row_added {entries'} a =
      let b : AddRowPost n (lists_row (front n lower) (front n upper)) i entries entries' =
      subst (λ k. AddRowPost k (lists_row (front n lower) (front n upper)) i entries entries') upper_size_lem a in
      record {
        lists = b.lists;
        lower_sums = λ j k l. b.lower_sums j k l ∙ ap (λ x. list_sum entries lower_ends j k + only_if (eqb i k) x) (agree.lower j l);
        capacity_sums = λ j k l. b.capacity_sums j k l ∙ ap₂ (λ x y. list_sum entries capacities j k + only_if (eqb i k) (x - y)) (agree.upper j l) (agree.lower j l);
      }

  pub row_slack : {r : ℕ} → r ≡ slack_of (front n lower) → sum_to n (rules_row rules lowers uppers).lower + r ≡ ONE
  row_slack e = omega (arith, e, ap (λ k. sum_to k (at (front n lower))) lower_size_lem, sum_to_eq n (at (front n lower)) (sum_by_target rules lowers) agree.lower, able.sound.lowers)
