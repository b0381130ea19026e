-- What a chain of iterators answers of a list's front, as the definitions over its indices say it: its sum, and whether a test passes somewhere or everywhere.
-- Assumes nothing.
use Rattle.std.specs.Prelude.{ℕ, zero, suc, ◌+◌, ◌≤◌, ◌≡◌, refl, Bool, true, false, not, ◌||◌, ◌&&◌, List, length, get_or, take, sum}
use Rattle.std.specs.List.{list_any, list_all}
use Rattle.std.proofs.Common.{ap, sym, ◌∙◌, arith, add-one}
use Rattle.std.proofs.lemmas.List.Sums.{sum_by_more}
use Rattle.std.proofs.lemmas.List.Folds.{list_any_more, list_all_more}
use Rattle.setchain.specs.Sums.{at, sum_to}
use Rattle.setchain.specs.Tests.{any_below, all_below}

-- The sum of a front.
pub sum_front : (l : List ℕ) (n : ℕ) → n ≤ length l → sum (take n l) ≡ sum_to n (at l)
unfolding sum_to
sum_front l zero h = refl
sum_front l (suc n) h =
    ap (λ m. sum (take m l)) (sym (add-one n))
    ∙ sum_by_more (λ x. x) l n 0 h
    ∙ ap (λ x. x + at l n) (sum_front l n (omega arith))

-- The test passes for some element of a front.
pub any_front : {X : Type 0} (test : X → Bool) (d : X) (l : List X) (n : ℕ) → n ≤ length l → list_any test (take n l) ≡ any_below n (λ k. test (get_or l k d))
unfolding any_below
any_front test d l zero h = refl
any_front test d l (suc n) h =
    ap (λ m. list_any test (take m l)) (sym (add-one n))
    ∙ list_any_more test l n d h
    ∙ ap (λ b. b || test (get_or l n d)) (any_front test d l n (omega arith))

both : (a b : Bool) → (not a && b) ≡ not (a || not b)
both true b = refl
both false true = refl
both false false = refl

-- The test passes for each element of a front.
pub all_front : {X : Type 0} (test : X → Bool) (d : X) (l : List X) (n : ℕ) → n ≤ length l → list_all test (take n l) ≡ all_below n (λ k. test (get_or l k d))
unfolding any_below
all_front test d l zero h = refl
all_front test d l (suc n) h =
    ap (λ m. list_all test (take m l)) (sym (add-one n))
    ∙ list_all_more test l n d h
    ∙ ap (λ b. b && test (get_or l n d)) (all_front test d l n (omega arith))
    ∙ both (any_below n (λ k. not (test (get_or l k d)))) (test (get_or l n d))
