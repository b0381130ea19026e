-- The arrays of 32 entries: s of them summed by target, 0 beyond; and for an accepted scheme they are its interval rows.
use Rattle.std.specs.Prelude.{ℕ, ◌+◌, ◌-◌, ◌*◌, ◌≤◌, ◌<◌, ◌≡◌, true, false, List, ◌++◌, ltb, length, take, drop, replicate}
use Rattle.std.proofs.Math.Path.{ap}
use Rattle.std.proofs.Common.{ap₂, sym, ◌∙◌, arith}
use Rattle.scheme.specs.Access.{CELL_STRIDE, class_bands}
use Rattle.setchain.specs.Sums.{only_if}
use Rattle.scheme.specs.declared.Scheme.{Scheme}
use Rattle.scheme.specs.RowAnswer.{RowAnswer}
use Rattle.scheme.specs.Tables.{tab}
use Rattle.scheme.specs.Accepted.{Accepted}
use Rattle.scheme.specs.FirstCause.{or_else}
use Rattle.scheme.specs.Cause.{outside, cause_of, class_cause}
use Rattle.scheme.proofs.Laws.FirstCause.{first_cause, second_cause, declined, answered, cond_true, cond_false}
use Rattle.scheme.proofs.Laws.Cause.{outside_false}
use Rattle.scheme.proofs.Laws.Judged.{accepted_cause}
use Rattle.scheme.specs.SumByTarget.{sum_by_target}
use Rattle.rows.specs.Laws.SumByTarget.{lower_is, upper_is}
use Rattle.scheme.specs.RowAnswer.{row_cause, row_refused, row_answered, interval_at, interval_answer}
use Rattle.rows.specs.Rows.{entries_of, class_rules, row_from}
use Rattle.rows.specs.Laws.Front.{front_lent, joined_rule, zeros}
use Rattle.scheme.proofs.Laws.Tab.{tab_eq}

-- Summed entries followed by what stood beyond them.
pub entries_joined : (rules ends : List ℕ) (classes : ℕ) (g : List ℕ) → classes ≤ 32
    → g ≡ tab (length (take classes (replicate {A = ℕ} 32 0))) (sum_by_target rules ends)
    → g ++ drop classes (replicate 32 0) ≡ entries_of rules ends classes
unfolding entries_of
entries_joined rules ends classes g h e =
    joined_rule classes (sum_by_target rules ends) (replicate 32 0) g h (λ j l. zeros j) (e ∙ ap (λ n. tab n (sum_by_target rules ends)) (front_lent classes h))

-- For an accepted scheme they are those of its interval row.
module _ (s : Scheme) (ok : Accepted s) (i : ℕ) (l : i < s.classes) where
  pub row_is : row_from s.rules s.lowers s.uppers s.columns s.classes i ≡ interval_at s i
  unfolding row_answered entries_of
  row_is =
      λ k.
      record {
        number = 0;
        lower = tab_eq 0 32 _ _ (λ j g. ap (only_if (ltb j s.classes)) (lower_is s ok i l j)) k;
        upper = tab_eq 0 32 _ _ (λ j g. ap (only_if (ltb j s.classes)) (upper_is s ok i l j)) k;
      }

-- The code's part of the rules runs from the class's first cell to its last.
pub row_made : (rules lowers uppers : List ℕ) (columns classes i : ℕ) {ownLowers ownUppers lower upper : List ℕ}
    → ownLowers ≡ class_bands columns lowers i → ownUppers ≡ class_bands columns uppers i
    → lower ≡ entries_of (class_rules (i * CELL_STRIDE + columns - i * CELL_STRIDE) rules i) ownLowers classes
    → upper ≡ entries_of (class_rules (i * CELL_STRIDE + columns - i * CELL_STRIDE) rules i) ownUppers classes
    → ◌≡◌ {A = RowAnswer} (record { number = 0; lower = lower; upper = upper }) (row_from rules lowers uppers columns classes i)
row_made rules lowers uppers columns classes i el eu e g =
    λ k. record { number = 0; lower = (e ∙ ap₂ part size el) k; upper = (g ∙ ap₂ part size eu) k }
  where
    part : ℕ → List ℕ → List ℕ
    part n ends = entries_of (class_rules n rules i) ends classes

    size : i * CELL_STRIDE + columns - i * CELL_STRIDE ≡ columns
    size = omega arith

-- The answer for a class's interval row in each of its cases.
module _ (s : Scheme) (class : ℕ) where
  pub row_declined : (n : ℕ) → n ≡ cause_of s → (n ≡ 0 → ⊥) → row_refused n ≡ interval_answer s class
  row_declined n e h =
      let whole : row_cause s class ≡ n = ap (λ x. or_else x (class_cause s class)) (sym e) ∙ first_cause n (class_cause s class) h in
      sym (declined (row_cause s class) (interval_at s (class - 1)) (row_refused (row_cause s class)) (λ z. h (sym whole ∙ z)) ∙ ap row_refused whole)

  module _ (n : ℕ) (e : n ≡ cause_of s) (none : n ≡ 0) where
    whole_is : row_cause s class ≡ class_cause s class
    whole_is = second_cause (cause_of s) (class_cause s class) (sym e ∙ none)

    pub row_no_class : outside s.classes class ≡ true → row_refused 11 ≡ interval_answer s class
    row_no_class h =
        let whole : row_cause s class ≡ 11 = whole_is ∙ cond_true (outside s.classes class) 11 0 h in
        sym (declined (row_cause s class) (interval_at s (class - 1)) (row_refused (row_cause s class)) (λ z. omega (arith, whole, z)) ∙ ap row_refused whole)

    pub row_answered_lem : outside s.classes class ≡ false
        → row_from s.rules s.lowers s.uppers s.columns s.classes (class - 1) ≡ interval_answer s class
    row_answered_lem h =
        let whole : row_cause s class ≡ 0 = whole_is ∙ cond_false (outside s.classes class) 11 0 h in
        let range : (1 ≤ class) × (class ≤ s.classes) = outside_false s.classes class h in
        row_is s (accepted_cause s (sym e ∙ none)) (class - 1) (omega arith)
        ∙ sym (answered (row_cause s class) (interval_at s (class - 1)) (row_refused (row_cause s class)) whole)
