-- For an accepted scheme the entries that the cells of a class make are those of its interval row.
use Rattle.std.specs.Prelude.{ℕ, suc, min, ◌+◌, ◌-◌, ◌*◌, ◌≤◌, ◌<◌, ◌≡◌, List, eqb, length, get_or, take, drop}
use Rattle.std.proofs.Common.{ap, sym, ◌∙◌, length-take, length-drop, get_or-drop, get_or-take, arith, le_trans, eq-eqb, ne_eqb}
use Rattle.std.proofs.Math.ListN.{get_or-eq_default}
use Rattle.std.proofs.Math.Decide.{dec_lt, ℕ_discrete}
use Rattle.std.proofs.Math.Nat.{min-le_right}
use Rattle.setchain.specs.Sums.{sum_to, only_if}
use Rattle.setchain.specs.Rows.{ONE}
use Rattle.setchain.specs.Cells.{sum_into}
use Rattle.setchain.proofs.Laws.Cells.{into_all}
use Rattle.setchain.proofs.Laws.Sums.{only_if_false, only_if_zero, sum_to_eq, sum_to_longer}
use Rattle.scheme.specs.declared.Scheme.{Scheme}
use Rattle.scheme.specs.Access.{CELL_STRIDE, cell_count, rule_at, lower_at, upper_at, class_bands}
use Rattle.scheme.specs.Accepted.{Accepted}
use Rattle.scheme.specs.Rows.{cells_of, chain_of}
use Rattle.rows.specs.Rows.{class_rules}
use Rattle.scheme.proofs.Laws.Access.{bands_few, lower_in, upper_in}
use Rattle.scheme.proofs.Laws.Sound.{accepted_cells}
use Rattle.scheme.specs.SumByTarget.{sum_by_target}

-- A rule is class j + 1 exactly where its target is state j.
same_test : (rule j : ℕ) → 1 ≤ rule → eqb rule (suc j) ≡ eqb (rule - 1) j
same_test rule j h = by (ℕ_discrete rule (suc j))
  where
    by : Dec (rule ≡ suc j) → eqb rule (suc j) ≡ eqb (rule - 1) j
    by (yes e) = eq-eqb rule (suc j) e ∙ sym (eq-eqb (rule - 1) j (omega arith))
    by (no d) = ne_eqb rule (suc j) d ∙ sym (ne_eqb (rule - 1) j (λ e. d (omega arith)))

-- A part of the rules and the ends of their bands, read where they stand.
summed_part : (rules ends : List ℕ) (columns from j : ℕ) → length ends ≤ columns
    → sum_by_target (take columns (drop from rules)) ends j
    ≡ min ONE (sum_to columns (λ k. only_if (eqb (get_or rules (from + k) 0) (suc j)) (get_or ends k 0)))
summed_part rules ends columns from j few =
    ap (min ONE) (same ∙ sym longer)
  where
    part : List ℕ
    part = take columns (drop from rules)

    count : ℕ
    count = min (length part) (length ends)

    term : ℕ → ℕ
    term k = only_if (eqb (get_or rules (from + k) 0) (suc j)) (get_or ends k 0)

    within : count ≤ columns
    within = le_trans (min-le_right (length part) (length ends)) few

    same : sum_to count (λ k. only_if (eqb (get_or part k 0) (suc j)) (get_or ends k 0)) ≡ sum_to count term
    same =
        sum_to_eq count (λ k. only_if (eqb (get_or part k 0) (suc j)) (get_or ends k 0)) term
        (λ k l. ap (λ x. only_if (eqb x (suc j)) (get_or ends k 0)) (get_or-take columns (drop from rules) k 0 (omega (arith, within)) ∙ get_or-drop from rules k 0))

    nothing_there : (k : ℕ) → count ≤ k → k < columns → term k ≡ 0
    nothing_there k l g = by (dec_lt k (length ends))
      where
        by : Dec (k < length ends) → term k ≡ 0
        by (yes m) =
            only_if_false (eqb (get_or rules (from + k) 0) (suc j)) (get_or ends k 0)
            (ne_eqb (get_or rules (from + k) 0) (suc j)
            (λ e. omega (arith, e, get_or-eq_default rules 0 {n = from + k} (omega (arith, length-take columns (drop from rules), length-drop from rules)))))
        by (no m) =
            ap (λ x. only_if (eqb (get_or rules (from + k) 0) (suc j)) x) (get_or-eq_default ends 0 {n = k} (omega arith))
            ∙ only_if_zero (eqb (get_or rules (from + k) 0) (suc j))

    longer : sum_to columns term ≡ sum_to count term
    longer = sum_to_longer count columns term within nothing_there

-- For an accepted scheme the entries are those of its interval row.
module _ (s : Scheme) (ok : Accepted s) (i : ℕ) (l : i < s.classes) where
  into : (band : ℕ → ℕ) (j : ℕ) → sum_to (cell_count s) (λ k. only_if (eqb (rule_at s i k) (suc j)) (band k)) ≡ sum_into (cells_of s i) band j
  into band j =
      sum_to_eq (cell_count s) (λ k. only_if (eqb (rule_at s i k) (suc j)) (band k)) (λ k. only_if (eqb (rule_at s i k - 1) j) (band k))
      (λ k g. ap (λ b. only_if b (band k)) (same_test (rule_at s i k) j (ok.rules.positive i k l g)))

  -- The bands of the class, by cell.
  by_cell : (ends : List ℕ) (band : ℕ → ℕ) → ((k : ℕ) → k < cell_count s → get_or (class_bands (cell_count s) ends i) k 0 ≡ band k) → (j : ℕ)
      → sum_by_target (class_rules (cell_count s) s.rules i) (class_bands (cell_count s) ends i) j ≡ min ONE (sum_into (cells_of s i) band j)
  by_cell ends band reads j =
      summed_part s.rules (class_bands (cell_count s) ends i) (cell_count s) (i * CELL_STRIDE) j (bands_few (cell_count s) ends i)
      ∙ ap (min ONE)
      (sum_to_eq (cell_count s) _ (λ k. only_if (eqb (rule_at s i k) (suc j)) (band k)) (λ k g. ap (only_if (eqb (rule_at s i k) (suc j))) (reads k g)) ∙ into band j)

  pub lower_is : (j : ℕ) → sum_by_target (class_rules (cell_count s) s.rules i) (class_bands (cell_count s) s.lowers i) j ≡ ((chain_of s).row i).lower j
  lower_is j =
      by_cell s.lowers (lower_at s i) (lower_in s i) j
      ∙ omega (arith, into_all s.classes (cells_of s i) (accepted_cells s ok i l) j, ok.sums.lowers i l)

  pub upper_is : (j : ℕ) → sum_by_target (class_rules (cell_count s) s.rules i) (class_bands (cell_count s) s.uppers i) j ≡ ((chain_of s).row i).upper j
  upper_is = by_cell s.uppers (upper_at s i) (upper_in s i)
