-- What the row operations answer: the number, and the entries of a row that is answered.
use Rattle.std.specs.Prelude.{ℕ, ◌-◌, ◌≤◌, ◌<◌, ◌≡◌, refl, ltb, length}
use Rattle.std.proofs.Common.{ap, sym, ◌∙◌, subst₂, arith, lt-ltb, le-ltb}
use Rattle.std.proofs.Math.ListN.{get_or-eq_default}
use Rattle.std.proofs.Math.Decide.{dec_lt, ℕ_discrete}
use Rattle.setchain.specs.Sums.{at, only_if}
use Rattle.setchain.specs.Rows.{IntervalRow, lists_row}
use Rattle.setchain.proofs.Laws.Sums.{only_if_true, only_if_false}
use Rattle.setchain.proofs.Laws.Agreeing.{Agree}
use Rattle.scheme.specs.declared.Scheme.{Scheme}
use Rattle.scheme.specs.RowAnswer.{RowAnswer}
use Rattle.scheme.specs.Tables.{tab}
use Rattle.scheme.specs.RowAnswer.{row_cause, row_refused, row_answered, row_by, interval_at, interval_answer}
use Rattle.scheme.proofs.Laws.FirstCause.{declined, answered}
use Rattle.scheme.proofs.Laws.Tab.{length_tab, get_d_tab, tab_eq}

-- The number of a row by its cause is the cause,
by_number : (n : ℕ) (row : RowAnswer) → row.number ≡ 0 → (row_by n row).number ≡ n
by_number n row is = by (ℕ_discrete n 0)
  where
    by : Dec (n ≡ 0) → (row_by n row).number ≡ n
    by (yes z) = ap (λ r. r.number) (answered n row (row_refused n) z) ∙ is ∙ sym z
    by (no h) = ap (λ r. r.number) (declined n row (row_refused n) h)

-- and so is that of a class's interval row.
pub interval_number : (s : Scheme) (class : ℕ) {interval : RowAnswer} → interval ≡ interval_answer s class → interval.number ≡ row_cause s class
unfolding row_answered
interval_number s class is = ap (λ r. r.number) is ∙ by_number (row_cause s class) (interval_at s (class - 1)) refl

-- An entry of the 32, within n and from n on.
module _ (n : ℕ) (f : ℕ → ℕ) (j : ℕ) where
  entry_within : n ≤ 32 → j < n → at (tab 32 (λ k. only_if (ltb k n) (f k))) j ≡ f j
  entry_within few l = get_d_tab 32 (λ k. only_if (ltb k n) (f k)) j 0 (omega arith) ∙ only_if_true (ltb j n) (f j) (lt-ltb j n l)

  entry_beyond : n ≤ j → at (tab 32 (λ k. only_if (ltb k n) (f k))) j ≡ 0
  entry_beyond l = by (dec_lt j 32)
    where
      by : Dec (j < 32) → at (tab 32 (λ k. only_if (ltb k n) (f k))) j ≡ 0
      by (yes g) = get_d_tab 32 (λ k. only_if (ltb k n) (f k)) j 0 g ∙ only_if_false (ltb j n) (f j) (le-ltb j n l)
      by (no g) = get_or-eq_default (tab 32 (λ k. only_if (ltb k n) (f k))) 0 {n = j} (omega (arith, length_tab 32 (λ k. only_if (ltb k n) (f k))))

-- A row that is answered over n classes.
module _ (n : ℕ) (r : IntervalRow) where
  pub answered_size : (length (row_answered n r).lower ≡ 32) × (length (row_answered n r).upper ≡ 32)
  unfolding row_answered
  answered_size = (length_tab 32 _, length_tab 32 _)

  pub answered_agrees : n ≤ 32 → Agree n (lists_row (row_answered n r).lower (row_answered n r).upper) r
  unfolding row_answered
  answered_agrees few = record { lower = λ j l. entry_within n r.lower j few l; upper = λ j l. entry_within n r.upper j few l }

  pub answered_beyond : (j : ℕ) → n ≤ j → (at (row_answered n r).lower j ≡ 0) × (at (row_answered n r).upper j ≡ 0)
  unfolding row_answered
  answered_beyond j l = (entry_beyond n r.lower j l, entry_beyond n r.upper j l)

-- Entries that are related below n, and are 0 from there on, are related everywhere.
pub entry_related : (R : ℕ → ℕ → Type 0) → R 0 0 → (n : ℕ) (f g : ℕ → ℕ) → ((j : ℕ) → j < n → R (f j) (g j)) → (j : ℕ) → R (only_if (ltb j n) (f j)) (only_if (ltb j n) (g j))
entry_related R none n f g h j = by (dec_lt j n)
  where
    by : Dec (j < n) → R (only_if (ltb j n) (f j)) (only_if (ltb j n) (g j))
    by (yes l) = subst₂ R (sym (only_if_true (ltb j n) (f j) (lt-ltb j n l))) (sym (only_if_true (ltb j n) (g j) (lt-ltb j n l))) (h j l)
    by (no l) = subst₂ R (sym (only_if_false (ltb j n) (f j) (le-ltb j n (omega arith)))) (sym (only_if_false (ltb j n) (g j) (le-ltb j n (omega arith)))) none

-- Rows with the same entries below n are answered alike.
pub answered_same : {n : ℕ} {r q : IntervalRow} → Agree n r q → row_answered n r ≡ row_answered n q
unfolding row_answered
answered_same {n} {r} {q} same = λ k. record { number = 0; lower = entries r.lower q.lower same.lower k; upper = entries r.upper q.upper same.upper k }
  where
    entries : (f g : ℕ → ℕ) → ((j : ℕ) → j < n → f j ≡ g j) → tab 32 (λ j. only_if (ltb j n) (f j)) ≡ tab 32 (λ j. only_if (ltb j n) (g j))
    entries f g h = tab_eq 0 32 (λ j. only_if (ltb j n) (f j)) (λ j. only_if (ltb j n) (g j)) (λ j l. entry_related ◌≡◌ refl n f g h j)
