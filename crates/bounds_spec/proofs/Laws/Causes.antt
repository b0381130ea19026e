-- The causes of queries: a query without a cause is of an accepted scheme, and schemes with the same cause that differ in their bands alone have the same.
use Rattle.std.specs.Prelude.{ℕ, suc, ◌+◌, ◌*◌, ◌≡◌, List}
use Rattle.std.proofs.Common.{ap, ap₂}
use Rattle.scheme.specs.declared.Scheme.{Scheme}
use Rattle.scheme.specs.FirstCause.{or_else}
use Rattle.scheme.specs.Cause.{cause_of, class_cause, year_cause, slices_cause}
use Rattle.scheme.proofs.Laws.FirstCause.{first_none, by_cause}
use Rattle.scheme.proofs.Laws.Values.{SameCause, next_same, class_same, year_same}
use Rattle.book_spec.specs.Book.{book_cause}
use Rattle.bounds_spec.specs.Pooled.{Figure, figure_cause, pooled_cause, pooled_lengths_cause}
use Rattle.bounds_spec.specs.Causes.{share_cause, money_cause, sheet_lengths_cause, table_size, table_lengths_cause}

module _ (s : Scheme) where
  pub of_share : (class year : ℕ) → share_cause s class year ≡ 0 → cause_of s ≡ 0
  of_share class year z = first_none (cause_of s) (or_else (class_cause s class) (year_cause s year)) z

  pub of_money : (year : ℕ) → money_cause s year ≡ 0 → cause_of s ≡ 0
  of_money year z = first_none (cause_of s) (year_cause s year) z

  -- Of a figure, pooled or not.
  pub of_figure : (figure : Figure) (year : ℕ) → figure_cause s figure year ≡ 0 → cause_of s ≡ 0
  of_figure (Figure.share class) year z = of_share class year z
  of_figure Figure.mean year z = of_money year z
  of_figure Figure.total year z = of_money year z

  pub of_sheet : (year low high : ℕ) → sheet_lengths_cause s year low high ≡ 0 → cause_of s ≡ 0
  of_sheet year low high z = of_money year (first_none (money_cause s year) (slices_cause s.classes low high) z)

  pub of_table : (low high : ℕ) → table_lengths_cause s low high ≡ 0 → cause_of s ≡ 0
  of_table low high z = first_none (cause_of s) (slices_cause (table_size s) low high) z

module _ {s s' : Scheme} (w : SameCause s s') where
  pub share_cause_lem : (class year : ℕ) → share_cause s class year ≡ share_cause s' class year
  share_cause_lem class year = next_same w (λ v. ap₂ or_else (class_same v class) (year_same v year))

  pub money_cause_lem : (year : ℕ) → money_cause s year ≡ money_cause s' year
  money_cause_lem year = next_same w (λ v. year_same v year)

  pub sheet_cause_lem : (year low high : ℕ) → sheet_lengths_cause s year low high ≡ sheet_lengths_cause s' year low high
  sheet_cause_lem year low high =
      by_cause (money_cause_lem year) (λ z. ap (λ n. slices_cause n low high) (w.others (of_money s year z)).classes) (money_cause_lem year)

  pub figure_cause_lem : (figure : Figure) (year : ℕ) → figure_cause s figure year ≡ figure_cause s' figure year
  figure_cause_lem (Figure.share class) year = share_cause_lem class year
  figure_cause_lem Figure.mean year = money_cause_lem year
  figure_cause_lem Figure.total year = money_cause_lem year

  pub pooled_cause_lem : (book : List ℕ) (figure : Figure) (year : ℕ) → pooled_cause s book figure year ≡ pooled_cause s' book figure year
  pooled_cause_lem book figure year =
      by_cause (figure_cause_lem figure year) (λ z. ap (λ n. book_cause n book) (w.others (of_figure s figure year z)).classes) (figure_cause_lem figure year)

  pub pooled_sheet_cause_lem : (book : List ℕ) (year low high : ℕ) → pooled_lengths_cause s book year low high ≡ pooled_lengths_cause s' book year low high
  pooled_sheet_cause_lem book year low high =
      by_cause (money_cause_lem year) (λ z. ap (λ n. or_else (book_cause n book) (slices_cause n low high)) (w.others (of_money s year z)).classes) (money_cause_lem year)

  pub table_cause_lem : (low high : ℕ) → table_lengths_cause s low high ≡ table_lengths_cause s' low high
  table_cause_lem low high = next_same w (λ v. ap₂ (λ n h. slices_cause (suc h * suc n + 1) low high) v.classes v.horizon)
