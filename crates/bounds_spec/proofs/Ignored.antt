-- The calls for bounds look at no value beyond s and m (document 01, "Units and the scheme").
use Rattle.std.specs.Prelude.{ℕ, ◌-◌, ◌≡◌, Bool, List, length}
use Rattle.std.proofs.Math.Path.{refl}
use Rattle.std.proofs.Common.{ap, ap₂}
use Rattle.std.proofs.Math.Bool.{true, false}
use Rattle.setchain.specs.Years.{share_figure, mean_figure, total_figure}
use Rattle.setchain.specs.Reached.{reached_figure}
use Rattle.scheme.specs.declared.Scheme.{Scheme}
use Rattle.scheme.specs.Access.{premium_at}
use Rattle.scheme.specs.Rows.{chain_of}
use Rattle.scheme.specs.Stored.{cleared}
use Rattle.scheme.specs.Values.{SameValues}
use Rattle.scheme.proofs.Laws.FirstCause.{by_cause}
use Rattle.scheme.proofs.Laws.Values.{SameCause, Alike, same, alike_values, alike_same, cleared_alike}
use Rattle.bounds_spec.specs.Answers.{Answered, Refused, answer_by, start_of, share_answer, mean_answer, total_answer, sheet_cause, sheet_slice, figure_shares, low_shares, high_shares}
use Rattle.bounds_spec.specs.Causes.{share_cause, money_cause, sheet_lengths_cause, table_lengths_cause}
use Rattle.bounds_spec.specs.Table.{figure_table, low_table, high_table, table_cause}
use Rattle.bounds_spec.specs.Reached.{reached_answer}
use Rattle.bounds_spec.specs.Pooled.{Figure, pooled, pooled_cause, pooled_answer, pooled_sheet_cause, pooled_shares}
use Rattle.bounds_spec.proofs.Laws.Causes.{of_share, of_money, of_sheet, of_table, share_cause_lem, money_cause_lem, sheet_cause_lem, pooled_cause_lem, pooled_sheet_cause_lem, table_cause_lem}
use Rattle.bounds_spec.proofs.Laws.Pooled.{of_pooled, sheet_money}
use Rattle.bounds_spec.proofs.Laws.Alike as alike

-- Every answer for one scheme is that for the other, and the slices hold the same afterwards.
pub record SameAnswers (s s' : Scheme) : Type 0 where
  pub share_number : (class year : ℕ) → share_cause s class year ≡ share_cause s' class year
  pub money_number : (year : ℕ) → money_cause s year ≡ money_cause s' year
  pub sheet_lengths : (year low high : ℕ) → sheet_lengths_cause s year low high ≡ sheet_lengths_cause s' year low high
  pub table_lengths : (low high : ℕ) → table_lengths_cause s low high ≡ table_lengths_cause s' low high
  pub share : (class year : ℕ) → share_answer s class year ≡ share_answer s' class year
  pub mean : (year : ℕ) → mean_answer s year ≡ mean_answer s' year
  pub total : (year : ℕ) → total_answer s year ≡ total_answer s' year
  pub reached : (class year : ℕ) → reached_answer s class year ≡ reached_answer s' class year
  pub sheet : (year : ℕ) (low high : List ℕ) → sheet_cause s year low high ≡ sheet_cause s' year low high
  pub low_sheet : (year : ℕ) (low high : List ℕ) → sheet_slice (sheet_cause s year low high) (low_shares s year) low ≡ sheet_slice (sheet_cause s' year low high) (low_shares s' year) low
  pub high_sheet : (year : ℕ) (low high : List ℕ) → sheet_slice (sheet_cause s year low high) (high_shares s year) high ≡ sheet_slice (sheet_cause s' year low high) (high_shares s' year) high
  pub pooled_number : (book : List ℕ) (figure : Figure) (year : ℕ) → pooled_cause s book figure year ≡ pooled_cause s' book figure year
  pub pooled_figures : (book : List ℕ) (figure : Figure) (year : ℕ) → pooled_answer s book figure year ≡ pooled_answer s' book figure year
  pub pooled_sheet : (book : List ℕ) (year : ℕ) (low high : List ℕ) → pooled_sheet_cause s book year low high ≡ pooled_sheet_cause s' book year low high
  pub pooled_slice : (side : Bool) (book : List ℕ) (year : ℕ) (low high before : List ℕ)
      → sheet_slice (pooled_sheet_cause s book year low high) (pooled_shares side s book year) before
      ≡ sheet_slice (pooled_sheet_cause s' book year low high) (pooled_shares side s' book year) before
  pub table : (low high : List ℕ) → table_cause s low high ≡ table_cause s' low high
  pub lows : (low high : List ℕ) → sheet_slice (table_cause s low high) (low_table s) low ≡ sheet_slice (table_cause s' low high) (low_table s') low
  pub highs : (low high : List ℕ) → sheet_slice (table_cause s low high) (high_table s) high ≡ sheet_slice (table_cause s' low high) (high_table s') high

-- Low and high by their cause.
answer_same : {n n' low low' high high' : ℕ} → n ≡ n' → (n ≡ 0 → low ≡ low') → (n ≡ 0 → high ≡ high') → answer_by n low high ≡ answer_by n' low' high'
answer_same e low high = by_cause e (λ z. ap₂ Answered (low z) (high z)) (ap Refused e)

module _ {s s' : Scheme} (w : Alike s s') where
  cause : SameCause s s'
  cause = alike_same w

  -- One figure of each answer, low or high.
  share_figure_lem : (high : Bool) (class year : ℕ) → share_cause s class year ≡ 0
      → share_figure high (chain_of s) (class - 1) year (start_of s) ≡ share_figure high (chain_of s') (class - 1) year (start_of s')
  share_figure_lem high class year z = let none = of_share s class year z in alike.share_same (alike_values w none) none high year (class - 1)

  mean_figure_lem : (high : Bool) (year : ℕ) → money_cause s year ≡ 0
      → mean_figure high (chain_of s) (premium_at s) year (start_of s) ≡ mean_figure high (chain_of s') (premium_at s') year (start_of s')
  mean_figure_lem high year z = let none = of_money s year z in alike.mean_same (alike_values w none) none high year

  total_figure_lem : (high : Bool) (year : ℕ) → money_cause s year ≡ 0
      → total_figure high (chain_of s) (premium_at s) year (start_of s) ≡ total_figure high (chain_of s') (premium_at s') year (start_of s')
  total_figure_lem high year z = let none = of_money s year z in alike.total_same (alike_values w none) none high year

  reached_figure_lem : (high : Bool) (class year : ℕ) → share_cause s class year ≡ 0
      → reached_figure high (chain_of s) (class - 1) year (start_of s) ≡ reached_figure high (chain_of s') (class - 1) year (start_of s')
  reached_figure_lem high class year z = let none = of_share s class year z in alike.reached_same (alike_values w none) none high year (class - 1)

  -- One slice of a share sheet, pooled or not, and of all figures.
  sheet_slice_lem : (side : Bool) (year : ℕ) (low high before : List ℕ)
      → sheet_slice (sheet_cause s year low high) (figure_shares side s year) before ≡ sheet_slice (sheet_cause s' year low high) (figure_shares side s' year) before
  unfolding sheet_cause
  sheet_slice_lem side year low high before =
      by_cause (sheet_cause_lem cause year (length low) (length high))
      (λ z. let none = of_sheet s year (length low) (length high) z in alike.shares_same (alike_values w none) none side year) refl

  pooled_slice_lem : (side : Bool) (book : List ℕ) (year : ℕ) (low high before : List ℕ)
      → sheet_slice (pooled_sheet_cause s book year low high) (pooled_shares side s book year) before
      ≡ sheet_slice (pooled_sheet_cause s' book year low high) (pooled_shares side s' book year) before
  unfolding pooled_sheet_cause
  pooled_slice_lem side book year low high before =
      by_cause (pooled_sheet_cause_lem cause book year (length low) (length high))
      (λ z. let none = of_money s year (sheet_money s book year (length low) (length high) z) in alike.pooled_shares_same (alike_values w none) none side book year) refl

  pooled_answer_lem : (book : List ℕ) (figure : Figure) (year : ℕ) → pooled_answer s book figure year ≡ pooled_answer s' book figure year
  unfolding pooled_answer
  pooled_answer_lem book figure year = answer_same (pooled_cause_lem cause book figure year) (figure_same false) (figure_same true)
    where
      figure_same : (high : Bool) → pooled_cause s book figure year ≡ 0 → pooled high s book figure year ≡ pooled high s' book figure year
      figure_same high z = let none = of_pooled s book figure year z in alike.pooled_same (alike_values w none) none high book figure year

  table_slice : (side : Bool) (low high before : List ℕ)
      → sheet_slice (table_cause s low high) (figure_table side s) before ≡ sheet_slice (table_cause s' low high) (figure_table side s') before
  unfolding table_cause
  table_slice side low high before =
      by_cause (table_cause_lem cause (length low) (length high))
      (λ z. let none = of_table s (length low) (length high) z in alike.table_same (alike_values w none) none side) refl

  alike_answers : SameAnswers s s'
  unfolding share_answer mean_answer total_answer reached_answer sheet_cause pooled_sheet_cause table_cause
  alike_answers =
      record {
        share_number = share_cause_lem cause;
        money_number = money_cause_lem cause;
        sheet_lengths = sheet_cause_lem cause;
        table_lengths = table_cause_lem cause;
        share = λ class year. answer_same (share_cause_lem cause class year) (share_figure_lem false class year) (share_figure_lem true class year);
        mean = λ year. answer_same (money_cause_lem cause year) (mean_figure_lem false year) (mean_figure_lem true year);
        total = λ year. answer_same (money_cause_lem cause year) (total_figure_lem false year) (total_figure_lem true year);
        reached = λ class year. answer_same (share_cause_lem cause class year) (reached_figure_lem false class year) (reached_figure_lem true class year);
        sheet = λ year low high. sheet_cause_lem cause year (length low) (length high);
        low_sheet = λ year low high. sheet_slice_lem false year low high low;
        high_sheet = λ year low high. sheet_slice_lem true year low high high;
        pooled_number = pooled_cause_lem cause;
        pooled_figures = pooled_answer_lem;
        pooled_sheet = λ book year low high. pooled_sheet_cause_lem cause book year (length low) (length high);
        pooled_slice = pooled_slice_lem;
        table = λ low high. table_cause_lem cause (length low) (length high);
        lows = λ low high. table_slice false low high low;
        highs = λ low high. table_slice true low high high;
      }

-- Schemes with the same values have the same answers, declined or not.
pub same_answers : {s s' : Scheme} → SameValues s s' → SameAnswers s s'
same_answers v = alike_answers (same v)

-- "Values stored beyond s or m are ignored": every scheme, accepted or not, has the same answers as with 0 for them.
pub answers_ignored : (s : Scheme) → SameAnswers s (cleared s)
answers_ignored s = alike_answers (cleared_alike s)
