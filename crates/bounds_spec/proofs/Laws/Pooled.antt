-- The pooled answers keep their promises: setchain's theorems at an accepted scheme's chain and a book that is pooled.
use Rattle.std.specs.Prelude.{ℕ, ◌+◌, ◌-◌, ◌<◌, ◌≡◌, Bool, true, false, List, get_or, length}
use Rattle.std.proofs.Common.{ap, sym, ◌∙◌, subst₂}
use Rattle.setchain.specs.Sums.{at}
use Rattle.setchain.specs.Fractions.{Proper}
use Rattle.setchain.specs.Picks.{Matrix, PicksFor}
use Rattle.setchain.proofs.Laws.Pooled.{proper_pooled}
use Rattle.setchain.proofs.Theorems.{exact_proper}
use Rattle.setchain.proofs.PooledTheorems.{share_pooled, mean_pooled, total_pooled}
use Rattle.scheme.specs.declared.Scheme.{Scheme}
use Rattle.scheme.specs.Access.{premium_at}
use Rattle.scheme.specs.FirstCause.{or_else}
use Rattle.scheme.specs.Cause.{cause_of, slices_cause}
use Rattle.scheme.specs.Accepted.{Accepted}
use Rattle.scheme.specs.Rows.{chain_of}
use Rattle.scheme.proofs.Laws.FirstCause.{answered, first_none, second_none}
use Rattle.scheme.proofs.Laws.Judged.{accepted_cause}
use Rattle.scheme.proofs.Laws.Sound.{accepted_sound}
use Rattle.scheme.proofs.Laws.Tab.{get_d_tab}
use Rattle.book_spec.specs.Book.{book_cause}
use Rattle.book_spec.proofs.Laws.{Pooled, pooled_book}
use Rattle.bounds_spec.specs.Causes.{money_cause}
use Rattle.bounds_spec.specs.Answers.{sheet_slice}
use Rattle.bounds_spec.specs.Pooled.{Figure, pooled, figure_cause, pooled_cause, pooled_answer, pooled_lengths_cause, pooled_sheet_cause, pooled_shares}
use Rattle.bounds_spec.specs.Pooled.{exact_figure, exact_of, PooledKept, PooledPromise, PooledSheetPromise}
use Rattle.bounds_spec.proofs.Laws.Causes.{of_figure, of_money}
use Rattle.bounds_spec.proofs.Laws.Kept.{kept_answer}

-- What a pooled answer without a cause tells.
module _ (s : Scheme) (book : List ℕ) (figure : Figure) (year : ℕ) (z : pooled_cause s book figure year ≡ 0) where
  pub of_pooled : cause_of s ≡ 0
  of_pooled = of_figure s figure year (first_none (figure_cause s figure year) (book_cause s.classes book) z)

  pub counts_of : Pooled s.classes book
  counts_of = pooled_book s.classes book (second_none (figure_cause s figure year) (book_cause s.classes book) z)

-- Each figure by its theorem.
pub figure_kept : (s : Scheme) → Accepted s → (book : List ℕ) → Pooled s.classes book → (figure : Figure) (t : ℕ)
    → PooledKept s book figure t (pooled false s book figure t) (pooled true s book figure t)
figure_kept s ok book counts (Figure.share class) t = share_pooled (chain_of s) (accepted_sound s ok) (at book) counts.some t _
figure_kept s ok book counts Figure.mean t = mean_pooled (chain_of s) (accepted_sound s ok) (at book) counts.some t (premium_at s)
figure_kept s ok book counts Figure.total t = total_pooled (chain_of s) (accepted_sound s ok) (at book) counts.some t (premium_at s)

-- The promises are not empty: no exact figure, pooled or of a class, has the denominator 0 (and picks exist, by `picks_exist`).
module _ (s : Scheme) (ok : Accepted s) (t : ℕ) (ps : List Matrix) (picks : PicksFor (chain_of s) t ps) where
  pub class_proper : (figure : Figure) (i : ℕ) → i < s.classes → Proper (exact_figure s figure ps i)
  class_proper (Figure.share class) i l = (exact_proper (chain_of s) (accepted_sound s ok) (premium_at s) (class - 1) t ps picks i l).0
  class_proper Figure.mean i l = (exact_proper (chain_of s) (accepted_sound s ok) (premium_at s) 0 t ps picks i l).1
  class_proper Figure.total i l = (exact_proper (chain_of s) (accepted_sound s ok) (premium_at s) 0 t ps picks i l).2

  pub figure_proper : (book : List ℕ) → Pooled s.classes book → (figure : Figure) → Proper (exact_of s book figure ps)
  figure_proper book counts figure = proper_pooled s.classes (at book) counts.some (exact_figure s figure ps) (class_proper figure)

pub pooled_kept : (s : Scheme) (book : List ℕ) (figure : Figure) (year : ℕ) → PooledPromise s book figure year (pooled_answer s book figure year)
unfolding pooled_answer
pooled_kept s book figure year =
    kept_answer (PooledKept s book figure year) (pooled_cause s book figure year) _ _
    (λ z. figure_kept s (accepted_cause s (of_pooled s book figure year z)) book (counts_of s book figure year z) figure year)

-- What a pooled share sheet without a cause tells.
module _ (s : Scheme) (book : List ℕ) (year low high : ℕ) (z : pooled_lengths_cause s book year low high ≡ 0) where
  after : or_else (book_cause s.classes book) (slices_cause s.classes low high) ≡ 0
  after = second_none (money_cause s year) (or_else (book_cause s.classes book) (slices_cause s.classes low high)) z

  pub sheet_money : money_cause s year ≡ 0
  sheet_money = first_none (money_cause s year) (or_else (book_cause s.classes book) (slices_cause s.classes low high)) z

  pub sheet_counts : Pooled s.classes book
  sheet_counts = pooled_book s.classes book (first_none (book_cause s.classes book) (slices_cause s.classes low high) after)

  pub sheet_slices_lem : slices_cause s.classes low high ≡ 0
  sheet_slices_lem = second_none (book_cause s.classes book) (slices_cause s.classes low high) after

-- Of the slices as a pooled share sheet leaves them.
pub pooled_sheet_kept : (s : Scheme) (book : List ℕ) (year : ℕ) (low high : List ℕ)
    → PooledSheetPromise s book year (pooled_sheet_cause s book year low high)
    (sheet_slice (pooled_sheet_cause s book year low high) (pooled_shares false s book year) low)
    (sheet_slice (pooled_sheet_cause s book year low high) (pooled_shares true s book year) high)
unfolding pooled_sheet_cause pooled_shares
pooled_sheet_kept s book year low high z j l =
    subst₂ (PooledKept s book (Figure.share (j + 1)) year) (sym (written false low)) (sym (written true high))
    (figure_kept s ok book (sheet_counts s book year (length low) (length high) z) (Figure.share (j + 1)) year)
  where
    number : ℕ
    number = pooled_sheet_cause s book year low high

    ok : Accepted s
    ok = accepted_cause s (of_money s year (sheet_money s book year (length low) (length high) z))

    written : (side : Bool) (before : List ℕ) → get_or (sheet_slice number (pooled_shares side s book year) before) j 0 ≡ pooled side s book (Figure.share (j + 1)) year
    written side before =
        ap (λ x. get_or x j 0) (answered number (pooled_shares side s book year) before z) ∙ get_d_tab s.classes (λ k. pooled side s book (Figure.share (k + 1)) year) j 0 l
