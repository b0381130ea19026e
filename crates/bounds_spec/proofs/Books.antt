-- What pooling makes of books (document 02, item 7): counts beyond s are ignored, a book and its double pool alike, and one chamber in the start class gives the old figures.
use Rattle.std.specs.Prelude.{ℕ, ◌+◌, ◌-◌, ◌≤◌, ◌<◌, ◌≡◌, refl, Bool, List, eqb, length}
use Rattle.std.proofs.Math.Path.{ap, ap₂}
use Rattle.std.proofs.Common.{sym, ◌∙◌, subst, le_refl, mul-pos, eq-eqb, ne_eqb}
use Rattle.std.proofs.Math.Bool.{true, false}
use Rattle.std.proofs.Math.Decide.{ℕ_discrete}
use native.Mathlib.Omega.{arith}
use Rattle.setchain.specs.Sums.{at, only_if}
use Rattle.setchain.specs.Fractions.{◌≈◌, Proper}
use Rattle.setchain.specs.Rounding.{rounded}
use Rattle.setchain.specs.Picks.{Matrix, PicksFor}
use Rattle.setchain.specs.Years.{share_figure}
use Rattle.setchain.proofs.Kept.{kept_as}
use Rattle.setchain.proofs.Laws.Sums.{only_if_true, only_if_false, only_if_le, term_le}
use Rattle.setchain.proofs.Laws.Rounding.{rounded_one}
use Rattle.setchain.proofs.Laws.Pooled.{pooled_agree, one_pooled, one_exact, proportion_pooled}
use Rattle.scheme.specs.declared.Scheme.{Scheme}
use Rattle.scheme.specs.Accepted.{Accepted}
use Rattle.scheme.specs.FirstCause.{or_else}
use Rattle.scheme.specs.Cause.{slices_cause}
use Rattle.scheme.specs.Rows.{chain_of}
use Rattle.scheme.proofs.Laws.FirstCause.{first_cause, second_cause, by_cause}
use Rattle.scheme.proofs.Laws.Judged.{accepted_cause}
use Rattle.scheme.proofs.Laws.Tab.{tab_eq}
use Rattle.book_spec.specs.Book.{book_cause, joined_book, join_answer}
use Rattle.book_spec.proofs.Laws.{Pooled, pooled_book, pooled_no_cause, join_book, doubled, double_cause, book_agrees}
use Rattle.bounds_spec.specs.Answers.{Answered, Refused, answer_by, start_of, share_answer, mean_answer, total_answer, sheet_cause, sheet_slice, figure_shares}
use Rattle.bounds_spec.specs.Causes.{sheet_lengths_cause}
use Rattle.bounds_spec.specs.Pooled.{Figure, units_of, class_figure, pooled, figure_cause, pooled_cause, pooled_answer, pooled_lengths_cause, pooled_sheet_cause, pooled_shares, exact_figure, exact_of, PooledKept, OneChamber}
use Rattle.bounds_spec.specs.Promises.{MoneyKept, start_mean, start_total}
use Rattle.bounds_spec.proofs.Laws.Causes.{of_figure, of_money}
use Rattle.bounds_spec.proofs.Laws.Pooled.{of_pooled, counts_of, class_proper, figure_proper, sheet_money, sheet_counts}

-- Where the second cause never applies, the first alone counts.
no_more : (first : ℕ) {second : ℕ} → (first ≡ 0 → second ≡ 0) → or_else first second ≡ first
no_more first {second} none = by (ℕ_discrete first 0)
  where
    by : Dec (first ≡ 0) → or_else first second ≡ first
    by (yes z) = second_cause first second z ∙ none z ∙ sym z
    by (no h) = first_cause first second h

units_positive : (figure : Figure) → 1 ≤ units_of figure
units_positive (Figure.share class) = le_refl 1
units_positive Figure.mean = omega arith
units_positive Figure.total = omega arith

-- Every pooled answer with one book is that with the other, declined or not, and a share sheet leaves the same in its slices.
pub record PoolAlike (s : Scheme) (book book' : List ℕ) : Type 0 where
  pub answer : (figure : Figure) (year : ℕ) → pooled_answer s book figure year ≡ pooled_answer s book' figure year
  pub number : (year : ℕ) (low high : List ℕ) → pooled_sheet_cause s book year low high ≡ pooled_sheet_cause s book' year low high
  pub slice : (side : Bool) (year : ℕ) (low high before : List ℕ)
      → sheet_slice (pooled_sheet_cause s book year low high) (pooled_shares side s book year) before
      ≡ sheet_slice (pooled_sheet_cause s book' year low high) (pooled_shares side s book' year) before

-- So it is where the causes and the figures of an accepted scheme are the same.
module _ (s : Scheme) (book book' : List ℕ) (causes : Accepted s → book_cause s.classes book ≡ book_cause s.classes book')
    (figures : (high : Bool) (figure : Figure) (t : ℕ) → Accepted s → Pooled s.classes book → pooled high s book figure t ≡ pooled high s book' figure t) where
  cause_alike : (figure : Figure) (year : ℕ) → pooled_cause s book figure year ≡ pooled_cause s book' figure year
  cause_alike figure year = by_cause refl (λ z. causes (accepted_cause s (of_figure s figure year z))) refl

  sheet_alike : (year low high : ℕ) → pooled_lengths_cause s book year low high ≡ pooled_lengths_cause s book' year low high
  sheet_alike year low high =
      by_cause refl (λ z. ap (λ k. or_else k (slices_cause s.classes low high)) (causes (accepted_cause s (of_money s year z)))) refl

  alike : PoolAlike s book book'
  unfolding pooled_answer pooled_sheet_cause pooled_shares
  alike =
      record {
        answer = λ figure year.
            by_cause (cause_alike figure year)
            (λ z.
            let ok = accepted_cause s (of_pooled s book figure year z) in
            let counts = counts_of s book figure year z in
            ap₂ Answered (figures false figure year ok counts) (figures true figure year ok counts))
            (ap Refused (cause_alike figure year));
        number = λ year low high. sheet_alike year (length low) (length high);
        slice = λ side year low high before.
            by_cause (sheet_alike year (length low) (length high))
            (λ z.
            let ok = accepted_cause s (of_money s year (sheet_money s book year (length low) (length high) z)) in
            tab_eq 0 s.classes _ _ (λ j l. figures side (Figure.share (j + 1)) year ok (sheet_counts s book year (length low) (length high) z)))
            refl;
      }

-- "pooling ignores those beyond s".
pub beyond_ignored : {s : Scheme} {book book' : List ℕ} → ((i : ℕ) → i < s.classes → at book i ≡ at book' i) → PoolAlike s book book'
beyond_ignored {s} {book} {book'} same =
    alike s book book' (λ ok. book_agrees s.classes book book' same)
    (λ high figure t ok counts. pooled_agree high (units_of figure) s.classes (at book) (at book') (class_figure high s figure t) (class_figure high s figure t) same (λ j l. refl))

-- A book and its double, joined with itself, pool alike.
pub double_alike : (s : Scheme) (book : List ℕ) → (join_answer book book).number ≡ 0 → PoolAlike s book (join_answer book book).book
unfolding join_answer
double_alike s book z =
    subst (PoolAlike s book) (sym (join_book book book z))
    (alike s book (joined_book book book) (λ ok. sym (double_cause book z s.classes ok.size.classes))
    (λ high figure t ok counts.
    sym
    (proportion_pooled high (units_of figure) s.classes (at book) (at (joined_book book book)) (class_figure high s figure t) 2 (omega arith)
    (mul-pos (units_positive figure) counts.some) (doubled book z s.classes ok.size.classes))))

-- "… gives the old figures, shares and money": the same answers, declined or not, the same slices of a share sheet, and the same exact figure to promise about.
pub record OldFigures (s : Scheme) (book : List ℕ) : Type 0 where
  pub share : (class year : ℕ) → pooled_answer s book (Figure.share class) year ≡ share_answer s class year
  pub mean : (year : ℕ) → pooled_answer s book Figure.mean year ≡ mean_answer s year
  pub total : (year : ℕ) → pooled_answer s book Figure.total year ≡ total_answer s year
  pub number : (year : ℕ) (low high : List ℕ) → pooled_sheet_cause s book year low high ≡ sheet_cause s year low high
  pub slice : (side : Bool) (year : ℕ) (low high before : List ℕ)
      → sheet_slice (pooled_sheet_cause s book year low high) (pooled_shares side s book year) before ≡ sheet_slice (sheet_cause s year low high) (figure_shares side s year) before
  pub exact : Accepted s → (figure : Figure) (ps : List Matrix) → exact_of s book figure ps ≈ exact_figure s figure ps (start_of s)

module _ {s : Scheme} {book : List ℕ} (one : OneChamber s book) where
  start_inside : Accepted s → start_of s < s.classes
  start_inside ok = omega (arith, ok.start.positive, ok.start.within)

  alone : (i : ℕ) → i < s.classes → at book i ≡ only_if (eqb i (start_of s)) 1
  alone i l = by (ℕ_discrete i (start_of s))
    where
      by : Dec (i ≡ start_of s) → at book i ≡ only_if (eqb i (start_of s)) 1
      by (yes e) = ap (at book) e ∙ one.own ∙ sym (only_if_true (eqb i (start_of s)) 1 (eq-eqb i (start_of s) e))
      by (no d) = one.others i l d ∙ sym (only_if_false (eqb i (start_of s)) 1 (ne_eqb i (start_of s) d))

  one_counts : Accepted s → book_cause s.classes book ≡ 0
  one_counts ok =
      pooled_no_cause
      (record {
        counts = λ i l. omega (arith, alone i l, only_if_le (eqb i (start_of s)) 1);
        some = omega (arith, one.own, term_le s.classes (at book) (start_of s) (start_inside ok));
      })

  -- The figure is the start class's, rounded in its unit.
  one_figure : (high : Bool) → Accepted s → (figure : Figure) (t : ℕ) → pooled high s book figure t ≡ rounded high (units_of figure) (class_figure high s figure t (start_of s))
  one_figure high ok figure t = one_pooled s.classes (at book) (start_of s) (start_inside ok) alone high (units_of figure) (class_figure high s figure t)

  one_cause : (figure : Figure) (year : ℕ) → pooled_cause s book figure year ≡ figure_cause s figure year
  one_cause figure year = no_more (figure_cause s figure year) (λ z. one_counts (accepted_cause s (of_figure s figure year z)))

  one_sheet : (year low high : ℕ) → pooled_lengths_cause s book year low high ≡ sheet_lengths_cause s year low high
  one_sheet year low high =
      by_cause refl (λ z. second_cause (book_cause s.classes book) (slices_cause s.classes low high) (one_counts (accepted_cause s (of_money s year z)))) refl

  -- An answer by its cause and its figures.
  one_answer : (figure : Figure) (year low high : ℕ)
      → (Accepted s → rounded false (units_of figure) (class_figure false s figure year (start_of s)) ≡ low)
      → (Accepted s → rounded true (units_of figure) (class_figure true s figure year (start_of s)) ≡ high)
      → pooled_answer s book figure year ≡ answer_by (figure_cause s figure year) low high
  unfolding pooled_answer
  one_answer figure year low high lows highs =
      by_cause (one_cause figure year)
      (λ z.
      let ok = accepted_cause s (of_pooled s book figure year z) in
      ap₂ Answered (one_figure false ok figure year ∙ lows ok) (one_figure true ok figure year ∙ highs ok))
      (ap Refused (one_cause figure year))

  pub one_chamber : OldFigures s book
  unfolding share_answer mean_answer total_answer pooled_sheet_cause sheet_cause pooled_shares figure_shares
  one_chamber =
      record {
        share = λ class year. one_answer (Figure.share class) year _ _ (λ ok. rounded_one false _) (λ ok. rounded_one true _);
        mean = λ year. one_answer Figure.mean year _ _ (λ ok. refl) (λ ok. refl);
        total = λ year. one_answer Figure.total year _ _ (λ ok. refl) (λ ok. refl);
        number = λ year low high. one_sheet year (length low) (length high);
        slice = λ side year low high before.
            by_cause (one_sheet year (length low) (length high))
            (λ z.
            let ok = accepted_cause s (of_money s year (sheet_money s book year (length low) (length high) z)) in
            tab_eq 0 s.classes _ _
            (λ j l.
            let again : j + 1 - 1 ≡ j = omega arith in
            one_figure side ok (Figure.share (j + 1)) year ∙ rounded_one side _ ∙ ap (λ k. share_figure side (chain_of s) k year (start_of s)) again))
            refl;
        exact = λ ok figure ps. one_exact s.classes (at book) (exact_figure s figure ps) (start_of s) (start_inside ok) alone;
      }

  -- What money promises of the book is what it promises of the start class (document 02, item 6), and the other way round.
  module _ (ok : Accepted s) (t : ℕ) where
    same_exact : (figure : Figure) (ps : List Matrix) → PicksFor (chain_of s) t ps
        → Proper (exact_of s book figure ps) × Proper (exact_figure s figure ps (start_of s)) × (exact_of s book figure ps ≈ exact_figure s figure ps (start_of s))
    same_exact figure ps picks = (
      figure_proper s ok t ps picks book (pooled_book s.classes book (one_counts ok)) figure,
      class_proper s ok t ps picks figure (start_of s) (start_inside ok),
      one_chamber.exact ok figure ps,
    )

    exact_same : (figure : Figure) (ps : List Matrix) → PicksFor (chain_of s) t ps
        → Proper (exact_figure s figure ps (start_of s)) × Proper (exact_of s book figure ps) × (exact_figure s figure ps (start_of s) ≈ exact_of s book figure ps)
    exact_same figure ps picks = let w = same_exact figure ps picks in (w.1, w.0, sym w.2)

    pub mean_kept_as : (low high : ℕ)
        → (PooledKept s book Figure.mean t low high → MoneyKept s t (start_mean s) low high) × (MoneyKept s t (start_mean s) low high → PooledKept s book Figure.mean t low high)
    mean_kept_as low high = (kept_as (same_exact Figure.mean), kept_as (exact_same Figure.mean))

    pub total_kept_as : (low high : ℕ)
        → (PooledKept s book Figure.total t low high → MoneyKept s t (start_total s) low high) × (MoneyKept s t (start_total s) low high → PooledKept s book Figure.total t low high)
    total_kept_as low high = (kept_as (same_exact Figure.total), kept_as (exact_same Figure.total))
