-- Pooled figures of t years, and the calls that answer them: what a cause of 0 tells, and their answers, with what these promise.
-- Assumes nothing.
use Prim.Native.Nat.{ℕ, ◌+◌, ◌*◌, ◌≤◌, ◌<◌}
use mathlib.Core.Path.{◌≡◌, refl, ap, sym, ◌∙◌}
use mathlib.Core.Bool.{Bool, true, false}
use mathlib.Core.List.{List}
use mir.Syntax.{w64}
use mir.Val.{Fits}
use native.Mathlib.Omega.{arith}
use lib.ListN.{length, set}
use Rattle.std.specs.Prelude.{Result, IsErr, IsErrAnd}
use Rattle.setchain.specs.Sums.{at}
use Rattle.setchain.specs.Years.{CENT}
use Rattle.setchain.specs.Pooled.{pooled_figure}
use Rattle.setchain.proofs.Laws.Pooled.{pooled_agree}
use Rattle.scheme.specs.declared.Scheme.{Scheme}
use Rattle.scheme.specs.Accepted.{Accepted}
use Rattle.scheme.specs.declared.Cause.{Cause}
use Rattle.scheme.specs.FirstCause.{or_else}
use Rattle.scheme.specs.Number.{cause_number}
use Rattle.scheme.proofs.Laws.FirstCause.{first_none, second_none, first_cause}
use Rattle.scheme.proofs.Laws.Number.{cause_some}
use Rattle.scheme.proofs.Laws.Tab.{as_tab}
use Rattle.order.proofs.Laws.Written.{Written, written_more}
use Rattle.book_spec.specs.Book.{book_cause}
use Rattle.book_spec.proofs.Laws.{Pooled, pooled_book}
use Rattle.bounds_spec.specs.declared.Bounds.{Bounds}
use Rattle.bounds_spec.specs.Answers.{BoundsAnswer, bounds_answer_of, answer_by}
use Rattle.bounds_spec.specs.Causes.{share_cause, money_cause}
use Rattle.bounds_spec.specs.Pooled.{Figure, pooled, figure_cause, pooled_cause, pooled_answer, pooled_lengths_cause, pooled_sheet_cause, pooled_shares, PooledPromise, PooledSheetPromise}
use Rattle.bounds_spec.proofs.Laws.Pooled.{pooled_kept, pooled_sheet_kept, sheet_money, sheet_counts, sheet_slices_lem}
use Rattle.bounds.specs.Series.{SharePayoffPost, SeriesPre, ClassFiguresPost}
use Rattle.bounds.specs.Money.{TenthsPost}
use Rattle.bounds.specs.Pooled.{PoolPre, PooledPre, pooled_years, WritePooledPre}
use Rattle.bounds.proofs.FrontLaws.{zeros}
use Rattle.bounds.proofs.SeriesLaws.{class_figures_small}
use Rattle.bounds.proofs.PayoffsLaws.{pooled_share_is, pooled_state_is, pooled_mean_is, pooled_total_is}
use Rattle.bounds.proofs.StartBoundsLaws.{answer_same, refused, with_promise, share_accepted, class_inside, share_ready, money_accepted, mean_ready, total_ready}
use Rattle.bounds.proofs.SheetLaws.{share_ready as state-ready}
use Rattle.bounds.proofs.SlicesLaws.{slices_ready, SlicesLeft, slices_declined, slices_written}

-- The figures of one run, pooled.
module _ (s : Scheme) {book gain payoff : List ℕ} {units t : ℕ} (w : PooledPre s book units gain payoff t)
    {high : Bool} {before after figures : List ℕ} (r : ClassFiguresPost high s gain payoff t 1 before after figures) where
  pub pool_ready : PoolPre s.classes units book figures
  pool_ready =
      record { few = w.years.accepted.size.classes; counts = w.counts.counts; small = class_figures_small s w.years r; within = w.within }

  pub pooled_years_lem : pooled_figure high units s.classes (at book) (at figures) ≡ pooled_years high s book units gain payoff t
  pooled_years_lem = pooled_agree high units s.classes (at book) (at book) (at figures) _ (λ j l. refl) r.each

-- A pooled call: the cause of its figure, then the book's.
module _ (s : Scheme) (book : List ℕ) (figure : Figure) (year : ℕ) {own n : ℕ} (e : own ≡ figure_cause s figure year) (c : n ≡ or_else own (book_cause s.classes book)) where
  is : n ≡ pooled_cause s book figure year
  is = c ∙ ap (λ k. or_else k (book_cause s.classes book)) e

  own_none : n ≡ 0 → own ≡ 0
  own_none z = first_none own (book_cause s.classes book) (sym c ∙ z)

  -- What it takes, where its years do.
  pooled_ready : {units : ℕ} {gain payoff : List ℕ} → units ≤ CENT → (own ≡ 0 → SeriesPre s gain payoff year 1) → n ≡ 0 → PooledPre s book units gain payoff year
  pooled_ready few ready z =
      record { years = ready (own_none z); counts = pooled_book s.classes book (second_none own (book_cause s.classes book) (sym c ∙ z)); within = few }

  -- What it answers, where its figures are the definition's.
  pooled_answer_lem : {low high : ℕ} {r : BoundsAnswer} → (own ≡ 0 → low ≡ pooled false s book figure year) → (own ≡ 0 → high ≡ pooled true s book figure year)
      → r ≡ answer_by n low high → (r ≡ pooled_answer s book figure year) × PooledPromise s book figure year r
  unfolding pooled_answer
  pooled_answer_lem lows highs b =
      with_promise (PooledPromise s book figure year) (pooled_kept s book figure year)
      (b ∙ answer_same is (λ z. lows (own_none z)) (λ z. highs (own_none z)))

-- A pooled call to which `?` passed the cause of its figure on answers by that cause.
pub pooled_refused : (s : Scheme) (book : List ℕ) (figure : Figure) (year : ℕ) (r : Result Bounds Cause) (cause : Cause)
    → IsErr r × IsErrAnd r (λ e. e ≡ cause) → cause_number cause ≡ figure_cause s figure year → bounds_answer_of r ≡ pooled_answer s book figure year
unfolding pooled_answer
pooled_refused s book figure year r cause passed same =
    refused r cause _ _ passed (same ∙ sym (first_cause (figure_cause s figure year) (book_cause s.classes book) (λ z. cause_some cause (same ∙ z))))

-- The pooled share of a class.
module _ (s : Scheme) (book : List ℕ) (class year : ℕ) {own n : ℕ} (e : own ≡ share_cause s class year) (c : n ≡ or_else own (book_cause s.classes book))
    {payoff : List ℕ} (held : SharePayoffPost class payoff) where
  pub pooled_share_ready : Fits w64 (year * 1) → n ≡ 0 → PooledPre s book 1 zeros payoff year
  pooled_share_ready counted = pooled_ready s book (Figure.share class) year e c (omega arith) (share_ready s class year e held counted)

  pub pooled_share_answer : {r : BoundsAnswer} → r ≡ answer_by n (pooled_years false s book 1 zeros payoff year) (pooled_years true s book 1 zeros payoff year)
      → (r ≡ pooled_answer s book (Figure.share class) year) × PooledPromise s book (Figure.share class) year r
  pooled_share_answer = pooled_answer_lem s book (Figure.share class) year e c (figure false) (figure true)
    where
      figure : (high : Bool) → own ≡ 0 → pooled_years high s book 1 zeros payoff year ≡ pooled high s book (Figure.share class) year
      figure high z = let inside = class_inside s class year e z in pooled_share_is s (share_accepted s class year e z) held inside.0 inside.1 year high book

-- The pooled mean premium, and the pooled total of premiums.
module _ (s : Scheme) (book : List ℕ) (year : ℕ) {own n : ℕ} (e : own ≡ money_cause s year) (c : n ≡ or_else own (book_cause s.classes book))
    {premiums : List ℕ} (are : TenthsPost s.premiums premiums) where
  pub pooled_mean_ready : Fits w64 (year * 1) → n ≡ 0 → PooledPre s book CENT zeros premiums year
  pooled_mean_ready counted = pooled_ready s book Figure.mean year e c (omega arith) (mean_ready s year e are counted)

  pub pooled_mean_answer : {r : BoundsAnswer} → r ≡ answer_by n (pooled_years false s book CENT zeros premiums year) (pooled_years true s book CENT zeros premiums year)
      → (r ≡ pooled_answer s book Figure.mean year) × PooledPromise s book Figure.mean year r
  pooled_mean_answer =
      pooled_answer_lem s book Figure.mean year e c
      (λ z. pooled_mean_is s (money_accepted s year e z) are year false book) (λ z. pooled_mean_is s (money_accepted s year e z) are year true book)

  pub pooled_total_ready : Fits w64 (year * 1) → n ≡ 0 → PooledPre s book CENT premiums zeros year
  pooled_total_ready counted = pooled_ready s book Figure.total year e c (omega arith) (total_ready s year e are counted)

  pub pooled_total_answer : {r : BoundsAnswer} → r ≡ answer_by n (pooled_years false s book CENT premiums zeros year) (pooled_years true s book CENT premiums zeros year)
      → (r ≡ pooled_answer s book Figure.total year) × PooledPromise s book Figure.total year r
  pooled_total_answer =
      pooled_answer_lem s book Figure.total year e c
      (λ z. pooled_total_is s (money_accepted s year e z) are year false book) (λ z. pooled_total_is s (money_accepted s year e z) are year true book)

-- The pooled shares of a share sheet, written class by class.
module _ (s : Scheme) {book : List ℕ} (counts : Pooled s.classes book) (year : ℕ) where
  pub pooled_state_ready : Accepted s → Fits w64 (year * 1) → {j : ℕ} → j < s.classes → {payoff : List ℕ} → SharePayoffPost (j + 1) payoff → PooledPre s book 1 zeros payoff year
  pooled_state_ready ok counted l held = record { years = state-ready s year ok counted l held; counts = counts; within = omega arith }

module _ (s : Scheme) (book : List ℕ) (high : Bool) (year : ℕ) where
  -- The pooled share of the class of state j.
  abbrev pub pooled_of : ℕ → ℕ
  pooled_of j = pooled high s book (Figure.share (j + 1)) year

  pub pooled_more : {out : List ℕ} {j : ℕ} → Accepted s → j < s.classes → {payoff : List ℕ} → SharePayoffPost (j + 1) payoff
      → {a : ℕ} → a ≡ pooled_years high s book 1 zeros payoff year → Written s.classes pooled_of out j → Written s.classes pooled_of (set out j a) (j + 1)
  pooled_more {out} {j} ok l held e w = written_more s.classes pooled_of out j _ l (e ∙ pooled_state_is s ok held l year high book) w

  pub pooled_all : {out : List ℕ} {j : ℕ} → s.classes ≤ j → Written s.classes pooled_of out j → out ≡ pooled_shares high s book year
  unfolding pooled_shares
  pooled_all {out} h w = as_tab 0 out s.classes pooled_of w.size (λ i l. w.done i (omega arith))

-- The call for a pooled share sheet.
module _ (s : Scheme) (book : List ℕ) (year : ℕ) (low high : List ℕ) {n : ℕ} (e : n ≡ pooled_lengths_cause s book year (length low) (length high)) where
  -- The code's cause is the definition's.
  sheet_is : n ≡ pooled_sheet_cause s book year low high
  unfolding pooled_sheet_cause
  sheet_is = e

  abbrev Left : ℕ → List ℕ → List ℕ → Type 0
  Left =
      SlicesLeft (PooledSheetPromise s book year) (pooled_sheet_cause s book year low high) (pooled_shares false s book year) (pooled_shares true s book year) low high
      (pooled_sheet_kept s book year low high)

  pub pooled_sheet_ready : n ≡ 0 → WritePooledPre s book low × WritePooledPre s book high
  pooled_sheet_ready z =
      let none = sym e ∙ z in
      let counts = sheet_counts s book year (length low) (length high) none in
      let ok = money_accepted s year refl (sheet_money s book year (length low) (length high) none) in
      let ready = slices_ready s.classes low high ok (sheet_slices_lem s book year (length low) (length high) none) in
      (record { write = ready.0; counts = counts }, record { write = ready.1; counts = counts })

  pub pooled_sheet_declined : (n ≡ 0 → ⊥) → Left n low high
  pooled_sheet_declined =
      slices_declined (PooledSheetPromise s book year) (pooled_sheet_cause s book year low high) (pooled_shares false s book year) (pooled_shares true s book year) low high
      (pooled_sheet_kept s book year low high) sheet_is

  pub pooled_sheet_written : {low' high' : List ℕ} → n ≡ 0 → low' ≡ pooled_shares false s book year → high' ≡ pooled_shares true s book year → Left 0 low' high'
  pooled_sheet_written =
      slices_written (PooledSheetPromise s book year) (pooled_sheet_cause s book year low high) (pooled_shares false s book year) (pooled_shares true s book year) low high
      (pooled_sheet_kept s book year low high) sheet_is
