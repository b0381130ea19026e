-- Lent books: a joined book in a buffer, an answer over a lent book, and pooled share sheets of a record.
-- Assumes nothing.
use Prim.Native.Nat.{ℕ, ◌≤◌}
use mathlib.Core.Path.{◌≡◌, refl, ap, ap₂, sym, ◌∙◌, subst, subst₂}
use mathlib.Core.Bool.{true, false}
use mathlib.Core.List.{List, []}
use lib.ListN.{length}
use borrow.Author.Count.{below_none}
use Rattle.setchain.specs.Sums.{at}
use Rattle.scheme.specs.declared.Scheme.{Scheme}
use Rattle.scheme.specs.FirstCause.{or_else}
use Rattle.scheme.specs.Cause.{slices_cause}
use Rattle.scheme.proofs.Laws.FirstCause.{second_none, first_more}
use Rattle.scheme.proofs.Laws.Judged.{accepted_cause}
use Rattle.scheme.proofs.Laws.Tab.{as_tab}
use Rattle.scheme.proofs.Laws.Filled.{Filled, fill_all}
use Rattle.record_spec.specs.Read.{ReadAnswer, read_answer}
use Rattle.record_spec.specs.Layout.{scheme_in}
use Rattle.record_spec.proofs.Laws.Read.{read_in}
use Rattle.book_spec.specs.Book.{JoinAnswer, join_answer}
use Rattle.bounds_spec.specs.Answers.{BoundsAnswer, Answered, Refused, answer_by, sheet_slice}
use Rattle.bounds_spec.specs.Pooled.{Figure, pooled_answer, pooled_sheet_cause, pooled_shares, PooledKept, PooledPromise, PooledSheetPromise}
use Rattle.bounds_spec.proofs.Laws.Pooled.{pooled_kept}
use Rattle.joguyvi_spec.specs.Buffers.{first32, buffer_cause, BufferPost}
use Rattle.joguyvi_spec.specs.Books.{lent_answer, put_book_number, JoinCall, PooledSheetCall}
use Rattle.joguyvi_spec.proofs.Laws.Buffers.{buffer_out, buffer_fits, buffer_size, thirteen, unfilled}
use Rattle.joguyvi_spec.proofs.Laws.Causes.{stopped_number, passed_number, passed_scheme}
use Rattle.joguyvi_spec.proofs.Laws.Figures.{BoundsPromise}
use Rattle.joguyvi_spec.proofs.Laws.Books.{lent_kept, lent_sheet}

-- A buffer before any count is copied, and after all are.
pub copied_none : (counts : List ℕ) {out : List ℕ} → length out ≡ 32 → Filled 32 (at counts) 0 out
copied_none counts e = record { long = e; done = below_none _ }

pub copied_all : {counts out : List ℕ} {k : ℕ} → length counts ≡ 32 → 32 ≤ k → Filled 32 (at counts) k out → out ≡ counts
copied_all {counts} {out} {k} e h w = fill_all 32 (at counts) k out h w ∙ sym (as_tab 0 counts 32 (at counts) e (λ j l. refl))

-- Low and high over a book of another length, and of 32 counts.
module _ (book : List ℕ) (low high : ℕ) where
  pub lent_out : (length book ≡ 32 → ⊥) → Refused 13 ≡ answer_by (buffer_cause 32 book) low high
  lent_out h = ap (λ n. answer_by n low high) (sym (buffer_out 32 book h))

  pub lent_fits : length book ≡ 32 → Answered low high ≡ answer_by (buffer_cause 32 book) low high
  lent_fits e = ap (λ n. answer_by n low high) (sym (buffer_fits 32 book e))

-- A pooled answer over the 32 counts of a lent book, with its promise.
pub pooled_lent : (s : Scheme) (book : List ℕ) (figure : Figure) (year : ℕ) {counts : List ℕ} {p b : BoundsAnswer} → counts ≡ first32 book
    → (p ≡ pooled_answer s counts figure year) × PooledPromise s counts figure year p → b ≡ lent_answer book p
    → (b ≡ lent_answer book (pooled_answer s (first32 book) figure year)) × BoundsPromise (PooledKept s (first32 book) figure year) b
pooled_lent s book figure year {counts} {p} {b} e answer lent = (
  is,
  subst (BoundsPromise (PooledKept s (first32 book) figure year)) (sym is)
      (lent_kept (PooledKept s (first32 book) figure year) book (pooled_answer s (first32 book) figure year) (pooled_kept s (first32 book) figure year)),
)
  where
    is : b ≡ lent_answer book (pooled_answer s (first32 book) figure year)
    is = lent ∙ ap (lent_answer book) (answer.0 ∙ ap (λ c. pooled_answer s c figure year) e)

-- A joined book put into a buffer: the number by its parts, with a cause and without.
module _ (answer : JoinAnswer) (first second : ℕ) (out : List ℕ) {buffer lent sizes n : ℕ} (b : buffer ≡ buffer_cause 32 out) (l : lent ≡ slices_cause 32 first second)
    (z : sizes ≡ or_else lent buffer) (e : n ≡ or_else answer.number sizes) where
  number_is : n ≡ put_book_number answer first second out
  number_is = e ∙ ap (or_else answer.number) (z ∙ ap₂ (λ x y. or_else x y) l b)

  pub book_declined : (n ≡ 0 → ⊥) → BufferPost (put_book_number answer first second out) answer.book out n out
  book_declined some = record { answer = number_is; filled = unfilled answer.book out some }

  pub book_fits : n ≡ 0 → length out ≡ 32
  book_fits none =
      buffer_size 32 out
      (second_none (slices_cause 32 first second) (buffer_cause 32 out)
      (second_none answer.number (or_else (slices_cause 32 first second) (buffer_cause 32 out)) (sym number_is ∙ none)))

  pub book_put : {out' : List ℕ} → n ≡ 0 → out' ≡ answer.book → BufferPost (put_book_number answer first second out) answer.book out 0 out'
  book_put none p = record { answer = sym none ∙ number_is; filled = p }

-- Two lent books joined.
pub join_call : (first second out : List ℕ) {one other : List ℕ} {joined : JoinAnswer} {n : ℕ} {out' : List ℕ} → one ≡ first32 first → other ≡ first32 second → joined ≡ join_answer one other
    → BufferPost (put_book_number joined (length first) (length second) out) joined.book out n out' → JoinCall first second out n out'
join_call first second out {one} {other} {joined} {n} {out'} e g j put =
    subst (λ a. BufferPost (put_book_number a (length first) (length second) out) a.book out n out') (j ∙ ap₂ join_answer e g) put

-- A pooled share sheet of a scheme: what is answered, what is left, and what is promised.
abbrev PooledPost : Scheme → (book : List ℕ) (year : ℕ) (low high : List ℕ) (number : ℕ) (low' high' : List ℕ) → Type 0
PooledPost s book year low high number low' high' =
    (number ≡ pooled_sheet_cause s book year low high)
    × ((low' ≡ sheet_slice number (pooled_shares false s book year) low)
    × ((high' ≡ sheet_slice number (pooled_shares true s book year) high)
    × PooledSheetPromise s book year number low' high'))

-- A pooled share sheet of a record: with a cause of reading, over a book of another length, and over one of 32 counts.
module _ (bytes book : List ℕ) (year : ℕ) (low high : List ℕ) {a : ReadAnswer} (is : a ≡ read_answer bytes) where
  pub pooled_stopped : (a.number ≡ 0 → ⊥) → PooledSheetCall bytes book year low high a.number low high
  pooled_stopped some =
      record { answer = stopped_number bytes is _ some; lows = unfilled _ low some; highs = unfilled _ high some; promise = λ z. absurd (some z) }

  module _ (none : a.number ≡ 0) {counts : List ℕ} (e : counts ≡ first32 book) where
    pub pooled_out : {n : ℕ} → (length book ≡ 32 → ⊥) → n ≡ pooled_sheet_cause a.scheme counts year [] [] → PooledSheetCall bytes book year low high n low high
    pooled_out {n} wrong told = record { answer = passed_number bytes is none number; lows = unfilled _ low some; highs = unfilled _ high some; promise = λ z. absurd (some z) }
      where
        own : ℕ
        own = pooled_sheet_cause (scheme_in bytes) (first32 book) year low high

        class : 1 ≤ (scheme_in bytes).classes
        class = subst (λ s. 1 ≤ s.classes) (read_in bytes is none) (accepted_cause a.scheme (passed_scheme bytes is none)).size.some_class

        last : n ≡ or_else own 13
        last = told ∙ ap₂ (λ s c. pooled_sheet_cause s c year [] []) (read_in bytes is none) e ∙ sym (lent_sheet (scheme_in bytes) (first32 book) year low high class)

        number : n ≡ or_else own (buffer_cause 32 book)
        number = last ∙ ap (or_else own) (sym (buffer_out 32 book wrong))

        some : n ≡ 0 → ⊥
        some z = thirteen (second_none own 13 (sym last ∙ z))

    pub pooled_passed : {n : ℕ} {low' high' : List ℕ} → length book ≡ 32 → PooledPost a.scheme counts year low high n low' high' → PooledSheetCall bytes book year low high n low' high'
    pooled_passed {n} {low'} {high'} fits put =
        let found : PooledPost (scheme_in bytes) (first32 book) year low high n low' high' =
        subst₂ (λ s c. PooledPost s c year low high n low' high') (read_in bytes is none) e put in
        let own = pooled_sheet_cause (scheme_in bytes) (first32 book) year low high in
        record {
          answer = passed_number bytes is none (found.0 ∙ first_more own [] ∙ ap (or_else own) (sym (buffer_fits 32 book fits)));
          lows = found.1.0;
          highs = found.1.1.0;
          promise = found.1.1.1;
        }
