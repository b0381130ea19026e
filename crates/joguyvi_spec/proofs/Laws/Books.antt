-- Answers over a lent book keep what the answers promise; a pooled share sheet over a book of another length; joined books.
-- Assumes nothing.
use Rattle.std.specs.Prelude.{ℕ, ◌≤◌, ◌≡◌, refl, Bool, true, false, not, List, [], eqb, length}
use Rattle.std.proofs.Common.{ap, sym, ◌∙◌, arith, ne_eqb}
use Rattle.scheme.specs.declared.Scheme.{Scheme}
use Rattle.scheme.specs.FirstCause.{◌when◌, or_else}
use Rattle.scheme.specs.Cause.{slices_cause}
use Rattle.scheme.proofs.Laws.FirstCause.{or_assoc}
use Rattle.book_spec.specs.Book.{book_cause}
use Rattle.bounds_spec.specs.Answers.{BoundsAnswer, Answered, Refused}
use Rattle.bounds_spec.specs.Causes.{money_cause}
use Rattle.bounds_spec.specs.Pooled.{pooled_sheet_cause}
use Rattle.bounds_spec.proofs.Laws.Kept.{kept_answer}
use Rattle.joguyvi_spec.specs.Buffers.{buffer_cause}
use Rattle.joguyvi_spec.specs.Books.{lent_answer}
use Rattle.joguyvi_spec.proofs.Laws.Figures.{BoundsPromise}

-- What low and high promise, they promise over a lent book.
pub lent_kept : (kept : (low high : ℕ) → Type 0) (book : List ℕ) (b : BoundsAnswer) → BoundsPromise kept b → BoundsPromise kept (lent_answer book b)
lent_kept kept book (Answered low high) promise = kept_answer kept (buffer_cause 32 book) low high (λ z. promise refl)
lent_kept kept book (Refused number) promise = promise

-- Two slices of whatever length and then 13 are 13, as two empty slices are where there is a class.
then_thirteen : (a b : Bool) → or_else (or_else (13 when a) (13 when b)) 13 ≡ 13
then_thirteen true b = refl
then_thirteen false true = refl
then_thirteen false false = refl

empty_slices : (n low high : ℕ) → 1 ≤ n → or_else (slices_cause n low high) 13 ≡ slices_cause n 0 0
empty_slices n low high some =
    let other : eqb 0 n ≡ false = ne_eqb 0 n (λ e. omega arith) in
    then_thirteen (not (eqb low n)) (not (eqb high n)) ∙ ap (λ b. or_else (13 when not b) (13 when not b)) (sym other)

-- So a sheet into two empty slices tells the number where the book is not of 32 counts: 13 comes last.
pub lent_sheet : (s : Scheme) (book : List ℕ) (year : ℕ) (low high : List ℕ) → 1 ≤ s.classes
    → or_else (pooled_sheet_cause s book year low high) 13 ≡ pooled_sheet_cause s book year [] []
unfolding pooled_sheet_cause
lent_sheet s book year low high some =
    let money = money_cause s year in
    let counts = book_cause s.classes book in
    let slices = slices_cause s.classes (length low) (length high) in
    or_assoc money (or_else counts slices) 13
    ∙ ap (or_else money) (or_assoc counts slices 13 ∙ ap (or_else counts) (empty_slices s.classes (length low) (length high) some))
