-- What a book's causes tell, and what a joined book holds.
-- Assumes nothing.
use Rattle.std.specs.Prelude.{ℕ, ◌+◌, ◌*◌, ◌≤◌, ◌<◌, ◌≡◌, refl, Bool, true, false, ◌||◌, List, [], ◌∷◌, eqb, replicate}
use Rattle.std.proofs.Math.Path.{ap}
use Rattle.std.proofs.Common.{ap₂, sym, ◌∙◌, arith}
use Rattle.std.proofs.Math.Dec.{ltb}
use borrow.Author.Tests.{eq-eqb, ne_eqb, eqb-true, eqb-false, lt-ltb, le-ltb, ltb-true, ltb-false}
use Rattle.setchain.specs.Sums.{at, sum_to}
use Rattle.setchain.proofs.Laws.Sums.{sum_to_eq, sum_to_zero, sum_to_scale, term_le}
use Rattle.setchain.proofs.Laws.Tests.{any_clear, any_false, any_hit, any_found, any_eq, all_hit, all_miss, all_true, all_eq, both_ways}
use Rattle.scheme.specs.FirstCause.{◌when◌, first_of}
use Rattle.scheme.proofs.Laws.FirstCause.{first_none, second_none, test_none, answered}
use Rattle.scheme.proofs.Laws.Tab.{get_d_tab}
use Rattle.book_spec.specs.Book.{count_out, no_chamber, book_cause, joined_book, join_cause, join_answer}

-- Counts within the limit are not out.
within : (n : ℕ) (counts : List ℕ) → ((i : ℕ) → i < n → at counts i ≤ 1000000) → count_out n counts ≡ false
unfolding count_out
within n counts h = any_clear n (λ i. ltb 1000000 (at counts i)) (λ i l. le-ltb 1000000 (at counts i) (h i l))

-- A book that is pooled over n classes: each of their counts is within the limit, and they are not all 0.
pub record Pooled (n : ℕ) (book : List ℕ) : Type 0 where
  pub counts : (i : ℕ) → i < n → at book i ≤ 1000000
  pub some : 1 ≤ sum_to n (at book)

-- Every count is 0 where they sum to 0.
pub no_chamber_lem : (n : ℕ) (book : List ℕ) → no_chamber n book ≡ eqb (sum_to n (at book)) 0
unfolding no_chamber
no_chamber_lem n book =
    both_ways
    (λ e. eq-eqb (sum_to n (at book)) 0
    (sum_to_eq n (at book) (λ i. 0) (λ i l. eqb-true (at book i) 0 (all_true n (λ i. eqb (at book i) 0) e i l)) ∙ sum_to_zero n))
    (λ e. all_hit n (λ i. eqb (at book i) 0) (λ i l. eq-eqb (at book i) 0 (omega (arith, term_le n (at book) i l, eqb-true (sum_to n (at book)) 0 e))))

pub pooled_book : (n : ℕ) (book : List ℕ) → book_cause n book ≡ 0 → Pooled n book
unfolding count_out
pooled_book n book z =
    record {
      counts = λ i l. ltb-false 1000000 (at book i) (any_false n (λ i. ltb 1000000 (at book i)) (test_none (count_out n book) 18 (omega arith) out) i l);
      some = let several = eqb-false (sum_to n (at book)) 0 (sym (no_chamber_lem n book) ∙ empty) in omega arith;
    }
  where
    out : 18 when count_out n book ≡ 0
    out = first_none (18 when count_out n book) (19 when no_chamber n book) z

    empty : no_chamber n book ≡ false
    empty = test_none (no_chamber n book) 19 (omega arith) (second_none (18 when count_out n book) (19 when no_chamber n book) z)

-- 18 and 19 never apply together: a count above the limit is not 0.
pub never_both : (n : ℕ) (book : List ℕ) → count_out n book ≡ true → no_chamber n book ≡ false
unfolding count_out no_chamber
never_both n book e =
    let found = any_found n (λ i. ltb 1000000 (at book i)) e in
    all_miss n found.index (λ i. eqb (at book i) 0) found.below
    (ne_eqb (at book found.index) 0 (λ z. omega (arith, ltb-true 1000000 (at book found.index) found.passed)))

-- A book that is pooled has no cause.
pub pooled_no_cause : {n : ℕ} {book : List ℕ} → Pooled n book → book_cause n book ≡ 0
pooled_no_cause {n} {book} w =
    ap₂ (λ a b. first_of (18 when a ∷ 19 when b ∷ [])) (within n book w.counts)
    (no_chamber_lem n book ∙ ne_eqb (sum_to n (at book)) 0 (λ e. omega (arith, w.some)))

-- Of three tests the last alone counts, where each of the others implies it.
last_of_three : (a b c : Bool) → (a ≡ true → c ≡ true) → (b ≡ true → c ≡ true) → (a || b || c) ≡ c
last_of_three true b c h k = sym (h refl)
last_of_three false true c h k = sym (k refl)
last_of_three false false c h k = refl

-- The counts of a joined book are the sums.
module _ (first second : List ℕ) where
  pub joined_count : (i : ℕ) → i < 32 → at (joined_book first second) i ≡ at first i + at second i
  unfolding joined_book
  joined_count i l = get_d_tab 32 (λ i. at first i + at second i) i 0 l

  -- A count of either book that is above the limit makes a joined one that is.
  joined_out : (book : List ℕ) → ((i : ℕ) → i < 32 → at book i ≤ at (joined_book first second) i) → count_out 32 book ≡ true → count_out 32 (joined_book first second) ≡ true
  unfolding count_out
  joined_out book less e =
      let found = any_found 32 (λ i. ltb 1000000 (at book i)) e in
      any_hit 32 found.index (λ i. ltb 1000000 (at (joined_book first second) i)) found.below
      (lt-ltb 1000000 (at (joined_book first second) found.index) (omega (arith, less found.index found.below, ltb-true 1000000 (at book found.index) found.passed)))

  -- So the joined counts alone tell the cause.
  pub join_cause_lem : join_cause first second ≡ 18 when count_out 32 (joined_book first second)
  unfolding join_cause
  join_cause_lem =
      ap (λ b. 18 when b)
      (last_of_three (count_out 32 first) (count_out 32 second) (count_out 32 (joined_book first second))
      (joined_out first (λ i l. omega (arith, joined_count i l))) (joined_out second (λ i l. omega (arith, joined_count i l))))

  -- What is answered without a cause is the joined book, and each of its counts is within the limit.
  pub join_book : join_cause first second ≡ 0 → (join_answer first second).book ≡ joined_book first second
  unfolding join_answer
  join_book z = answered (join_cause first second) (joined_book first second) (replicate 32 0) z

  pub joined_within : join_cause first second ≡ 0 → (i : ℕ) → i < 32 → at first i + at second i ≤ 1000000
  unfolding count_out
  joined_within z i l =
      let within = ltb-false 1000000 (at (joined_book first second) i)
      (any_false 32 (λ i. ltb 1000000 (at (joined_book first second) i)) (test_none (count_out 32 (joined_book first second)) 18 (omega arith) (sym join_cause_lem ∙ z)) i l) in
      omega (arith, joined_count i l)

-- A book and its double have the same cause for pooling over as many classes as a book has, and each count is doubled.
module _ (book : List ℕ) (z : join_cause book book ≡ 0) (n : ℕ) (few : n ≤ 32) where
  abbrev double : List ℕ
  double = joined_book book book

  pub doubled : (i : ℕ) → i < n → at double i ≡ at book i * 2
  doubled i l = let e = joined_count book book i (omega arith) in omega arith

  sums : sum_to n (at double) ≡ sum_to n (at book) * 2
  sums = sum_to_eq n (at double) (λ i. at book i * 2) doubled ∙ sum_to_scale n (at book) 2

  pub double_cause : book_cause n double ≡ book_cause n book
  double_cause =
      ap₂ (λ a b. first_of (18 when a ∷ 19 when b ∷ []))
      (within n double (λ i l. omega (arith, doubled i l, joined_within book book z i (omega arith)))
      ∙ sym (within n book (λ i l. omega (arith, joined_within book book z i (omega arith)))))
      (no_chamber_lem n double ∙ both_ways
      (λ e. let none : sum_to n (at double) ≡ 0 = eqb-true (sum_to n (at double)) 0 e in eq-eqb (sum_to n (at book)) 0 (omega (arith, sums)))
      (λ e. let none : sum_to n (at book) ≡ 0 = eqb-true (sum_to n (at book)) 0 e in eq-eqb (sum_to n (at double)) 0 (omega (arith, sums)))
      ∙ sym (no_chamber_lem n book))

-- Books that agree on the first n counts have the same cause there.
pub book_agrees : (n : ℕ) (book book' : List ℕ) → ((i : ℕ) → i < n → at book i ≡ at book' i) → book_cause n book ≡ book_cause n book'
unfolding count_out no_chamber
book_agrees n book book' same =
    ap₂ (λ a b. first_of (18 when a ∷ 19 when b ∷ []))
    (any_eq refl (λ i. ltb 1000000 (at book i)) (λ i. ltb 1000000 (at book' i)) (λ i l. ap (ltb 1000000) (same i l)))
    (all_eq n (λ i. eqb (at book i) 0) (λ i. eqb (at book' i) 0) (λ i l. ap (λ k. eqb k 0) (same i l)))
