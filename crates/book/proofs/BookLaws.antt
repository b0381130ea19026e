-- The loops over a book: the counts seen so far are within the limit and summed, and those of a joined book are written.
-- Assumes nothing.
use Prim.Native.Nat.{ℕ, zero, suc, ◌+◌, ◌*◌, ◌≤◌, ◌<◌}
use mathlib.Core.Path.{◌≡◌, ap, subst, ap₂, sym, ◌∙◌}
use mathlib.Core.Bool.{Bool, true, false}
use mathlib.Core.List.{List, [], ◌∷◌}
use native.Mathlib.Omega.{arith}
use lib.Dec.{eqb, ltb}
use lib.ListN.{replicate, set}
use Rattle.std.specs.Prelude.{◌-◌, length, get_or, take}
use Rattle.std.proofs.lemmas.List.{get_or_past, get_or-take, length-take}
use Rattle.std.proofs.lemmas.Grind.{get_or_default_zero}
use borrow.Author.Count.{below_none, below_more}
use borrow.Author.Tests.{eq-eqb, ne_eqb, lt-ltb, le-ltb}
use Rattle.setchain.specs.Sums.{at, sum_to}
use Rattle.setchain.proofs.Laws.Sums.{sum_to_most, total_start, total_more, total_end}
use Rattle.setchain.proofs.Laws.Tests.{any_hit, any_clear}
use Rattle.scheme.specs.FirstCause.{◌when◌, first_of}
use Rattle.scheme.proofs.Laws.Filled.{Filled, fill_none, fill_more, fill_all}
use Rattle.scheme.proofs.Laws.FirstCause.{declined}
use Rattle.book_spec.specs.Book.{count_out, no_chamber, book_cause, joined_book, join_cause, join_answer}
use Rattle.book_spec.proofs.Laws.{no_chamber_lem, joined_count, join_cause_lem, join_book}

-- Of n counts those before place i are within the limit, and sum to `chambers`.
pub record Counted (book : List ℕ) (n i chambers : ℕ) : Type 0 where
  pub inside : i ≤ n
  pub within : (j : ℕ) → j < i → at book j ≤ 1000000
  pub sum : chambers ≡ sum_to i (at book)

module _ {book : List ℕ} {n : ℕ} where
  pub counted_none : Counted book n 0 0
  counted_none = record { inside = omega arith; within = below_none _; sum = total_start (at book) }

  module _ {i chambers : ℕ} (w : Counted book n i chambers) where
    -- No sum is too large.
    pub counted_most : chambers ≤ i * 1000000
    counted_most = omega (arith, w.sum, sum_to_most i (at book) 1000000 w.within)

    pub counted_more : {count : ℕ} → i < n → count ≡ at book i → count ≤ 1000000 → Counted book n (i + 1) (chambers + count)
    counted_more {count} l e h =
        record { inside = omega arith; within = below_more (λ j. at book j ≤ 1000000) i w.within (omega arith); sum = total_more i chambers count (at book) w.sum e }

    -- The count at place i is above the limit.
    pub counted_out : {count : ℕ} → i < n → count ≡ at book i → 1000000 < count → 18 ≡ book_cause n book
    unfolding count_out
    counted_out l e h = ap (λ b. first_of (18 when b ∷ 19 when no_chamber n book ∷ [])) (sym (any_hit n i (λ j. ltb 1000000 (at book j)) l (lt-ltb 1000000 (at book i) (omega arith))))

    -- All have been counted.
    counted_end : n ≤ i → (b : Bool) → eqb chambers 0 ≡ b → 19 when b ≡ book_cause n book
    unfolding count_out
    counted_end h b e =
        let all : i ≡ n = omega (arith, w.inside) in
        ap₂ (λ a b. first_of (18 when a ∷ 19 when b ∷ []))
        (sym (any_clear n (λ j. ltb 1000000 (at book j)) (λ j l. le-ltb 1000000 (at book j) (w.within j (omega arith)))))
        (sym e ∙ ap (λ k. eqb k 0) (total_end i n chambers (at book) all w.sum) ∙ sym (no_chamber_lem n book))

    pub counted_empty : n ≤ i → chambers ≡ 0 → 19 ≡ book_cause n book
    counted_empty h e = counted_end h true (eq-eqb chambers 0 e)

    pub counted_all : n ≤ i → (chambers ≡ 0 → ⊥) → 0 ≡ book_cause n book
    counted_all h e = counted_end h false (ne_eqb chambers 0 e)

-- A place of the first n counts of a book is below n, and what they have there is what the book has.
module _ (book : List ℕ) (n : ℕ) {i : ℕ} (inside : i < length (take n book)) where
  pub yielded_inside : i < n
  yielded_inside = omega (arith, inside, length-take n book)

  pub yielded_count : {count : ℕ} → count ≡ get_or (take n book) i count → count ≡ at book i
  yielded_count {count} is = is ∙ get_or_default_zero (take n book) i count inside ∙ get_or-take n book i 0 yielded_inside

-- Where the first n counts of a book end all are summed, since what lies past its end counts as 0.
module _ {book : List ℕ} {n chambers : ℕ} where
  counted_on : (k i : ℕ) → i + k ≡ n → (0 < k → length book ≤ i) → Counted book n i chambers → Counted book n n chambers
  counted_on zero i all past w = subst (λ j. Counted book n j chambers) (omega (arith, all)) w
  counted_on (suc k) i all past w =
      counted_on k (i + 1) (omega (arith, all)) (λ l. omega (arith, past (omega arith)))
      (subst (λ sum. Counted book n (i + 1) sum) (omega arith) (counted_more w {count = 0} (omega (arith, all)) (sym (get_or_past book i 0 (past (omega arith)))) (omega arith)))

  pub counted_rest : {i : ℕ} → i ≡ length (take n book) → Counted book n i chambers → Counted book n n chambers
  counted_rest {i} e w = counted_on (n - i) i (omega (arith, w.inside)) (λ l. omega (arith, l, e, length-take n book)) w

-- The joined counts before place i are written, and each is within the limit.
pub record Joined (first second book : List ℕ) (i : ℕ) : Type 0 where
  pub written : Filled 32 (λ j. at first j + at second j) i book
  pub within : (j : ℕ) → j < i → at first j + at second j ≤ 1000000

module _ {first second : List ℕ} where
  pub joined_none : Joined first second (replicate 32 0) 0
  joined_none = record { written = fill_none 32 (λ j. at first j + at second j); within = below_none _ }

  module _ {book : List ℕ} {i : ℕ} (w : Joined first second book i) where
    pub joined_more : {chambers : ℕ} → i < 32 → chambers ≡ at first i + at second i → chambers ≤ 1000000 → Joined first second (set book i chambers) (i + 1)
    joined_more {chambers} l e h =
        record {
          written = fill_more 32 (λ j. at first j + at second j) i book chambers l e w.written;
          within = below_more (λ j. at first j + at second j ≤ 1000000) i w.within (omega arith);
        }

    -- A joined count is above the limit.
    pub joined_declined : {chambers : ℕ} → i < 32 → chambers ≡ at first i + at second i → 1000000 < chambers → record { number = 18; book = replicate 32 0 } ≡ join_answer first second
    unfolding join_answer count_out
    joined_declined l e h =
        λ k. record { number = cause k; book = sym (declined (join_cause first second) (joined_book first second) (replicate 32 0) (λ z. omega (arith, cause))) k }
      where
        out : count_out 32 (joined_book first second) ≡ true
        out =
            any_hit 32 i (λ j. ltb 1000000 (at (joined_book first second) j)) l
            (lt-ltb 1000000 (at (joined_book first second) i) (omega (arith, joined_count first second i l)))

        cause : 18 ≡ join_cause first second
        cause = ap (λ b. 18 when b) (sym out) ∙ sym (join_cause_lem first second)

    pub joined_answered : 32 ≤ i → record { number = 0; book = book } ≡ join_answer first second
    unfolding join_answer joined_book count_out
    joined_answered h = λ k. record { number = cause k; book = (fill_all 32 (λ j. at first j + at second j) i book h w.written ∙ sym (join_book first second (sym cause))) k }
      where
        clear : count_out 32 (joined_book first second) ≡ false
        clear =
            any_clear 32 (λ j. ltb 1000000 (at (joined_book first second) j))
            (λ j l. le-ltb 1000000 (at (joined_book first second) j) (omega (arith, joined_count first second j l, w.within j (omega arith))))

        cause : 0 ≡ join_cause first second
        cause = ap (λ b. 18 when b) (sym clear) ∙ sym (join_cause_lem first second)
