-- Books worked out: which causes they have for how many classes, and what joining answers.
use Rattle.std.specs.Prelude.{ℕ, ◌≡◌, refl, List, [], ◌∷◌, ◌++◌, replicate}
use Rattle.setchain.specs.Tests.{any_below}
use Rattle.scheme.specs.Tables.{tab}
use Rattle.book_spec.specs.Book.{count_out, no_chamber, book_cause, joined_book, join_cause, join_answer}

-- A book of which class 31 and class 32 alone have chambers.
abbrev pub last_two : (before last : ℕ) → List ℕ
last_two before last = replicate 30 0 ++ before ∷ last ∷ []

-- Counts at and past the limit, in a class that is pooled and in one that is not; no chamber; a count past the limit beside a class without a chamber; and a book that is shorter than its classes.
pub record CauseExamples : Type 0 where
  pub most : book_cause 2 (1000000 ∷ 1000000 ∷ []) ≡ 0
  pub one : (book_cause 2 (1 ∷ 0 ∷ []) ≡ 0) × (book_cause 2 (0 ∷ 1 ∷ []) ≡ 0)
  pub too_many : (book_cause 2 (1000001 ∷ 1 ∷ []) ≡ 18) × (book_cause 2 (1 ∷ 1000001 ∷ []) ≡ 18)
  pub none : (book_cause 2 (0 ∷ 0 ∷ []) ≡ 19) × (book_cause 32 (last_two 0 0) ≡ 19)
  pub beyond : (book_cause 2 (1 ∷ 0 ∷ 1000001 ∷ []) ≡ 0) × (book_cause 2 (0 ∷ 0 ∷ 1 ∷ []) ≡ 19) × (book_cause 3 (0 ∷ 0 ∷ 1 ∷ []) ≡ 0)
  pub first : book_cause 2 (0 ∷ 1000001 ∷ []) ≡ 18
  pub short : (book_cause 2 (1 ∷ []) ≡ 0) × (book_cause 2 [] ≡ 19)
  pub last : (book_cause 32 (last_two 0 1) ≡ 0) × (book_cause 32 (last_two 0 1000001) ≡ 18) × (book_cause 31 (last_two 0 1000001) ≡ 19)

pub cause_examples : CauseExamples
unfolding count_out no_chamber any_below
cause_examples =
    record {
      most = refl;
      one = (refl, refl);
      too_many = (refl, refl);
      none = (refl, refl);
      beyond = (refl, refl, refl);
      first = refl;
      short = (refl, refl);
      last = (refl, refl, refl);
    }

-- All 32 counts are added; a joined count may reach the limit and not pass it; a count past it in either book, the last one too, is told; no sum wraps round.
pub record JoinExamples : Type 0 where
  pub added : join_answer (last_two 1 2) (last_two 30 400) ≡ record { number = 0; book = last_two 31 402 }
  pub most : join_answer (last_two 1 600000) (last_two 2 400000) ≡ record { number = 0; book = last_two 3 1000000 }
  pub too_many : join_answer (last_two 1 600000) (last_two 2 400001) ≡ record { number = 18; book = replicate 32 0 }
  pub first_out : join_answer (last_two 1 1000001) (last_two 2 0) ≡ record { number = 18; book = replicate 32 0 }
  pub second_out : join_answer (last_two 1 0) (last_two 2 1000001) ≡ record { number = 18; book = replicate 32 0 }
  pub wide : join_answer (last_two 1 4294967295) (last_two 2 1) ≡ record { number = 18; book = replicate 32 0 }
  pub none : join_answer (last_two 0 0) (last_two 0 0) ≡ record { number = 0; book = replicate 32 0 }

pub join_examples : JoinExamples
unfolding join_answer join_cause joined_book count_out any_below tab
join_examples = record { added = refl; most = refl; too_many = refl; first_out = refl; second_out = refl; wide = refl; none = refl }
