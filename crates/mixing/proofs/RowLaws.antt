-- The first n rows of a matrix, lent and written one by one: at first, and where they stand in the matrix again.
use Rattle.std.specs.Prelude.{ℕ, ◌≤◌, List, ◌++◌, take, drop, replicate}
use Rattle.std.proofs.Common.{◌∙◌, arith}
use Rattle.scheme.proofs.Laws.Filled.{Filled, fill_start}
use Rattle.rows.specs.Laws.Front.{front_lent, joined_size, joined_front}

pub lent_none : {n : ℕ} {f : ℕ → ℕ} → n ≤ 32 → Filled n f 0 (take n (replicate 32 0))
lent_none {n} {f} few = fill_start n f (take n (replicate 32 0)) (front_lent n few)

pub lent_all : {n i : ℕ} {f : ℕ → ℕ} {written : List ℕ} → n ≤ 32 → n ≤ i → Filled n f i written → Filled 32 f n (written ++ drop n (replicate 32 0))
lent_all {n} {i} {f} {written} few past w =
    record {
      long = joined_size n (replicate 32 0) written few w.long;
      done = λ k l. joined_front n (replicate 32 0) written few w.long k l ∙ w.done k (omega arith);
    }
