-- The loop that sets every entry to 0.
use Rattle.std.specs.Prelude.{ℕ, ◌+◌, ◌≤◌, ◌<◌, ◌≡◌, refl, List, ◌++◌, length, set, replicate, drop}
use Rattle.std.proofs.Common.{ap, ◌∙◌, append-nil, length-set, arith}
use Rattle.std.proofs.Math.Seq.{drop-length}
use Rattle.std.proofs.lemmas.List.Edits.{fill_none, fill_more}

-- The first i entries are 0, and the rest as they were.
pub record Cleared (before : List ℕ) (i : ℕ) (now : List ℕ) : Type 0 where
  pub within : i ≤ length before
  pub size : length now ≡ length before
  pub is : now ≡ replicate i 0 ++ drop i before

pub cleared_none : (before : List ℕ) → Cleared before 0 before
cleared_none before = record { within = omega arith; size = refl; is = fill_none before 0 }

pub cleared_more : (before : List ℕ) (i : ℕ) (now : List ℕ) → Cleared before i now → i < length now → Cleared before (i + 1) (set now i 0)
cleared_more before i now w l =
    record {
      within = omega (arith, w.size);
      size = length-set now i 0 ∙ w.size;
      is = ap (λ x. set x i 0) w.is ∙ fill_more i 0 before (omega (arith, w.size));
    }

pub cleared_all : (before : List ℕ) (i : ℕ) (now : List ℕ) → Cleared before i now → length now ≤ i → now ≡ replicate (length before) 0
cleared_all before i now w l =
    let e : i ≡ length before = omega (arith, w.size, w.within) in
    w.is
    ∙ ap (λ k. replicate k 0 ++ drop k before) e
    ∙ ap (λ x. replicate (length before) 0 ++ x) (drop-length before)
    ∙ append-nil (replicate (length before) 0)
