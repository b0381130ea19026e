-- The front of an array that is lent, written, and stands again before the rest.
-- Assumes nothing.
use Rattle.std.specs.Prelude.{ℕ, ◌+◌, ◌-◌, ◌≤◌, ◌<◌, ◌≡◌, List, ◌++◌, ltb, length, get_or, take, drop, replicate}
use Rattle.std.proofs.Common.{ap, sym, ◌∙◌, length-append, length-drop, length-take-le, get_or-append-add, get_or-drop, arith, lt-ltb, le-ltb}
use Rattle.std.proofs.lemmas.List.{length-replicate, get_or-replicate}
use Rattle.std.proofs.Math.ListN.{get_or-append, get_or-eq_default}
use Rattle.std.proofs.Math.Decide.{dec_lt}
use Rattle.setchain.specs.Sums.{only_if}
use Rattle.setchain.proofs.Laws.Sums.{only_if_true, only_if_false}
use Rattle.scheme.specs.Tables.{tab}
use Rattle.scheme.proofs.Laws.Tab.{length_tab, get_d_tab, as_tab}

-- A front of n, after it was written.
module _ (n : ℕ) (after rest : List ℕ) (size : length after ≡ n) where
  pub front_fits : n ≤ length (after ++ rest)
  front_fits = omega (arith, length-append after rest)

  pub front_size : n ≡ length (take n (after ++ rest))
  front_size = sym (length-take-le n (after ++ rest) front_fits)

-- A front of n of an array of 32 that is 0 everywhere.
pub front_lent : (n : ℕ) → n ≤ 32 → length (take n (replicate {A = ℕ} 32 0)) ≡ n
front_lent n few = length-take-le {A = ℕ} n (replicate 32 0) (omega (arith, length-replicate {A = ℕ} 32 0))

-- The whole of an array, after its front was written: what was written, and then what stood there.
module _ (n : ℕ) (before after : List ℕ) (few : n ≤ length before) (size : length after ≡ n) where
  pub joined_size : length (after ++ drop n before) ≡ length before
  joined_size = length-append after (drop n before) ∙ omega (arith, length-drop n before)

  pub joined_front : (j : ℕ) → j < n → get_or (after ++ drop n before) j 0 ≡ get_or after j 0
  joined_front j l = get_or-append after (drop n before) 0 j (omega arith)

  pub joined_beyond : (j : ℕ) → n ≤ j → get_or (after ++ drop n before) j 0 ≡ get_or before j 0
  joined_beyond j l =
      let past : j ≡ length after + (j - n) = omega arith in
      let place : n + (j - n) ≡ j = omega arith in
      ap (λ k. get_or (after ++ drop n before) k 0) past
      ∙ get_or-append-add after (drop n before) (j - n) 0
      ∙ get_or-drop n before (j - n) 0
      ∙ ap (λ k. get_or before k 0) place

-- Written by a rule, with 0 beyond.
pub joined_rule : (n : ℕ) (rule : ℕ → ℕ) (before after : List ℕ) → n ≤ length before → ((j : ℕ) → n ≤ j → get_or before j 0 ≡ 0) → after ≡ tab n rule
    → after ++ drop n before ≡ tab (length before) (λ j. only_if (ltb j n) (rule j))
joined_rule n rule before after few none is =
    as_tab 0 (after ++ drop n before) (length before) (λ j. only_if (ltb j n) (rule j)) (joined_size n before after few size) (λ j g. by j (dec_lt j n))
  where
    size : length after ≡ n
    size = ap length is ∙ length_tab n rule

    by : (j : ℕ) → Dec (j < n) → get_or (after ++ drop n before) j 0 ≡ only_if (ltb j n) (rule j)
    by j (yes l) =
        joined_front n before after few size j l
        ∙ ap (λ a. get_or a j 0) is
        ∙ get_d_tab n rule j 0 l
        ∙ sym (only_if_true (ltb j n) (rule j) (lt-ltb j n l))
    by j (no l) =
        joined_beyond n before after few size j (omega arith)
        ∙ none j (omega arith)
        ∙ sym (only_if_false (ltb j n) (rule j) (le-ltb j n (omega arith)))

-- An array of 32 that is 0 everywhere.
pub zeros : (j : ℕ) → get_or {A = ℕ} (replicate 32 0) j 0 ≡ 0
zeros j = by (dec_lt j 32)
  where
    by : Dec (j < 32) → get_or {A = ℕ} (replicate 32 0) j 0 ≡ 0
    by (yes l) = get_or-replicate 32 j 0 0 l
    by (no l) = get_or-eq_default (replicate 32 0) 0 {n = j} (omega (arith, length-replicate {A = ℕ} 32 0))

-- The whole of it, after its front was written.
module _ (n : ℕ) (after : List ℕ) (few : n ≤ 32) (size : length after ≡ n) where
  within : n ≤ length (replicate {A = ℕ} 32 0)
  within = few

  pub whole_size : length (after ++ drop n (replicate 32 0)) ≡ 32
  whole_size = joined_size n (replicate 32 0) after within size ∙ length-replicate {A = ℕ} 32 0

  pub whole_front : (j : ℕ) → j < n → get_or (after ++ drop n (replicate 32 0)) j 0 ≡ get_or after j 0
  whole_front = joined_front n (replicate 32 0) after within size

  pub whole_beyond : (j : ℕ) → n ≤ j → get_or (after ++ drop n (replicate 32 0)) j 0 ≡ 0
  whole_beyond j l = joined_beyond n (replicate 32 0) after within size j l ∙ zeros j
