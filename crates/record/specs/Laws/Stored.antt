-- Arrays filled entry by entry or row by row, with 0 beyond what is filled.
use Rattle.std.specs.Prelude.{ℕ, ◌+◌, ◌*◌, ◌-◌, ◌/◌, ◌%◌, ◌≤◌, ◌<◌, ◌≡◌, List, ◌++◌, length, get_or, take, drop, replicate}
use Rattle.std.proofs.Common.{ap, sym, ◌∙◌, ⊎_elim, arith, length-append, length-drop, length-take-le, get_or-append-add, get_or-drop}
use Rattle.std.proofs.lemmas.List.{length-replicate, get_or-replicate}
use Rattle.std.proofs.lemmas.List.Edits.{sets}
use Rattle.std.proofs.Math.ListN.{get_or-append}
use Rattle.std.proofs.Math.Seq.{length-sets}
use Rattle.scheme.specs.Access.{CELL_PLACES, CELL_STRIDE}
use Rattle.scheme.specs.Tables.{tab}
use Rattle.scheme.specs.Stored.{up_to, rules_up_to}
use Rattle.scheme.proofs.Laws.Tab.{length_tab, get_d_tab, as_tab}
use Rattle.scheme.proofs.Laws.Stored.{split, up_to_below, up_to_past}
use Rattle.record.specs.Laws.Lists.{sets_below, sets_within, sets_past}
pub use Rattle.scheme.proofs.Laws.Stored.{stored_none, stored_more}

-- The first n entries of an array of 0, filled by a rule and laid back before the rest.
pub stored_front : (size n : ℕ) (f : ℕ → ℕ) (front : List ℕ) → n ≤ size → front ≡ tab (length (take n (replicate {A = ℕ} size 0))) f
    → front ++ drop n (replicate size 0) ≡ tab size (up_to n f)
stored_front size n f front few filled =
    as_tab 0 (front ++ rest) size (up_to n f) (length-append front rest ∙ omega (arith, as_many, length-drop n zeros, length-replicate {A = ℕ} size 0))
    (λ k lt. ⊎_elim (within k) (beyond k lt) (split k n))
  where
    zeros : List ℕ
    zeros = replicate size 0

    rest : List ℕ
    rest = drop n zeros

    lent : length (take n zeros) ≡ n
    lent = length-take-le n zeros (omega (arith, length-replicate {A = ℕ} size 0))

    as_many : length front ≡ n
    as_many = ap length filled ∙ length_tab (length (take n zeros)) f ∙ lent

    within : (k : ℕ) → k < n → get_or (front ++ rest) k 0 ≡ up_to n f k
    within k below =
        get_or-append front rest 0 k (omega (arith, as_many)) ∙ ap (λ a. get_or a k 0) filled
        ∙ get_d_tab (length (take n zeros)) f k 0 (omega (arith, lent)) ∙ sym (up_to_below n f k below)

    beyond : (k : ℕ) → k < size → n ≤ k → get_or (front ++ rest) k 0 ≡ up_to n f k
    beyond k lt past =
        let place : k ≡ length front + (k - n) = omega (arith, as_many) in
        let there : n + (k - n) ≡ k = omega arith in
        ap (λ q. get_or (front ++ rest) q 0) place ∙ get_or-append-add front rest (k - n) 0 ∙ get_or-drop n zeros (k - n) 0
        ∙ ap (λ q. get_or zeros q 0) there ∙ get_or-replicate size k 0 0 lt ∙ sym (up_to_past n f k past)

-- An array of 0 has no row of rules.
pub rows_none : (m : ℕ) (rule : ℕ → ℕ → ℕ) → replicate CELL_PLACES 0 ≡ tab CELL_PLACES (rules_up_to 0 m rule)
rows_none m rule =
    as_tab 0 (replicate 256 0) CELL_PLACES (rules_up_to 0 m rule) (length-replicate {A = ℕ} CELL_PLACES 0)
    (λ q lt. get_or-replicate CELL_PLACES q 0 0 lt ∙ sym (up_to_past 0 (λ i. up_to m (rule i) (q % CELL_STRIDE)) (q / CELL_STRIDE) (omega arith)))

-- One more row of rules, m of 8 places.
pub rows_more : (i m : ℕ) (rule : ℕ → ℕ → ℕ) (l row : List ℕ) → i < 32 → m ≤ 8 → length row ≡ m → ((k : ℕ) → k < m → get_or row k 0 ≡ rule i k)
    → l ≡ tab CELL_PLACES (rules_up_to i m rule) → sets l (i * CELL_STRIDE) row ≡ tab CELL_PLACES (rules_up_to (i + 1) m rule)
rows_more i m rule l row lt most size holds filled =
    as_tab 0 (sets l (i * CELL_STRIDE) row) CELL_PLACES (rules_up_to (i + 1) m rule) (length-sets l (i * CELL_STRIDE) row ∙ whole)
    (λ q q256. ⊎_elim (before q q256) (λ past. ⊎_elim (within q past) (beyond q q256) (split q (i * CELL_STRIDE + m))) (split q (i * CELL_STRIDE)))
  where
    whole : length l ≡ CELL_PLACES
    whole = ap length filled ∙ length_tab CELL_PLACES (rules_up_to i m rule)

    was : (q : ℕ) → q < CELL_PLACES → get_or l q 0 ≡ rules_up_to i m rule q
    was q lt = ap (λ a. get_or a q 0) filled ∙ get_d_tab CELL_PLACES (rules_up_to i m rule) q 0 lt

    columns : ℕ → ℕ → ℕ
    columns q j = up_to m (rule j) (q % CELL_STRIDE)

    before : (q : ℕ) → q < CELL_PLACES → q < i * CELL_STRIDE → get_or (sets l (i * CELL_STRIDE) row) q 0 ≡ rules_up_to (i + 1) m rule q
    before q q256 less =
        sets_below l (i * CELL_STRIDE) row q less ∙ was q q256 ∙ up_to_below i (columns q) (q / CELL_STRIDE) (omega arith)
        ∙ sym (up_to_below (i + 1) (columns q) (q / CELL_STRIDE) (omega arith))

    within : (q : ℕ) → i * CELL_STRIDE ≤ q → q < i * CELL_STRIDE + m → get_or (sets l (i * CELL_STRIDE) row) q 0 ≡ rules_up_to (i + 1) m rule q
    within q from less =
        let k : ℕ = q - i * CELL_STRIDE in
        let there : q ≡ i * CELL_STRIDE + k = omega arith in
        let class : q / CELL_STRIDE ≡ i = omega arith in
        let column : q % CELL_STRIDE ≡ k = omega arith in
        ap (λ p. get_or (sets l (i * CELL_STRIDE) row) p 0) there ∙ sets_within l (i * CELL_STRIDE) row k (omega (arith, whole)) (omega arith) ∙ holds k (omega arith)
        ∙ sym
        (up_to_below (i + 1) (columns q) (q / CELL_STRIDE) (omega arith) ∙ up_to_below m (rule (q / CELL_STRIDE)) (q % CELL_STRIDE) (omega arith)
        ∙ ap (λ j. rule j (q % CELL_STRIDE)) class ∙ ap (rule i) column)

    beyond : (q : ℕ) → q < CELL_PLACES → i * CELL_STRIDE + m ≤ q → get_or (sets l (i * CELL_STRIDE) row) q 0 ≡ rules_up_to (i + 1) m rule q
    beyond q q256 past =
        sets_past l (i * CELL_STRIDE) row q (omega arith) ∙ was q q256 ∙ up_to_past i (columns q) (q / CELL_STRIDE) (omega arith)
        ∙ sym (⊎_elim (λ here. up_to_below (i + 1) (columns q) (q / CELL_STRIDE) here ∙ up_to_past m (rule (q / CELL_STRIDE)) (q % CELL_STRIDE) (omega arith))
        (λ later. up_to_past (i + 1) (columns q) (q / CELL_STRIDE) later)
        (split (q / CELL_STRIDE) (i + 1)))
