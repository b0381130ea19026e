-- Laws of lists: parts of a list, and values laid over a list.
use Rattle.std.specs.Prelude.{ℕ, zero, suc, ◌+◌, ◌≤◌, ◌<◌, ◌≡◌, refl, List, [], ◌∷◌, ◌++◌, length, get_or, take, drop, set}
use Rattle.std.proofs.Common.{ap, ◌∙◌, arith, add-zero, zero-add, length-set, length-drop, get_or-drop, get_or-take, length-take-le, get_or-set_other, get_or-set_same}
use Rattle.std.proofs.lemmas.List.Edits.{sets, sets-eq}

-- A part of a list: its length and its entries.
pub part_length : (n p : ℕ) (l : List ℕ) → p + n ≤ length l → length (take n (drop p l)) ≡ n
part_length n p l h = length-take-le n (drop p l) (rw (length-drop p l) (omega arith))

pub part_at : (n p : ℕ) (l : List ℕ) (k : ℕ) → k < n → get_or (take n (drop p l)) k 0 ≡ get_or l (p + k) 0
part_at n p l k h = get_or-take n (drop p l) k 0 h ∙ get_or-drop p l k 0

-- Laid from the front: the values, then the rest as it was.
pub sets_front : (l a : List ℕ) → length a ≤ length l → sets l 0 a ≡ a ++ drop (length a) l
sets_front l a h = let e : 0 + length a ≡ length a = zero-add (length a) in sets-eq a l 0 (omega arith) ∙ ap (λ n. a ++ drop n l) e

-- What stands below, at and past the values.
pub sets_below : (l : List ℕ) (i : ℕ) (a : List ℕ) (q : ℕ) → q < i → get_or (sets l i a) q 0 ≡ get_or l q 0
sets_below l i [] q h = refl
sets_below l i (x ∷ a) q h = sets_below (set l i x) (suc i) a q (omega arith) ∙ get_or-set_other l i q x 0 (λ e. omega arith)

pub sets_past : (l : List ℕ) (i : ℕ) (a : List ℕ) (q : ℕ) → i + length a ≤ q → get_or (sets l i a) q 0 ≡ get_or l q 0
sets_past l i [] q h = refl
sets_past l i (x ∷ a) q h = sets_past (set l i x) (suc i) a q (omega arith) ∙ get_or-set_other l i q x 0 (λ e. omega arith)

pub sets_within : (l : List ℕ) (i : ℕ) (a : List ℕ) (k : ℕ) → i + length a ≤ length l → k < length a → get_or (sets l i a) (i + k) 0 ≡ get_or a k 0
sets_within l i [] k fits h = elim h [ ]
sets_within l i (x ∷ a) zero fits h =
    ap (λ n. get_or (sets l i (x ∷ a)) n 0) (add-zero i) ∙ sets_below (set l i x) (suc i) a i (omega arith) ∙ get_or-set_same l i x 0 (omega arith)
sets_within l i (x ∷ a) (suc k) fits h =
    let e : i + suc k ≡ suc i + k = omega arith in
    rw e (sets_within (set l i x) (suc i) a k (rw (length-set l i x) (omega arith)) (omega arith))
