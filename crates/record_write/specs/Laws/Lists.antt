-- Laws of lists that a record is laid by: four lists, tables, and lists laid one after another.
use Rattle.std.specs.Prelude.{ℕ, zero, suc, ◌+◌, ◌*◌, ◌≤◌, ◌<◌, ◌≡◌, refl, List, ◌++◌, length, get_or, take, drop}
use Rattle.std.proofs.Common.{ap, sym, ◌∙◌, ⊎_elim, arith, add-one, mul-le-mul_right, eq-or-lt_of_le, suc-mul, length-append, get_or-append-add, get_or-take, length-take-le, take-add, drop-drop}
use Rattle.std.proofs.Math.ListN.{get_or-append}
use Rattle.std.proofs.lemmas.List.Edits.{sets}
use Rattle.scheme.specs.Tables.{tab}
use Rattle.scheme.proofs.Laws.Tab.{as_tab}
use Rattle.big_endian_spec.proofs.Laws.{sets_append}
use Rattle.record_spec.specs.Joined.{joined}
use Rattle.record_spec.proofs.Laws.Joined.{joined_eq}
use Rattle.record.specs.Laws.Lists.{part_length, part_at}

-- Four lists, each laid where the last one ends.
pub sets_4 : (l h r b p : List ℕ) (i j k : ℕ) → length h ≡ i → i + length r ≡ j → j + length b ≡ k
    → sets (sets (sets (sets l 0 h) i r) j b) k p ≡ sets l 0 (h ++ r ++ b ++ p)
sets_4 l h r b p i j k eh er eb =
    let hi : 0 + length h ≡ i = omega arith in
    let hj : 0 + length (h ++ r) ≡ j = omega (arith, length-append h r) in
    let hk : 0 + length ((h ++ r) ++ b) ≡ k = omega (arith, length-append h r, length-append (h ++ r) b) in
    let one : sets (sets l 0 h) i r ≡ sets l 0 (h ++ r) = rw hi at (sets_append l 0 h r) in
    let two : sets (sets l 0 (h ++ r)) j b ≡ sets l 0 ((h ++ r) ++ b) = rw hj at (sets_append l 0 (h ++ r) b) in
    let three : sets (sets l 0 ((h ++ r) ++ b)) k p ≡ sets l 0 (((h ++ r) ++ b) ++ p) = rw hk at (sets_append l 0 ((h ++ r) ++ b) p) in
    rw (one, two, three)

-- A table of a list's entries is that part of the list.
pub tab_part : (n p : ℕ) (l : List ℕ) → p + n ≤ length l → tab n (λ k. get_or l (p + k) 0) ≡ take n (drop p l)
tab_part n p l h =
    sym (as_tab 0 (take n (drop p l)) n (λ k. get_or l (p + k) 0) (part_length n p l h) (part_at n p l))

-- Lists one after another: length, entries, equal lists, parts of one list.
pub length_joined : (w n : ℕ) (f : ℕ → List ℕ) → ((i : ℕ) → i < n → length (f i) ≡ w) → length (joined n f) ≡ n * w
unfolding joined
length_joined w zero f h = omega arith
length_joined w (suc n) f h =
    omega (arith, length-append (joined n f) (f n), length_joined w n f (λ i lt. h i (omega arith)), h n (omega arith))

pub joined_parts : (w p n : ℕ) (l : List ℕ) → joined n (λ i. take w (drop (p + i * w) l)) ≡ take (n * w) (drop p l)
unfolding joined
joined_parts w p zero l = let e : 0 * w ≡ 0 = omega arith in rw e
joined_parts w p (suc n) l =
    let e : suc n * w ≡ n * w + w = suc-mul n w in
    rw (e, take-add (n * w) w (drop p l), drop-drop (n * w) p l, joined_parts w p n l)

-- Entry k of list i stands at i × w + k, where each list has w entries.
pub get_d_joined : (w n : ℕ) (f : ℕ → List ℕ) → ((i : ℕ) → i < n → length (f i) ≡ w) → (i k : ℕ) → i < n → k < w
    → get_or (joined n f) (i * w + k) 0 ≡ get_or (f i) k 0
unfolding joined
get_d_joined w zero f h i k lt kw = elim lt [ ]
get_d_joined w (suc n) f h i k lt kw =
    ⊎_elim
    (λ e.
    let same : i ≡ n = omega arith in
    let at : i * w + k ≡ length (joined n f) + k = rw (before, same) in
    rw at (get_or-append-add (joined n f) (f n) k 0 ∙ ap (λ j. get_or (f j) k 0) (sym same)))
    (λ less.
    let inner : i < n = omega arith in
    let within : i * w + k < length (joined n f) = omega (arith, before, mul-le-mul_right w inner) in
    get_or-append (joined n f) (f n) 0 (i * w + k) within ∙ get_d_joined w n f (λ j l. h j (omega arith)) i k inner kw)
    (eq-or-lt_of_le lt)
  where
    before : length (joined n f) ≡ n * w
    before = length_joined w n f (λ j l. h j (omega arith))

-- Lists by the entries of a front, one after another, are those by the first entries of the whole.
pub joined_take : (n : ℕ) (f : ℕ → List ℕ) (l : List ℕ) → n ≤ length l → joined (length (take n l)) (λ i. f (get_or (take n l) i 0)) ≡ joined n (λ i. f (get_or l i 0))
joined_take n f l fits =
    ap (λ k. joined k (λ i. f (get_or (take n l) i 0))) (length-take-le n l fits)
    ∙ joined_eq n _ _ (λ i lt. ap f (get_or-take n l i 0 lt))

-- One more list laid after those that are there.
pub join_more : (w : ℕ) (f : ℕ → List ℕ) (l : List ℕ) (at i : ℕ) → ((j : ℕ) → j < i → length (f j) ≡ w)
    → sets (sets l at (joined i f)) (at + i * w) (f i) ≡ sets l at (joined (i + 1) f)
unfolding joined
join_more w f l at i h =
    let size : at + i * w ≡ at + length (joined i f) = omega (arith, length_joined w i f h) in
    rw (add-one, size) (sets_append l at (joined i f) (f i))

pub join_none : (f : ℕ → List ℕ) (l : List ℕ) (at : ℕ) → l ≡ sets l at (joined 0 f)
unfolding joined
join_none f l at = refl
