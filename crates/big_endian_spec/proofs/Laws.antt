-- Read-after-put and put-after-read of numbers in bytes, over any width; bytes that are copied; and what is read and left by whether the bytes hold it.
use Rattle.std.specs.Prelude.{ℕ, zero, suc, ◌+◌, ◌*◌, ◌/◌, ◌%◌, ◌-◌, ◌^◌, ◌≤◌, ◌<◌, ◌≡◌, refl, Bool, true, false, cond, ◌&&◌, List, [], ◌∷◌, ◌++◌, leb, length, get_or, take, drop, set}
use Rattle.std.proofs.Common.{ap, sym, ◌∙◌, arith, add-zero, add-one, length-append, length-take, length-drop, get_or-take, get_or-drop, take-suc, length-take-le}
use Rattle.std.proofs.Math.Decide.{dec_le, dec_lt}
use Rattle.std.proofs.Math.ListN.{get_or-append, get_or-eq_default}
use Rattle.std.proofs.lemmas.List.Edits.{sets}
use Rattle.std.proofs.lemmas.List.{get_or_at, set_comm}
use borrow.Author.Tests.{le-leb, lt-leb}
use Rattle.big_endian_spec.specs.Numbers.{Bytes, be_at, be_bytes, holds, number_at, number_put, part_put}

-- The first bytes of bytes are bytes.
pub bytes_take : (n : ℕ) (l : List ℕ) → Bytes l → Bytes (take n l)
bytes_take n l small k = by (dec_lt k n)
  where
    by : Dec (k < n) → get_or (take n l) k 0 < 256
    by (yes h) = omega (arith, get_or-take n l k 0 h, small k)
    by (no h) = omega (arith, get_or-eq_default (take n l) 0 {n = k} (omega (arith, length-take n l)))

-- A number's bytes are as many as its width.
pub length_be_bytes : (w x : ℕ) → length (be_bytes w x) ≡ w
unfolding be_bytes
length_be_bytes zero x = refl
length_be_bytes (suc w) x = omega (arith, length-append (be_bytes w (x / 256)) (x % 256 ∷ []), length_be_bytes w (x / 256))

-- The same bytes make the same number.
pub be_at_eq : (w : ℕ) (a : List ℕ) (p : ℕ) (b : List ℕ) (q : ℕ) → ((k : ℕ) → k < w → get_or a (p + k) 0 ≡ get_or b (q + k) 0) → be_at w a p ≡ be_at w b q
unfolding be_at
be_at_eq zero a p b q h = refl
be_at_eq (suc w) a p b q h = omega (arith, be_at_eq w a p b q (λ k lt. h k (omega arith)), h w (omega arith))

-- Read after put: the number that was put.
pub read_put : (w x : ℕ) → x < 256 ^ w → be_at w (be_bytes w x) 0 ≡ x
unfolding be_at be_bytes
read_put zero x h = omega arith
read_put (suc w) x h =
    let high : List ℕ = be_bytes w (x / 256) in
    let low : ℕ = x % 256 in
    let rest : be_at w (high ++ (low ∷ [])) 0 ≡ be_at w high 0 =
    be_at_eq w (high ++ (low ∷ [])) 0 high 0
    (λ k lt. get_or-append high (low ∷ []) 0 (0 + k) (omega (arith, length_be_bytes w (x / 256))))
    in
    let last : get_or (high ++ (low ∷ [])) (0 + w) 0 ≡ low =
    get_or_at high low [] 0 (0 + w) (omega (arith, length_be_bytes w (x / 256)))
    in
    omega (arith, rest, last, read_put w (x / 256) (omega arith))

-- Put after read: the bytes that were read.
pub put_read : (w : ℕ) (l : List ℕ) (p : ℕ) → p + w ≤ length l → Bytes l → be_bytes w (be_at w l p) ≡ take w (drop p l)
unfolding be_at be_bytes
put_read zero l p h small = refl
put_read (suc w) l p h small =
    let high : ℕ = be_at w l p in
    let low : ℕ = get_or l (p + w) 0 in
    let div : (high * 256 + low) / 256 ≡ high = omega (arith, small (p + w)) in
    let rem : (high * 256 + low) % 256 ≡ low = omega (arith, small (p + w)) in
    rw (div, rem, put_read w l p (omega arith) small, ← (get_or-drop p l w 0))
    (sym (take-suc (drop p l) w 0 (rw (length-drop p l) (omega arith))))

-- A number read from bytes fits its width.
pub be_at_fits : (w : ℕ) (l : List ℕ) (p : ℕ) → Bytes l → be_at w l p < 256 ^ w
unfolding be_at
be_at_fits zero l p small = omega arith
be_at_fits (suc w) l p small = omega (arith, be_at_fits w l p small, small (p + w))

-- Laying one list and then the next is laying both.
pub sets_append : (l : List ℕ) (i : ℕ) (a b : List ℕ) → sets (sets l i a) (i + length a) b ≡ sets l i (a ++ b)
sets_append l i [] b = let e : i + 0 ≡ i = add-zero i in rw e
sets_append l i (x ∷ a) b =
    let e : i + length (x ∷ a) ≡ suc i + length a = omega arith in
    rw e (sets_append (set l i x) (suc i) a b)

-- One more value at the end of what is laid.
pub sets_more : (l : List ℕ) (i : ℕ) (a : List ℕ) (x : ℕ) → set (sets l i a) (i + length a) x ≡ sets l i (a ++ (x ∷ []))
sets_more l i a x = sets_append l i a (x ∷ [])

-- Of two tests the second fails.
second_fails : {A : Type 0} (a b : Bool) (x y : A) → b ≡ false → y ≡ cond (a && b) x y
second_fails true b x y e = rw e
second_fails false b x y e = refl

-- One more byte of a number that is read, which fits 32 bits where it has at most 4 bytes.
pub read_more : (k : ℕ) (l : List ℕ) (p : ℕ) → be_at (k + 1) l p ≡ be_at k l p * 256 + get_or l (p + k) 0
unfolding be_at
read_more k l p = rw add-one

pub fits_more : (k : ℕ) {x d : ℕ} → x < 256 ^ k → d < 256 → x * 256 + d < 256 ^ (k + 1)
fits_more k fits small = rw add-one (omega arith)

pub read_room : (k x : ℕ) → k < 4 → x < 256 ^ k → x < 16777216
read_room zero x few fits = omega arith
read_room (suc zero) x few fits = omega arith
read_room (suc (suc zero)) x few fits = omega arith
read_room (suc (suc (suc zero))) x few fits = omega arith
read_room (suc (suc (suc (suc k)))) x few fits = absurd (omega arith)

-- A value stored past those that are laid can be stored first.
stored_first : (l : List ℕ) (i : ℕ) (a : List ℕ) (q x : ℕ) → i + length a ≤ q → set (sets l i a) q x ≡ sets (set l q x) i a
stored_first l i [] q x past = refl
stored_first l i (y ∷ a) q x past =
    stored_first (set l i y) (suc i) a q x (omega arith) ∙ ap (λ m. sets m (suc i) a) (set_comm l i q y x (λ e. omega arith))

-- The last byte of a number put, and then those before it.
pub put_last : (k : ℕ) (l : List ℕ) (p x : ℕ) → 0 < k → sets (set l (p + (k - 1)) (x % 256)) p (be_bytes (k - 1) (x / 256)) ≡ sets l p (be_bytes k x)
unfolding be_bytes
put_last zero l p x some = absurd (omega arith)
put_last (suc k) l p x some =
    let high : List ℕ = be_bytes k (x / 256) in
    let less : suc k - 1 ≡ k = omega arith in
    let size : p + k ≡ p + length high = omega (arith, length_be_bytes k (x / 256)) in
    rw less (sym (stored_first l p high (p + k) (x % 256) (omega arith)) ∙ rw size (sets_more l p high (x % 256)))

-- Where the bytes hold the number, and it has at most 4 bytes, it is read; it is put where they hold it; elsewhere 0 is read and nothing put.
module _ (w : ℕ) (l : List ℕ) (p : ℕ) where
  pub read_held : w ≤ 4 → p + w ≤ length l → number_at w l p ≡ be_at w l p
  unfolding number_at
  read_held few fits = rw (le-leb w 4 few, le-leb (p + w) (length l) fits)

  pub put_held : (x : ℕ) → p + w ≤ length l → number_put w l p x ≡ sets l p (be_bytes w x)
  unfolding number_put
  put_held x fits = rw (le-leb (p + w) (length l) fits)

  pub read_wide : 4 < w → 0 ≡ number_at w l p
  unfolding number_at
  read_wide wide = rw (lt-leb w 4 wide)

  pub read_none : holds w l p ≡ false → 0 ≡ number_at w l p
  unfolding number_at
  read_none out = second_fails (leb w 4) (holds w l p) (be_at w l p) 0 out

  pub put_none : (x : ℕ) → holds w l p ≡ false → l ≡ number_put w l p x
  unfolding number_put
  put_none x out = rw out

-- The place compared with what the width leaves.
pub held_within : (n p w : ℕ) → w ≤ n → leb p (n - w) ≡ leb (p + w) n
held_within n p w fits = by (dec_le p (n - w))
  where
    by : Dec (p ≤ n - w) → leb p (n - w) ≡ leb (p + w) n
    by (yes h) = rw (le-leb p (n - w) h, le-leb (p + w) n (omega arith))
    by (no h) = rw (lt-leb p (n - w) (omega arith), lt-leb (p + w) n (omega arith))

-- One more value of a part that is copied.
pub copy_more : (from : List ℕ) (at : ℕ) (l : List ℕ) (to k : ℕ) → at + k < length from
    → set (sets l to (take k (drop at from))) (to + k) (get_or from (at + k) 0) ≡ sets l to (take (k + 1) (drop at from))
copy_more from at l to k h =
    let lt : k < length (drop at from) = rw (length-drop at from) (omega arith) in
    let size : to + k ≡ to + length (take k (drop at from)) = omega (arith, length-take-le k (drop at from) (omega arith)) in
    rw (add-one, take-suc (drop at from) k 0 lt, get_or-drop at from k 0, size) (sets_more l to (take k (drop at from)) (get_or from (at + k) 0))

-- Where both slices hold the bytes they are copied, and elsewhere nothing is.
module _ (w : ℕ) (from : List ℕ) (at : ℕ) (out : List ℕ) (to : ℕ) where
  pub part_held : at + w ≤ length from → to + w ≤ length out → part_put w from at out to ≡ sets out to (take w (drop at from))
  unfolding part_put
  part_held fits room = rw (le-leb (at + w) (length from) fits, le-leb (to + w) (length out) room)

  pub part_none : holds w from at ≡ false → out ≡ part_put w from at out to
  unfolding part_put
  part_none short = rw short

  pub part_no_room : holds w out to ≡ false → out ≡ part_put w from at out to
  unfolding part_put
  part_no_room short = second_fails (holds w from at) (holds w out to) _ out short
