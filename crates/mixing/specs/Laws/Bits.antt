-- Laws of bits.
use Rattle.std.specs.Prelude.{ℕ, zero, suc, max, ◌+◌, ◌-◌, ◌*◌, ◌/◌, ◌%◌, ◌^◌, ◌≤◌, ◌<◌, ◌≡◌, refl, Bool, true, false, ◌||◌, ◌&&◌, List, length, take, eqb}
use Rattle.std.proofs.Common.{ap, ap₂, sym, ◌∙◌, arith, add-one, pow-suc, le_of_eq, eq-or-lt_of_le, ⊎_elim, pow_pos, shr-shr, shl_exact, get_or-take, length-take-le, eqb-true, eq-eqb}
use Rattle.std.proofs.Math.Arith.{digits_lt, digits_div, digits_mod}
use Rattle.std.proofs.Math.Pow.{pow-lt}
use Rattle.std.specs.Int.Bits.{bit_or, or_step}
use Rattle.setchain.specs.Sums.{at, only_if}
use Rattle.setchain.specs.Tests.{any_below, all_below}
use Rattle.setchain.proofs.Laws.Tests.{all_hit, all_true, both_ways}
use Rattle.mixing.specs.Bits.{digit, bits_of, all_bits, has_bit, union_of}

pub digit_small : (b : Bool) → digit b < 2
digit_small true = omega arith
digit_small false = omega arith

-- n bits make a number below 2 ^ n.
pub bits_small : (n : ℕ) (test : ℕ → Bool) → bits_of n test < 2 ^ n
unfolding bits_of
bits_small zero test = omega arith
bits_small (suc n) test = rw (pow-suc 2 n) (digits_lt (bits_small n (λ k. test (suc k))) (digit_small (test 0)))

-- A smaller power of 2.
pub pow_most : (k m : ℕ) → k ≤ m → 2 ^ k ≤ 2 ^ m
pow_most k m l = ⊎_elim (λ e. le_of_eq (ap (λ x. 2 ^ x) e)) (λ g. omega (arith, pow-lt g)) (eq-or-lt_of_le l)

-- Tests that agree below n have the same bits.
pub bits_eq : (n : ℕ) (test test' : ℕ → Bool) → ((k : ℕ) → k < n → test k ≡ test' k) → bits_of n test ≡ bits_of n test'
unfolding bits_of
bits_eq zero test test' h = refl
bits_eq (suc n) test test' h =
    ap₂ (λ x b. x * 2 + digit b) (bits_eq n (λ k. test (suc k)) (λ k. test' (suc k)) (λ k l. h (suc k) (omega arith))) (h 0 (omega arith))

-- The lowest digit, and the number without it.
lowest : (x : ℕ) (b : Bool) → (x * 2 + digit b) / 1 % 2 ≡ digit b
lowest x true = omega arith
lowest x false = omega arith

digit_is : (b : Bool) → eqb (digit b) 1 ≡ b
digit_is true = refl
digit_is false = refl

higher : (x k : ℕ) (b : Bool) → (x * 2 + digit b) / 2 ^ suc k ≡ x / 2 ^ k
higher x k b =
    let shift : 1 + k ≡ suc k = omega arith in
    ap (λ j. (x * 2 + digit b) / 2 ^ j) (sym shift) ∙ sym (shr-shr (x * 2 + digit b) 1 k) ∙ ap (λ y. y / 2 ^ k) (digits_div x (digit_small b))

-- Bits from the highest down: before the first, and one more, which fits 32 bits.
pub bits_start : (n : ℕ) (test : ℕ → Bool) → 0 ≡ bits_of (n - n) test
unfolding bits_of
bits_start n test = let e : n - n ≡ 0 = omega arith in rw e refl

pub bits_more : (n j x y : ℕ) (test : ℕ → Bool) → 1 ≤ j → j ≤ n
    → x ≡ bits_of (n - j) (λ k. test (j + k)) → y ≡ digit (test (j - 1)) → x * 2 + y ≡ bits_of (n - (j - 1)) (λ k. test (j - 1 + k))
unfolding bits_of
bits_more n j x y test low high e d =
    let more : suc (n - j) ≡ n - (j - 1) = omega arith in
    ap₂ (λ a b. a * 2 + b)
    (e ∙ bits_eq (n - j) (λ k. test (j + k)) (λ k. test (j - 1 + suc k)) (λ k l. ap test (next k)))
    (d ∙ ap (λ i. digit (test i)) first)
    ∙ ap (λ m. bits_of m (λ k. test (j - 1 + k))) more
  where
    first : j - 1 ≡ j - 1 + 0
    first = omega arith

    next : (k : ℕ) → j + k ≡ j - 1 + suc k
    next k = omega arith

pub bits_end : (n j x : ℕ) (test : ℕ → Bool) → j ≡ 0 → x ≡ bits_of (n - j) (λ k. test (j + k)) → x ≡ bits_of n test
bits_end n j x test z e =
    let all : n - j ≡ n = omega arith in
    e ∙ ap (λ m. bits_of m (λ k. test (j + k))) all ∙ bits_eq n (λ k. test (j + k)) test (λ k l. ap test (same k))
  where
    same : (k : ℕ) → j + k ≡ k
    same k = omega arith

pub bits_fit : (n j x : ℕ) (test : ℕ → Bool) → n ≤ 32 → 1 ≤ j → j ≤ n → x ≡ bits_of (n - j) test → x < 2147483648
bits_fit n j x test few low high e = omega (arith, e, bits_small (n - j) test, pow_most (n - j) 31 (omega arith))

-- Bit k of the number is the test at k.
pub bit_of : (n : ℕ) (test : ℕ → Bool) (k : ℕ) → k < n → has_bit (bits_of n test) k ≡ test k
unfolding bits_of
bit_of zero test k l = absurd (omega arith)
bit_of (suc n) test zero l = ap (λ d. eqb d 1) (lowest (bits_of n (λ k. test (suc k))) (test 0)) ∙ digit_is (test 0)
bit_of (suc n) test (suc k) l =
    ap (λ x. eqb (x % 2) 1) (higher (bits_of n (λ k. test (suc k))) k (test 0)) ∙ bit_of n (λ k. test (suc k)) k (omega arith)

-- No bit.
pub bits_none : (n : ℕ) → 0 ≡ bits_of n (λ k. false)
unfolding bits_of
bits_none zero = refl
bits_none (suc n) = omega (arith, bits_none n)

-- Two sets together.
digit_or : (b b' : Bool) → max (digit b) (digit b') ≡ digit (b || b')
digit_or true true = refl
digit_or true false = refl
digit_or false true = refl
digit_or false false = refl

pub bits_or : (n : ℕ) (test test' : ℕ → Bool) → bit_or (bits_of n test) (bits_of n test') ≡ bits_of n (λ k. test k || test' k)
unfolding bits_of
bits_or zero test test' = refl
bits_or (suc n) test test' =
    let x = bits_of n (λ k. test (suc k)) in
    let x' = bits_of n (λ k. test' (suc k)) in
    or_step (x * 2 + digit (test 0)) (x' * 2 + digit (test' 0))
    ∙ ap₂ (λ y z. y * 2 + z)
    (ap₂ bit_or (digits_div x (digit_small (test 0))) (digits_div x' (digit_small (test' 0))) ∙ bits_or n (λ k. test (suc k)) (λ k. test' (suc k)))
    (ap₂ max (digits_mod x (digit_small (test 0))) (digits_mod x' (digit_small (test' 0))) ∙ digit_or (test 0) (test' 0))

-- Every bit: 2 ^ n less 1.
pub bits_all : (n : ℕ) → 2 ^ n - 1 ≡ all_bits n
unfolding bits_of
bits_all zero = refl
bits_all (suc n) = omega (arith, pow-suc 2 n, pow_pos n, bits_all n)

-- 1 moved up by n places, n at most 32, is 2 ^ n also in 64 bits.
pub one_shifted : (n : ℕ) → n ≤ 32 → (1 * 2 ^ n) % 18446744073709551616 ≡ 2 ^ n
one_shifted n few = shl_exact {a = 1} 1 n 64 (omega arith) (omega arith) ∙ omega arith

-- A row has every bit where the relation holds everywhere.
pub bits_full : (n : ℕ) (test : ℕ → Bool) → eqb (bits_of n test) (all_bits n) ≡ all_below n test
bits_full n test =
    both_ways
    (λ e. all_hit n test (λ k l. sym (bit_of n test k l) ∙ ap (λ x. has_bit x k) (eqb-true (bits_of n test) (all_bits n) e) ∙ bit_of n (λ k. true) k l))
    (λ e. eq-eqb (bits_of n test) (all_bits n) (bits_eq n test (λ k. true) (all_true n test e)))

-- A union with one row more.
pub union_none : (set : ℕ) (rows : ℕ → ℕ) → 0 ≡ union_of 0 set rows
unfolding union_of
union_none set rows = refl

pub union_more : (n set out row : ℕ) (rows : ℕ → ℕ) → out ≡ union_of n set rows → row ≡ only_if (has_bit set n) (rows n) → bit_or out row ≡ union_of (n + 1) set rows
unfolding union_of
union_more n set out row rows e h = rw add-one (ap₂ bit_or e h)

-- The union of the rows of a set: what a matrix holds of some class of the set.
pub union_holds : (m n : ℕ) (set : ℕ) (rows : ℕ → ℕ) (chosen : ℕ → Bool) (related : ℕ → ℕ → Bool)
    → ((k : ℕ) → k < m → has_bit set k ≡ chosen k) → ((k : ℕ) → k < m → rows k ≡ bits_of n (related k))
    → union_of m set rows ≡ bits_of n (λ j. any_below m (λ k. chosen k && related k j))
unfolding union_of any_below only_if
union_holds zero n set rows chosen related h g = bits_none n
union_holds (suc m) n set rows chosen related h g =
    ap₂ bit_or
    (union_holds m n set rows chosen related (λ k l. h k (omega arith)) (λ k l. g k (omega arith)))
    (row (has_bit set m) (h m (omega arith)))
    ∙ bits_or n (λ j. any_below m (λ k. chosen k && related k j)) (λ j. chosen m && related m j)
  where
    chosen_row : (b : Bool) → only_if b (bits_of n (related m)) ≡ bits_of n (λ j. b && related m j)
    chosen_row true = refl
    chosen_row false = bits_none n

    row : (b : Bool) → b ≡ chosen m → only_if b (rows m) ≡ bits_of n (λ j. chosen m && related m j)
    row b e = ap₂ only_if e (g m (omega arith)) ∙ chosen_row (chosen m)

-- Rows that agree below n, and the front of a list of rows.
union_eq : (n set : ℕ) (rows rows' : ℕ → ℕ) → ((k : ℕ) → k < n → rows k ≡ rows' k) → union_of n set rows ≡ union_of n set rows'
unfolding union_of
union_eq zero set rows rows' h = refl
union_eq (suc n) set rows rows' h = ap₂ (λ x y. bit_or x (only_if (has_bit set n) y)) (union_eq n set rows rows' (λ k l. h k (omega arith))) (h n (omega arith))

pub union_front : (n set : ℕ) (rows : List ℕ) → n ≤ length rows → union_of (length (take n rows)) set (at (take n rows)) ≡ union_of n set (at rows)
union_front n set rows l =
    ap (λ m. union_of m set (at (take n rows))) (length-take-le n rows l) ∙ union_eq n set (at (take n rows)) (at rows) (λ k g. get_or-take n rows k 0 g)
