-- Laws of bounded sums.
use Rattle.std.specs.Prelude.{ℕ, zero, suc, min, ◌+◌, ◌*◌, ◌≤◌, ◌<◌, ◌≡◌, refl, Bool, true, false, eqb}
use Rattle.std.proofs.Common.{ap, sym, ◌∙◌, ⊎_elim, eq-eqb, ne_eqb, arith, add-one, eq-or-lt_of_le, le_of_suc-le-suc, not-suc-le-zero, le_refl}
use Rattle.std.proofs.Math.Decide.{ℕ_discrete}
use Rattle.std.proofs.Math.Nat.{le_step}
use Rattle.setchain.specs.Sums.{sum_to, only_if}

-- The tests of only_if.
pub only_if_true : (b : Bool) (x : ℕ) → b ≡ true → only_if b x ≡ x
unfolding only_if
only_if_true b x e = rw e

pub only_if_false : (b : Bool) (x : ℕ) → b ≡ false → only_if b x ≡ 0
unfolding only_if
only_if_false b x e = rw e

pub only_if_le : (b : Bool) (x : ℕ) → only_if b x ≤ x
unfolding only_if
only_if_le true x = le_refl x
only_if_le false x = omega arith

pub only_if_zero : (b : Bool) → only_if b 0 ≡ 0
unfolding only_if
only_if_zero true = refl
only_if_zero false = refl

pub only_if_mono : (b : Bool) (x y : ℕ) → x ≤ y → only_if b x ≤ only_if b y
unfolding only_if
only_if_mono true x y h = h
only_if_mono false x y h = le_refl 0

pub only_if_times : (b : Bool) (x y : ℕ) → only_if b x * y ≡ only_if b (x * y)
unfolding only_if
only_if_times true x y = refl
only_if_times false x y = omega arith

-- Equality is tested the same from either side.
pub eqb_flip : (a b : ℕ) → eqb a b ≡ eqb b a
eqb_flip a b = by (ℕ_discrete a b)
  where
    by : Dec (a ≡ b) → eqb a b ≡ eqb b a
    by (yes e) = eq-eqb a b e ∙ sym (eq-eqb b a (sym e))
    by (no d) = ne_eqb a b d ∙ sym (ne_eqb b a (λ e. d (sym e)))

-- What holds below suc n, read below n and at n.
pub below_pred : (P : ℕ → Type 0) (n : ℕ) → ((j : ℕ) → j < suc n → P j) → (j : ℕ) → j < n → P j
below_pred P n h j l = h j (le_step l)

-- A fact at each of two indices.
pub below_two : (P : ℕ → Type 0) → P 0 → P 1 → (j : ℕ) → j < 2 → P j
below_two P p q zero l = p
below_two P p q (suc zero) l = q
below_two P p q (suc (suc j)) l = absurd (omega arith)

pub sum_to_eq : (n : ℕ) (f g : ℕ → ℕ) → ((j : ℕ) → j < n → f j ≡ g j) → sum_to n f ≡ sum_to n g
unfolding sum_to
sum_to_eq zero f g h = refl
sum_to_eq (suc n) f g h = omega (arith, sum_to_eq n f g (below_pred _ n h), h n (le_refl (suc n)))

pub sum_to_le : (n : ℕ) (f g : ℕ → ℕ) → ((j : ℕ) → j < n → f j ≤ g j) → sum_to n f ≤ sum_to n g
unfolding sum_to
sum_to_le zero f g h = omega arith
sum_to_le (suc n) f g h = omega (arith, sum_to_le n f g (below_pred _ n h), h n (le_refl (suc n)))

-- Terms that are at most b each.
pub sum_to_most : (n : ℕ) (f : ℕ → ℕ) (b : ℕ) → ((j : ℕ) → j < n → f j ≤ b) → sum_to n f ≤ n * b
unfolding sum_to
sum_to_most zero f b h = omega arith
sum_to_most (suc n) f b h = omega (arith, sum_to_most n f b (below_pred _ n h), h n (le_refl (suc n)))

pub sum_to_zero : (n : ℕ) → sum_to n (λ j. 0) ≡ 0
unfolding sum_to
sum_to_zero zero = refl
sum_to_zero (suc n) = omega (arith, sum_to_zero n)

pub sum_to_add : (n : ℕ) (f g : ℕ → ℕ) → sum_to n (λ j. f j + g j) ≡ sum_to n f + sum_to n g
unfolding sum_to
sum_to_add zero f g = refl
sum_to_add (suc n) f g = omega (arith, sum_to_add n f g)

pub sum_to_scale : (n : ℕ) (f : ℕ → ℕ) (c : ℕ) → sum_to n (λ j. f j * c) ≡ sum_to n f * c
unfolding sum_to
sum_to_scale zero f c = omega arith
sum_to_scale (suc n) f c = omega (arith, sum_to_scale n f c)

-- The exchange of two sums.
pub sum_to_swap : (n m : ℕ) (f : ℕ → ℕ → ℕ) → sum_to n (λ i. sum_to m (λ j. f i j)) ≡ sum_to m (λ j. sum_to n (λ i. f i j))
unfolding sum_to
sum_to_swap zero m f = sym (sum_to_zero m)
sum_to_swap (suc n) m f =
    omega (arith, sum_to_swap n m f, sum_to_add m (λ j. sum_to n (λ i. f i j)) (λ j. f n j))

-- A loop's running total: where it begins, and one turn more.
pub total_start : (f : ℕ → ℕ) → 0 ≡ sum_to 0 f
unfolding sum_to
total_start f = refl

pub total_more : (n x y : ℕ) (f : ℕ → ℕ) → x ≡ sum_to n f → y ≡ f n → x + y ≡ sum_to (n + 1) f
unfolding sum_to
total_more n x y f e g = rw add-one (omega arith)

pub total_end : (k n x : ℕ) (f : ℕ → ℕ) → k ≡ n → x ≡ sum_to k f → x ≡ sum_to n f
total_end k n x f e h = h ∙ ap (λ m. sum_to m f) e

-- One term is at most the sum.
pub term_le : (n : ℕ) (f : ℕ → ℕ) (j : ℕ) → j < n → f j ≤ sum_to n f
unfolding sum_to
term_le zero f j h = absurd (not-suc-le-zero h)
term_le (suc n) f j h =
    ⊎_elim (λ e. rw e (omega arith)) (λ l. omega (arith, term_le n f j l)) (eq-or-lt_of_le (le_of_suc-le-suc h))

-- Terms that are 0 may be left out at the end.
pub sum_to_longer : (n m : ℕ) (f : ℕ → ℕ) → n ≤ m → ((j : ℕ) → n ≤ j → j < m → f j ≡ 0) → sum_to m f ≡ sum_to n f
unfolding sum_to
sum_to_longer n zero f l h = let e : 0 ≡ n = omega arith in ap (λ k. sum_to k f) e
sum_to_longer n (suc m) f l h =
    ⊎_elim (λ e. rw e refl)
    (λ g. omega (arith, sum_to_longer n m f (omega arith) (λ j a b. h j a (le_step b)), h m (omega arith) (le_refl (suc m))))
    (eq-or-lt_of_le l)

-- A sum in which one index alone counts.
pub sum_to_none : (n : ℕ) (f : ℕ → ℕ) (p : ℕ) → n ≤ p → sum_to n (λ j. only_if (eqb j p) (f j)) ≡ 0
unfolding sum_to
sum_to_none zero f p h = refl
sum_to_none (suc n) f p h =
    omega (arith, sum_to_none n f p (omega arith), only_if_false (eqb n p) (f n) (ne_eqb n p (λ e. omega arith)))

pub sum_to_point : (n : ℕ) (f : ℕ → ℕ) (p : ℕ) → p < n → sum_to n (λ j. only_if (eqb j p) (f j)) ≡ f p
unfolding sum_to
sum_to_point zero f p h = absurd (not-suc-le-zero h)
sum_to_point (suc n) f p h =
    ⊎_elim
    (λ e. rw e (omega (arith, sum_to_none n f n (le_refl n), only_if_true (eqb n n) (f n) (eq-eqb n n refl))))
    (λ l.
    omega
    (arith, sum_to_point n f p l, only_if_false (eqb n p) (f n) (ne_eqb n p (λ e. omega arith))))
    (eq-or-lt_of_le (le_of_suc-le-suc h))

-- One term more, and a front's sum, which is at most the whole.
pub sum_to_more : (f : ℕ → ℕ) (i : ℕ) → sum_to (i + 1) f ≡ sum_to i f + f i
unfolding sum_to
sum_to_more f i = rw add-one

pub sum_to_front : (f : ℕ → ℕ) (n i : ℕ) → i ≤ n → sum_to i f ≤ sum_to n f
unfolding sum_to
sum_to_front f zero i h = let e : i ≡ 0 = omega arith in rw e (le_refl 0)
sum_to_front f (suc n) i h =
    ⊎_elim (λ e. rw e (le_refl _)) (λ l. omega (arith, sum_to_front f n i (le_of_suc-le-suc l))) (eq-or-lt_of_le h)

-- Two functions that differ at j alone.
pub sum_to_change : (n : ℕ) (f g : ℕ → ℕ) (j : ℕ) → j < n → ((k : ℕ) → k < n → (k ≡ j → ⊥) → g k ≡ f k) → sum_to n g + f j ≡ sum_to n f + g j
unfolding sum_to
sum_to_change zero f g j l h = absurd (not-suc-le-zero l)
sum_to_change (suc n) f g j l h =
    ⊎_elim
    (λ e.
    rw e
    (omega (arith, sum_to_eq n g f (λ k kn. h k (le_step kn) (λ z. omega arith)))))
    (λ jn. omega (arith, sum_to_change n f g j jn (λ k kn. h k (le_step kn)), h n (le_refl (suc n)) (λ z. omega arith)))
    (eq-or-lt_of_le (le_of_suc-le-suc l))

-- A sum of which all terms but one are 0.
pub sum_to_only : (n : ℕ) (f : ℕ → ℕ) (j : ℕ) → j < n → ((k : ℕ) → k < n → (k ≡ j → ⊥) → f k ≡ 0) → sum_to n f ≡ f j
sum_to_only n f j l h = omega (arith, sum_to_change n (λ k. 0) f j l h, sum_to_zero n)

-- The smaller of c and a sum is at most the sum of what is smaller at each index.
pub min_sum_le : (n c : ℕ) (f : ℕ → ℕ) → min c (sum_to n f) ≤ sum_to n (λ j. min c (f j))
unfolding sum_to
min_sum_le zero c f = omega arith
min_sum_le (suc n) c f = omega (arith, min_sum_le n c f)
