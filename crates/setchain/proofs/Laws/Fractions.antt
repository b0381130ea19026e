-- Laws of fractions. Addition and multiplication are commutative and associative literally, as pairs; the rest holds multiplied out.
use Rattle.std.specs.Prelude.{ℕ, zero, suc, ◌*◌, ◌≤◌, ◌<◌, ◌≡◌, refl, Bool, true, false, cond, eqb}
use Rattle.std.proofs.Common.{ap, sym, ◌∙◌, subst, subst₂, ⊎_elim, eq-eqb, ne_eqb, arith, le_refl, le_of_eq, eq-or-lt_of_le, le_of_suc-le-suc, not-suc-le-zero, mul-le-mul_right, mul-pos, le_of_mul-le-mul_right}
use Rattle.std.proofs.Math.Path.{fun_ext}
use Rattle.std.proofs.Math.Nat.{eq_of_mul-eq-mul_right}
use Rattle.setchain.specs.Sums.{sum_to, dot}
use Rattle.setchain.specs.Fractions.{Fraction, whole, ◌⊕◌, ◌⊗◌, ◌≼◌, ◌≈◌, Proper, sum_fractions}
use Rattle.setchain.specs.Rows.{IntervalRow, Row, Inside}
use Rattle.setchain.proofs.Laws.Sums.{below_pred}

fraction : {a b c d : ℕ} → a ≡ b → c ≡ d → ◌≡◌ {A = Fraction} (record { num = a; den = c }) (record { num = b; den = d })
fraction p q = λ i. record { num = p i; den = q i }

pub add_comm : (x y : Fraction) → x ⊕ y ≡ y ⊕ x
add_comm x y = fraction (omega arith) (omega arith)

pub add_assoc : (x y z : Fraction) → x ⊕ y ⊕ z ≡ x ⊕ (y ⊕ z)
add_assoc x y z = fraction (omega arith) (omega arith)

pub mul_comm : (x y : Fraction) → x ⊗ y ≡ y ⊗ x
mul_comm x y = fraction (omega arith) (omega arith)

pub mul_assoc : (x y z : Fraction) → x ⊗ y ⊗ z ≡ x ⊗ (y ⊗ z)
mul_assoc x y z = fraction (omega arith) (omega arith)

pub zero_add : (x : Fraction) → whole 0 ⊕ x ≡ x
zero_add x = fraction (omega arith) (omega arith)

-- In a unit of 1.
pub mul_whole_one : (x : Fraction) → x ≡ x ⊗ whole 1
mul_whole_one x = fraction (omega arith) (omega arith)

-- Four summands, the middle two exchanged.
pub add_middle : (x y z w : Fraction) → (x ⊕ y) ⊕ (z ⊕ w) ≡ (x ⊕ z) ⊕ (y ⊕ w)
add_middle x y z w = fraction (omega arith) (omega arith)

pub proper_sum : (n : ℕ) (f : ℕ → Fraction) → ((k : ℕ) → k < n → Proper (f k)) → Proper (sum_fractions n f)
unfolding sum_fractions
proper_sum zero f h = le_refl 1
proper_sum (suc n) f h = mul-pos (proper_sum n f (below_pred _ n h)) (h n (le_refl (suc n)))

-- The entries of a row that lies inside are proper fractions.
pub proper_row : {n : ℕ} {r : IntervalRow} {q : Row} → Inside n r q → 1 ≤ q.over
proper_row h = omega (arith, h.positive)

pub same_trans : (x y z : Fraction) → Proper y → x ≈ y → y ≈ z → x ≈ z
same_trans x y z p e g =
    eq_of_mul-eq-mul_right y.den p (x.num * z.den) (z.num * x.den)
    (omega (arith, ap (λ v. v * z.den) e, ap (λ v. v * x.den) g))

at_most_trans : (x y z : Fraction) → Proper y → x ≼ y → y ≼ z → x ≼ z
at_most_trans x y z p h k =
    le_of_mul-le-mul_right {k = y.den} (omega (arith, mul-le-mul_right z.den h, mul-le-mul_right x.den k)) p

pub add_same : (x x' y y' : Fraction) → x ≈ x' → y ≈ y' → x ⊕ y ≈ x' ⊕ y'
add_same x x' y y' e g =
    omega (arith, ap (λ v. v * (y.den * y'.den)) e, ap (λ v. v * (x.den * x'.den)) g)

pub mul_same : (x x' y : Fraction) → x ≈ x' → x ⊗ y ≈ x' ⊗ y
mul_same x x' y e = omega (arith, ap (λ v. v * (y.num * y.den)) e)

pub mul_same_left : (x y y' : Fraction) → y ≈ y' → x ⊗ y ≈ x ⊗ y'
mul_same_left x y y' e = omega (arith, ap (λ v. v * (x.num * x.den)) e)

add_at_most : (x x' y y' : Fraction) → x ≼ x' → y ≼ y' → x ⊕ y ≼ x' ⊕ y'
add_at_most x x' y y' h k =
    omega (arith, mul-le-mul_right (y.den * y'.den) h, mul-le-mul_right (x.den * x'.den) k)

mul_at_most : (x y y' : Fraction) → y ≼ y' → x ⊗ y ≼ x ⊗ y'
mul_at_most x y y' h = omega (arith, mul-le-mul_right (x.num * x.den) h)

pub distribute : (x y z : Fraction) → x ⊗ (y ⊕ z) ≈ x ⊗ y ⊕ x ⊗ z
distribute x y z = omega arith

pub sum_eq : (n : ℕ) (f g : ℕ → Fraction) → ((k : ℕ) → f k ≡ g k) → sum_fractions n f ≡ sum_fractions n g
sum_eq n f g h = ap (sum_fractions n) (fun_ext h)

pub sum_same : (n : ℕ) (f g : ℕ → Fraction) → ((k : ℕ) → k < n → f k ≈ g k) → sum_fractions n f ≈ sum_fractions n g
unfolding sum_fractions
sum_same zero f g h = refl
sum_same (suc n) f g h =
    add_same (sum_fractions n f) (sum_fractions n g) (f n) (g n) (sum_same n f g (below_pred _ n h)) (h n (le_refl (suc n)))

sum_at_most : (n : ℕ) (f g : ℕ → Fraction) → ((k : ℕ) → k < n → f k ≼ g k) → sum_fractions n f ≼ sum_fractions n g
unfolding sum_fractions
sum_at_most zero f g h = le_refl 0
sum_at_most (suc n) f g h =
    add_at_most (sum_fractions n f) (sum_fractions n g) (f n) (g n) (sum_at_most n f g (below_pred _ n h)) (h n (le_refl (suc n)))

-- x is a lower bound of y, or, for a high figure, an upper bound.
abbrev pub BoundOf : (high : Bool) → Fraction → Fraction → Type 0
BoundOf false x y = x ≼ y
BoundOf true x y = y ≼ x

pub bound_trans : (high : Bool) (x y z : Fraction) → Proper y → BoundOf high x y → BoundOf high y z → BoundOf high x z
bound_trans false x y z p h k = at_most_trans x y z p h k
bound_trans true x y z p h k = at_most_trans z y x p k h

pub bound_same : (high : Bool) (x y : Fraction) → x ≈ y → BoundOf high x y
bound_same false x y e = le_of_eq e
bound_same true x y e = le_of_eq (sym e)

pub bound_mul : (high : Bool) (x y y' : Fraction) → BoundOf high y y' → BoundOf high (x ⊗ y) (x ⊗ y')
bound_mul false x y y' h = mul_at_most x y y' h
bound_mul true x y y' h = mul_at_most x y' y h

pub bound_sum : (high : Bool) (n : ℕ) (f g : ℕ → Fraction) → ((k : ℕ) → k < n → BoundOf high (f k) (g k)) → BoundOf high (sum_fractions n f) (sum_fractions n g)
bound_sum false n f g h = sum_at_most n f g h
bound_sum true n f g h = sum_at_most n g f h

pub sum_zero : (n : ℕ) → sum_fractions n (λ k. whole 0) ≡ whole 0
unfolding sum_fractions
sum_zero zero = refl
sum_zero (suc n) = ap (λ s. s ⊕ whole 0) (sum_zero n)

-- A sum in which one index alone counts.
sum_none : (n : ℕ) (f : ℕ → Fraction) (i : ℕ) → n ≤ i → sum_fractions n (λ k. cond (eqb k i) (f k) (whole 0)) ≡ whole 0
unfolding sum_fractions
sum_none zero f i h = refl
sum_none (suc n) f i h =
    ap (λ s. s ⊕ cond (eqb n i) (f n) (whole 0)) (sum_none n f i (omega arith))
    ∙ ap (λ b. whole 0 ⊕ cond b (f n) (whole 0)) (ne_eqb n i (λ e. omega arith))

pub sum_point : (n : ℕ) (f : ℕ → Fraction) (i : ℕ) → i < n → sum_fractions n (λ k. cond (eqb k i) (f k) (whole 0)) ≡ f i
unfolding sum_fractions
sum_point zero f i h = absurd (not-suc-le-zero h)
sum_point (suc n) f i h =
    ⊎_elim
    (λ e.
    ap (λ s. s ⊕ own) (sum_none n f i (omega arith)) ∙ ap (λ b. whole 0 ⊕ cond b (f n) (whole 0)) (eq-eqb n i (sym e)) ∙ zero_add (f n) ∙ ap f (sym e))
    (λ l.
    ap (λ s. s ⊕ own) (sum_point n f i l) ∙ ap (λ b. f i ⊕ cond b (f n) (whole 0)) (ne_eqb n i (λ e. omega arith)) ∙ add_comm (f i) (whole 0) ∙ zero_add (f i))
    (eq-or-lt_of_le (le_of_suc-le-suc h))
  where
    own : Fraction
    own = cond (eqb n i) (f n) (whole 0)

pub sum_add : (n : ℕ) (f g : ℕ → Fraction) → sum_fractions n (λ k. f k ⊕ g k) ≡ sum_fractions n f ⊕ sum_fractions n g
unfolding sum_fractions
sum_add zero f g = refl
sum_add (suc n) f g =
    ap (λ s. s ⊕ (f n ⊕ g n)) (sum_add n f g) ∙ add_middle (sum_fractions n f) (sum_fractions n g) (f n) (g n)

-- The exchange of two sums.
pub sum_swap : (n m : ℕ) (f : ℕ → ℕ → Fraction)
    → sum_fractions n (λ i. sum_fractions m (λ j. f i j)) ≡ sum_fractions m (λ j. sum_fractions n (λ i. f i j))
unfolding sum_fractions
sum_swap zero m f = sym (sum_zero m)
sum_swap (suc n) m f =
    ap (λ s. s ⊕ sum_fractions m (f n)) (sum_swap n m f) ∙ sym (sum_add m (λ j. sum_fractions n (λ i. f i j)) (f n))

-- The first term taken out in front.
pub sum_first : (n : ℕ) (f : ℕ → Fraction) → sum_fractions (suc n) f ≡ f 0 ⊕ sum_fractions n (λ k. f (suc k))
unfolding sum_fractions
sum_first zero f = add_comm (whole 0) (f 0)
sum_first (suc n) f =
    ap (λ s. s ⊕ f (suc n)) (sum_first n f) ∙ add_assoc (f 0) (sum_fractions n (λ k. f (suc k))) (f (suc n))

pub sum_scale : (n : ℕ) (x : Fraction) (f : ℕ → Fraction) → Proper x → ((k : ℕ) → k < n → Proper (f k))
    → x ⊗ sum_fractions n f ≈ sum_fractions n (λ k. x ⊗ f k)
unfolding sum_fractions
sum_scale zero x f p h = omega arith
sum_scale (suc n) x f p h =
    same_trans (x ⊗ (sum_fractions n f ⊕ f n)) (x ⊗ sum_fractions n f ⊕ x ⊗ f n) (sum_fractions n (λ k. x ⊗ f k) ⊕ x ⊗ f n)
    (mul-pos (mul-pos p (proper_sum n f (below_pred _ n h))) (mul-pos p (h n (le_refl (suc n)))))
    (distribute x (sum_fractions n f) (f n))
    (add_same (x ⊗ sum_fractions n f) (sum_fractions n (λ k. x ⊗ f k)) (x ⊗ f n) (x ⊗ f n)
    (sum_scale n x f p (below_pred _ n h)) refl)

-- The common factor on the other side.
pub sum_scale_right : (n : ℕ) (f : ℕ → Fraction) (y : Fraction) → Proper y → ((k : ℕ) → k < n → Proper (f k))
    → sum_fractions n f ⊗ y ≈ sum_fractions n (λ k. f k ⊗ y)
sum_scale_right n f y p h =
    subst₂ (λ a b. a ≈ b) (mul_comm y (sum_fractions n f)) (sum_eq n (λ k. y ⊗ f k) (λ k. f k ⊗ y) (λ k. mul_comm y (f k))) (sum_scale n y f p h)

-- Values y weighed by e: a common factor goes inside.
pub weigh_right : (n : ℕ) (e y : ℕ → Fraction) (w : Fraction) → Proper w → ((k : ℕ) → k < n → Proper (e k)) → ((k : ℕ) → k < n → Proper (y k))
    → sum_fractions n (λ k. e k ⊗ y k) ⊗ w ≈ sum_fractions n (λ k. e k ⊗ (y k ⊗ w))
weigh_right n e y w p he hy =
    subst (λ s. sum_fractions n (λ k. e k ⊗ y k) ⊗ w ≈ s)
    (sum_eq n (λ k. e k ⊗ y k ⊗ w) (λ k. e k ⊗ (y k ⊗ w)) (λ k. mul_assoc (e k) (y k) w))
    (sum_scale_right n (λ k. e k ⊗ y k) w p (λ k l. mul-pos (he k l) (hy k l)))

-- The sum of m weighed values is the weighed sum.
pub weigh_sum : (n m : ℕ) (e : ℕ → Fraction) (x : ℕ → ℕ → Fraction) → ((k : ℕ) → k < n → Proper (e k)) → ((k j : ℕ) → k < n → j < m → Proper (x k j))
    → sum_fractions m (λ j. sum_fractions n (λ k. e k ⊗ x k j)) ≈ sum_fractions n (λ k. e k ⊗ sum_fractions m (x k))
weigh_sum n m e x he hx =
    subst (λ s. s ≈ sum_fractions n (λ k. e k ⊗ sum_fractions m (x k))) (sum_swap n m (λ k j. e k ⊗ x k j))
    (sum_same n (λ k. sum_fractions m (λ j. e k ⊗ x k j)) (λ k. e k ⊗ sum_fractions m (x k))
    (λ k l. sym (sum_scale m (e k) (x k) (he k l) (λ j g. hx k j l g))))

-- A sum of whole numbers.
pub sum_whole : (n : ℕ) (f : ℕ → ℕ) → sum_fractions n (λ k. whole (f k)) ≡ whole (sum_to n f)
unfolding sum_fractions sum_to
sum_whole zero f = refl
sum_whole (suc n) f = ap (λ s. s ⊕ whole (f n)) (sum_whole n f) ∙ fraction (omega arith) refl

-- Whole numbers weighed by the entries of one row over m: their dot product over m.
pub sum_weighed : (n m : ℕ) (e c : ℕ → ℕ)
    → sum_fractions n (λ k. record { num = e k; den = m } ⊗ whole (c k)) ≈ record { num = dot n e c; den = m }
unfolding sum_fractions sum_to
sum_weighed zero m e c = omega arith
sum_weighed (suc n) m e c = omega (arith, ap (λ v. v * m) (sum_weighed n m e c))
