-- Laws of the ready schemes' definitions.
use Rattle.std.specs.Prelude.{ℕ, zero, suc, ◌+◌, ◌*◌, ◌/◌, ◌%◌, ◌≤◌, ◌<◌, ◌≡◌, Bool, true, false, cond, ◌&&◌, List, [], ◌∷◌, T, eqb, leb, get_or}
use Rattle.std.proofs.Common.{leb→le, arith, mul-le-mul, eq-eqb, ne_eqb, lt-ltb, le-ltb}
use Rattle.std.proofs.Math.Decide.{ℕ_discrete, dec_lt}
use Rattle.scheme.specs.Access.{CELL_STRIDE}
use Rattle.ready_spec.specs.Scales.{chosen, classes_of, factor_of, tenths_of, scale1, scale2, scale3}
use Rattle.ready_spec.specs.Moves.{Movable}
use Rattle.ready_spec.specs.Ready.{ready_scheme}
use Rattle.scheme.specs.Stored.{no_scheme}
use Rattle.ready_spec.specs.Answer.{Offered, ready_cause, ready_answer}

-- What holds of both cases holds of the one picked.
pub cond_all {ℓ} : {A : Type ℓ} (P : A → Type 0) (b : Bool) (x y : A) → P x → P y → P (cond b x y)
cond_all P true x y px py = px
cond_all P false x y px py = py

-- What holds of all three holds of the one chosen.
pub chosen_all {ℓ} : {A : Type ℓ} (P : A → Type 0) (number : ℕ) (a b c : A) → P a → P b → P c → P (chosen number a b c)
chosen_all P number a b c pa pb pc =
    cond_all P (eqb number 1) a (cond (eqb number 2) b c) pa (cond_all P (eqb number 2) b c pb pc)

module _ {ℓ} {A : Type ℓ} (number : ℕ) (a b c : A) where
  pub chosen_first : number ≡ 1 → chosen number a b c ≡ a
  chosen_first e = rw (eq-eqb number 1 e)

  pub chosen_second : (number ≡ 1 → ⊥) → number ≡ 2 → chosen number a b c ≡ b
  chosen_second d e = rw (ne_eqb number 1 d, eq-eqb number 2 e)

  pub chosen_third : (number ≡ 1 → ⊥) → (number ≡ 2 → ⊥) → chosen number a b c ≡ c
  chosen_third d e = rw (ne_eqb number 1 d, ne_eqb number 2 e)

-- The ready schemes' sizes.
pub classes_most : (number : ℕ) → classes_of number ≤ 24
classes_most number = chosen_all (λ n. n ≤ 24) number 18 18 24 (omega arith) (omega arith) (omega arith)

pub classes_least : (number : ℕ) → 18 ≤ classes_of number
classes_least number = chosen_all (λ n. 18 ≤ n) number 18 18 24 (omega arith) (omega arith) (omega arith)

pub factor_most : (number : ℕ) → factor_of number ≤ 4
factor_most number = chosen_all (λ n. n ≤ 4) number 3 4 4 (omega arith) (omega arith) (omega arith)

pub factor_least : (number : ℕ) → 3 ≤ factor_of number
factor_least number = chosen_all (λ n. 3 ≤ n) number 3 4 4 (omega arith) (omega arith) (omega arith)

-- No entry of the list is above the bound, as a test.
abbrev all_up_to : ℕ → List ℕ → Bool
all_up_to bound [] = true
all_up_to bound (x ∷ xs) = leb x bound && all_up_to bound xs

&&-T : (a b : Bool) → T (a && b) → T a × T b
&&-T true b t = (tt, t)
&&-T false b t = absurd t

all_up_to_lem : (bound : ℕ) (xs : List ℕ) → T (all_up_to bound xs) → (i : ℕ) → get_or xs i 0 ≤ bound
all_up_to_lem bound [] t i = omega arith
all_up_to_lem bound (x ∷ xs) t zero = leb→le x bound (&&-T (leb x bound) (all_up_to bound xs) t).0
all_up_to_lem bound (x ∷ xs) t (suc i) = all_up_to_lem bound xs (&&-T (leb x bound) (all_up_to bound xs) t).1 i

-- The largest of the tenths.
pub tenths_most : (number i : ℕ) → tenths_of number i ≤ 3953
unfolding scale1 scale2 scale3
tenths_most number i =
    chosen_all (λ l. get_or l i 0 ≤ 3953) number scale1 scale2 scale3
    (all_up_to_lem 3953 scale1 tt i) (all_up_to_lem 3953 scale2 tt i) (all_up_to_lem 3953 scale3 tt i)

-- A base in range times its tenths.
pub product_most : (number base i : ℕ) → base ≤ 2500000 → base * tenths_of number i ≤ 9882500000
product_most number base i h = omega (arith, mul-le-mul h (tenths_most number i))

-- A factor times a number of claims.
pub raise_most : (c k : ℕ) → c ≤ 4 → k ≤ 4 → c * k ≤ 16
raise_most c k h l = omega (arith, mul-le-mul h l)

pub raise_least : (c k : ℕ) → 1 ≤ c → 1 ≤ k → 1 ≤ c * k
raise_least c k h l = omega (arith, mul-le-mul h l)

-- What the code's move asks, at a place of the rules.
pub movable : (number place s c : ℕ) → s ≡ classes_of number → c ≡ factor_of number → place / CELL_STRIDE < s → place % CELL_STRIDE < 5
    → Movable s c (place / CELL_STRIDE + 1) (place % CELL_STRIDE)
movable number place s c e f h k =
    record {
      some_class = omega arith;
      classes = omega (arith, classes_most number);
      some_factor = omega (arith, factor_least number);
      factor = omega (arith, factor_most number);
      positive = omega arith;
      within = omega arith;
      claims = omega arith;
    }

-- No cause: the ready scheme is offered.
module _ (number base : ℕ) (e : ready_cause number base ≡ 0) where
  not_zero : Dec (number ≡ 0) → 1 ≤ number
  not_zero (yes z) = let f : ◌≡◌ {A = ℕ} 14 0 = rw (eq-eqb number 0 z) at e in omega arith
  not_zero (no d) = omega arith

  not_above_lem : 1 ≤ number → Dec (3 < number) → number ≤ 3
  not_above_lem p (yes h) =
      let z : number ≡ 0 → ⊥ = λ q. omega arith in
      let f : ◌≡◌ {A = ℕ} 14 0 = simp (ne_eqb number 0 z, lt-ltb 3 number h) at e
      in omega arith
  not_above_lem p (no d) = omega arith

  not_dear : 1 ≤ number → number ≤ 3 → Dec (2500000 < base) → base ≤ 2500000
  not_dear p w (yes h) =
      let z : number ≡ 0 → ⊥ = λ q. omega arith in
      let f : ◌≡◌ {A = ℕ} 15 0 = simp (ne_eqb number 0 z, le-ltb 3 number w, lt-ltb 2500000 base h) at e
      in omega arith
  not_dear p w (no d) = omega arith

  pub offered : Offered number base
  offered =
      let p = not_zero (ℕ_discrete number 0) in
      let w = not_above_lem p (dec_lt 3 number)
      in record { positive = p; within = w; small = not_dear p w (dec_lt 2500000 base) }

-- The answer's two cases.
pub answer_made : (number base : ℕ) → ready_cause number base ≡ 0 → ready_answer number base ≡ record { number = 0; scheme = ready_scheme number base }
unfolding ready_answer
answer_made number base e = rw e

pub answer_declined : (number base : ℕ) → (ready_cause number base ≡ 0 → ⊥)
    → ready_answer number base ≡ record { number = ready_cause number base; scheme = no_scheme }
unfolding ready_answer
answer_declined number base d = rw (ne_eqb (ready_cause number base) 0 d)
