-- Laws of a test over all indices below a count, and of the first number that passes a test.
use Rattle.std.specs.Prelude.{ℕ, zero, suc, ◌+◌, ◌-◌, ◌≤◌, ◌<◌, ◌≡◌, refl, ◌⊎◌, Bool, true, false, not, cond, ◌||◌, ◌&&◌, T, eqb}
use Rattle.std.proofs.Common.{ap, ap₂, sym, ◌∙◌, inl, inr, ⊎_elim, true≢false, ne_eqb, add-one, arith, le_refl, eq-or-lt_of_le, le_of_suc-le-suc, not-suc-le-zero}
use Rattle.std.proofs.Math.Bool.{or-true, or-false as or-none}
use Rattle.std.proofs.lemmas.Bool.{false≢true, not-true, not-false}
use Rattle.std.proofs.Math.Decide.{dec_lt}
use Rattle.std.proofs.Math.Nat.{le_step}
use Rattle.setchain.specs.Tests.{any_below, all_below, first_from}

pub or_false_left : (a b : Bool) → (a || b) ≡ false → a ≡ false
or_false_left true b e = e
or_false_left false b e = refl

pub or_false_right : (a b : Bool) → (a || b) ≡ false → b ≡ false
or_false_right true true e = e
or_false_right true false e = refl
or_false_right false b e = e

pub or_false : {a b : Bool} → a ≡ false → b ≡ false → (a || b) ≡ false
or_false {a} {b} p q = ap (λ x. x || b) p ∙ q

-- One of two tests passes.
pub or_either : (a b : Bool) → (a || b) ≡ true → (a ≡ true) ⊎ (b ≡ true)
or_either true b e = inl refl
or_either false b e = inr e

-- Both of two tests pass.
pub both_pass : (a b : Bool) → T (a && b) → T a × T b
both_pass true b t = (tt, t)
both_pass false b t = absurd t

pub any_none : (test : ℕ → Bool) → any_below 0 test ≡ false
unfolding any_below
any_none test = refl

-- It fails below n and at n.
pub any_more : (n : ℕ) (test : ℕ → Bool) → any_below n test ≡ false → test n ≡ false → any_below (n + 1) test ≡ false
unfolding any_below
any_more n test e h = rw add-one (ap (λ b. b || test n) e ∙ h)

-- All of them have been tried.
pub any_end : (k n : ℕ) (test : ℕ → Bool) → k ≡ n → any_below k test ≡ false → false ≡ any_below n test
any_end k n test e h = sym (ap (λ x. any_below x test) (sym e) ∙ h)

-- It passes at k.
pub any_hit : (n k : ℕ) (test : ℕ → Bool) → k < n → test k ≡ true → any_below n test ≡ true
unfolding any_below
any_hit zero k test l h = absurd (not-suc-le-zero l)
any_hit (suc n) k test l h =
    ⊎_elim (λ e. ap (λ b. any_below n test || b) (ap test (sym e) ∙ h) ∙ or-true (any_below n test))
    (λ g. ap (λ b. b || test n) (any_hit n k test g h))
    (eq-or-lt_of_le (le_of_suc-le-suc l))

-- It passes nowhere.
pub any_clear : (n : ℕ) (test : ℕ → Bool) → ((k : ℕ) → k < n → test k ≡ false) → any_below n test ≡ false
unfolding any_below
any_clear zero test h = refl
any_clear (suc n) test h = ap (λ b. b || test n) (any_clear n test (λ k l. h k (le_step l))) ∙ h n (le_refl (suc n))

pub any_false : (n : ℕ) (test : ℕ → Bool) → any_below n test ≡ false → (k : ℕ) → k < n → test k ≡ false
unfolding any_below
any_false zero test e k l = absurd (not-suc-le-zero l)
any_false (suc n) test e k l =
    ⊎_elim (λ i. ap test i ∙ or_false_right (any_below n test) (test n) e)
    (λ g. any_false n test (or_false_left (any_below n test) (test n) e) k g)
    (eq-or-lt_of_le (le_of_suc-le-suc l))

-- A test that does not look at the index.
pub any_same : (n : ℕ) (b : Bool) → 0 < n → any_below n (λ k. b) ≡ b
any_same n true l = any_hit n 0 (λ k. true) l refl
any_same n false l = any_clear n (λ k. false) (λ k g. refl)

-- Tests that agree below the count.
below_same : (n : ℕ) (test test' : ℕ → Bool) → ((k : ℕ) → k < n → test k ≡ test' k) → any_below n test ≡ any_below n test'
unfolding any_below
below_same zero test test' h = refl
below_same (suc n) test test' h = ap₂ ◌||◌ (below_same n test test' (λ k l. h k (le_step l))) (h n (le_refl (suc n)))

pub any_eq : {n n' : ℕ} → n ≡ n' → (test test' : ℕ → Bool) → ((k : ℕ) → k < n → test k ≡ test' k) → any_below n test ≡ any_below n' test'
any_eq {n} e test test' h = below_same n test test' h ∙ ap (λ x. any_below x test') e

-- An index at which a test passes.
pub record PassesAt (n : ℕ) (test : ℕ → Bool) : Type 0 where
  pub index : ℕ
  pub below : index < n
  pub passed : test index ≡ true

pub any_found : (n : ℕ) (test : ℕ → Bool) → any_below n test ≡ true → PassesAt n test
unfolding any_below
any_found zero test e = absurd (false≢true e)
any_found (suc n) test e = by (any_found n test) (test n) refl
  where
    by : (any_below n test ≡ true → PassesAt n test) → (b : Bool) → test n ≡ b → PassesAt (suc n) test
    by front true h = record { index = n; below = le_refl (suc n); passed = h }
    by front false h =
        let w = front (sym (or-none (any_below n test)) ∙ ap (λ b. any_below n test || b) (sym h) ∙ e) in
        record { index = w.index; below = le_step w.below; passed = w.passed }

-- Every index passes.
pub all_hit : (n : ℕ) (test : ℕ → Bool) → ((k : ℕ) → k < n → test k ≡ true) → all_below n test ≡ true
all_hit n test h = ap not (any_clear n (λ k. not (test k)) (λ k l. ap not (h k l)))

pub all_true : (n : ℕ) (test : ℕ → Bool) → all_below n test ≡ true → (k : ℕ) → k < n → test k ≡ true
all_true n test e k l = not-false (test k) (any_false n (λ k. not (test k)) (not-true _ e) k l)

-- None of them has failed.
pub all_end : (k n : ℕ) (test : ℕ → Bool) → k ≡ n → any_below k (λ j. not (test j)) ≡ false → true ≡ all_below n test
all_end k n test e h = ap not (any_end k n (λ j. not (test j)) e h)

-- Some index fails.
pub all_miss : (n k : ℕ) (test : ℕ → Bool) → k < n → test k ≡ false → all_below n test ≡ false
all_miss n k test l h = ap not (any_hit n k (λ k. not (test k)) l (ap not h))

-- Tests that agree below the count.
pub all_eq : (n : ℕ) (test test' : ℕ → Bool) → ((k : ℕ) → k < n → test k ≡ test' k) → all_below n test ≡ all_below n test'
all_eq n test test' h = ap not (below_same n (λ k. not (test k)) (λ k. not (test' k)) (λ k l. ap not (h k l)))

-- Two tests that pass together are one.
pub both_ways : {a b : Bool} → (a ≡ true → b ≡ true) → (b ≡ true → a ≡ true) → a ≡ b
both_ways {a = true} {b} f g = sym (f refl)
both_ways {a = false} {b = true} f g = g refl
both_ways {a = false} {b = false} f g = refl

-- The first number that passes: one of those that are tried, and no earlier one passes.
pub record FirstPassing (many from : ℕ) (test : ℕ → Bool) (first : ℕ) : Type 0 where
  pub low : from ≤ first
  pub high : first < from + many
  pub passed : test first ≡ true
  pub before : (k : ℕ) → from ≤ k → k < first → test k ≡ false

-- It is what the definition finds.
pub first_is : {many from first : ℕ} {test : ℕ → Bool} → FirstPassing many from test first → first_from many from test ≡ first
unfolding first_from
first_is {many = zero} w = absurd (omega (arith, w.low, w.high))
first_is {many = suc many} {from} {first} {test} w = by first_is (test from) refl
  where
    by : (FirstPassing many (suc from) test first → first_from many (suc from) test ≡ first)
        → (b : Bool) → test from ≡ b → cond b from (first_from many (suc from) test) ≡ first
    by later true e = ⊎_elim (λ same. same) (λ less. absurd (true≢false (sym e ∙ w.before from (le_refl from) less))) (eq-or-lt_of_le w.low)
    by later false e =
        ⊎_elim (λ same. absurd (true≢false (sym w.passed ∙ ap test (sym same) ∙ e)))
        (λ less. later (record { low = less; high = omega (arith, w.high); passed = w.passed; before = λ k l g. w.before k (omega arith) g }))
        (eq-or-lt_of_le w.low)

-- And 0 where none passes.
pub first_absent : (many from : ℕ) (test : ℕ → Bool) → ((k : ℕ) → from ≤ k → k < from + many → test k ≡ false) → first_from many from test ≡ 0
unfolding first_from
first_absent zero from test h = refl
first_absent (suc many) from test h =
    ap (λ b. cond b from (first_from many (suc from) test)) (h from (le_refl from) (omega arith))
    ∙ first_absent many (suc from) test (λ k l g. h k (omega arith) (omega arith))

-- So what it finds is one of the two.
pub data FirstFound (many from : ℕ) (test : ℕ → Bool) : ℕ → Type 0 where
  found : {first : ℕ} → FirstPassing many from test first → FirstFound many from test first
  absent : ((k : ℕ) → from ≤ k → k < from + many → test k ≡ false) → FirstFound many from test 0

pub first_found : (many from : ℕ) (test : ℕ → Bool) → FirstFound many from test (first_from many from test)
unfolding first_from
first_found zero from test = absent (λ k l g. absurd (omega arith))
first_found (suc many) from test = by (test from) refl (first_found many (suc from) test)
  where
    at_from : {k : ℕ} → test from ≡ false → from ≡ k → test k ≡ false
    at_from e same = ap test (sym same) ∙ e

    by : (b : Bool) → test from ≡ b → {later : ℕ} → FirstFound many (suc from) test later → FirstFound (suc many) from test (cond b from later)
    by true e later = found {first = from} (record { low = le_refl from; high = omega arith; passed = e; before = λ k l g. absurd (omega arith) })
    by false e (found {first} w) =
        found {first = first}
        (record {
          low = omega (arith, w.low);
          high = omega (arith, w.high);
          passed = w.passed;
          before = λ k l g. ⊎_elim (at_from e) (λ more. w.before k more g) (eq-or-lt_of_le l);
        })
    by false e (absent h) = absent (λ k l g. ⊎_elim (at_from e) (λ more. h k more (omega arith)) (eq-or-lt_of_le l))

-- Where a number passes, the first that passes is no larger.
pub first_least : (many from : ℕ) (test : ℕ → Bool) (k : ℕ) → from ≤ k → k < from + many → test k ≡ true
    → FirstPassing many from test (first_from many from test) × (first_from many from test ≤ k)
first_least many from test k l g e = by (first_found many from test)
  where
    by : {first : ℕ} → FirstFound many from test first → FirstPassing many from test first × (first ≤ k)
    by (found {first} w) = (w, not_later (dec_lt k first))
      where
        not_later : Dec (k < first) → first ≤ k
        not_later (yes less) = absurd (true≢false (sym e ∙ w.before k l less))
        not_later (no more) = omega (arith, more)
    by (absent h) = absurd (true≢false (sym e ∙ h k l g))

-- From 1 on none is found exactly where the test passes at no number.
pub first_any : (many : ℕ) (test : ℕ → Bool) → eqb (first_from many 1 test) 0 ≡ not (any_below many (λ k. test (suc k)))
first_any many test = by (first_found many 1 test)
  where
    by : {first : ℕ} → FirstFound many 1 test first → eqb first 0 ≡ not (any_below many (λ k. test (suc k)))
    by (found {first} w) =
        let place : suc (first - 1) ≡ first = omega (arith, w.low) in
        ne_eqb first 0 (λ z. omega (arith, z, w.low))
        ∙ sym (ap not (any_hit many (first - 1) (λ k. test (suc k)) (omega (arith, w.low, w.high)) (ap test place ∙ w.passed)))
    by (absent h) = sym (ap not (any_clear many (λ k. test (suc k)) (λ k l. h (suc k) (omega arith) (omega arith))))

-- Tests that agree at the numbers that are tried.
pub first_eq : (many from : ℕ) (test test' : ℕ → Bool) → ((k : ℕ) → from ≤ k → test k ≡ test' k) → first_from many from test ≡ first_from many from test'
unfolding first_from
first_eq zero from test test' h = refl
first_eq (suc many) from test test' h =
    ap₂ (λ b later. cond b from later) (h from (le_refl from)) (first_eq many (suc from) test test' (λ k l. h k (omega arith)))
