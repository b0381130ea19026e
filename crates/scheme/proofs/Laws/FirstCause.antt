-- Laws of the first cause of a list, and the table of causes by its lines: none applies exactly where everything fits.
use Rattle.std.specs.Prelude.{ℕ, ◌<◌, ◌≡◌, refl, Bool, true, false, cond, List, [], ◌∷◌, ◌⊎◌, eqb}
use Rattle.std.proofs.Common.{ap, sym, ◌∙◌, subst, subst₂, true≢false, inl, inr, arith, eq-eqb, ne_eqb}
use Rattle.std.proofs.Math.Decide.{ℕ_discrete}
use Rattle.scheme.specs.FirstCause.{◌when◌, or_else, first_of, Line, tests, AllFit, FirstFails}

-- The first of two causes.
pub first_cause : (a b : ℕ) → (a ≡ 0 → ⊥) → or_else a b ≡ a
first_cause a b h = simp (ne_eqb a 0 h)

pub second_cause : (a b : ℕ) → a ≡ 0 → or_else a b ≡ b
second_cause a b e = simp (eq-eqb a 0 e)

-- Where two causes come to 0, each of them is 0.
pub first_none : (a b : ℕ) → or_else a b ≡ 0 → a ≡ 0
first_none a b e = by (ℕ_discrete a 0)
  where
    by : Dec (a ≡ 0) → a ≡ 0
    by (yes z) = z
    by (no h) = absurd (h (sym (first_cause a b h) ∙ e))

pub second_none : (a b : ℕ) → or_else a b ≡ 0 → b ≡ 0
second_none a b e = sym (second_cause a b (first_none a b e)) ∙ e

-- A test whose number is not given failed.
pub test_none : (b : Bool) (n : ℕ) → 0 < n → cond b n 0 ≡ 0 → b ≡ false
test_none true n h e = absurd (omega arith)
test_none false n h e = refl

-- A number that is the first cause, or the second where there is no first, is that of both.
pub cause_first : {n first : ℕ} (second : ℕ) → n ≡ first → (n ≡ 0 → ⊥) → n ≡ or_else first second
cause_first {n} {first} second e some = e ∙ sym (first_cause first second (λ z. some (e ∙ z)))

pub cause_second : {n first second : ℕ} → first ≡ 0 → n ≡ second → n ≡ or_else first second
cause_second {n} {first} {second} none e = e ∙ sym (second_cause first second none)

-- Two causes come to the first, or there is no first and they come to the second.
pub cause_either : (a b : ℕ) {k : ℕ} → or_else a b ≡ k → (a ≡ k) ⊎ ((a ≡ 0) × (b ≡ k))
cause_either a b {k} e = by (ℕ_discrete a 0)
  where
    by : Dec (a ≡ 0) → (a ≡ k) ⊎ ((a ≡ 0) × (b ≡ k))
    by (yes z) = inr (z, sym (second_cause a b z) ∙ e)
    by (no h) = inl (sym (first_cause a b h) ∙ e)

-- Of three causes it does not matter which two are joined first.
pub or_assoc : (a b c : ℕ) → or_else (or_else a b) c ≡ or_else a (or_else b c)
or_assoc a b c = by (ℕ_discrete a 0)
  where
    by : Dec (a ≡ 0) → or_else (or_else a b) c ≡ or_else a (or_else b c)
    by (yes z) = ap (λ x. or_else x c) (second_cause a b z) ∙ sym (second_cause a (or_else b c) z)
    by (no h) = ap (λ x. or_else x c) (first_cause a b h) ∙ first_cause a c h ∙ sym (first_cause a (or_else b c) h)

-- The list's first cause, or that of the rest.
pub first_more : (cause : ℕ) (rest : List ℕ) → first_of (cause ∷ rest) ≡ or_else cause (first_of rest)
first_more cause [] = by (ℕ_discrete cause 0)
  where
    by : Dec (cause ≡ 0) → cause ≡ or_else cause 0
    by (yes z) = z ∙ sym (second_cause cause 0 z)
    by (no h) = sym (first_cause cause 0 h)
first_more cause (next ∷ rest) = refl

-- An answer by its cause.
pub declined {ℓ} : {A : Type ℓ} (n : ℕ) (x y : A) → (n ≡ 0 → ⊥) → cond (eqb n 0) x y ≡ y
declined n x y h = ap (λ b. cond b x y) (ne_eqb n 0 h)

pub answered {ℓ} : {A : Type ℓ} (n : ℕ) (x y : A) → n ≡ 0 → cond (eqb n 0) x y ≡ x
answered n x y e = ap (λ b. cond b x y) (eq-eqb n 0 e)

-- What is related for either outcome of a test is related.
pub test_related {ℓ ℓ'} : {A : Type ℓ} (R : A → A → Type ℓ') (b : Bool) {x x' y y' : A} → R x x' → R y y' → R (cond b x y) (cond b x' y')
test_related R true h k = h
test_related R false h k = k

-- Answers with the same cause are related, where what they answer without one is, and what they leave with one.
pub cause_related {ℓ ℓ'} : {A : Type ℓ} (R : A → A → Type ℓ') {n n' : ℕ} {x x' y y' : A} → n ≡ n' → (n ≡ 0 → R x x') → R y y'
    → R (cond (eqb n 0) x y) (cond (eqb n' 0) x' y')
cause_related R {n = n} {n' = n'} {x = x} {x' = x'} {y = y} {y' = y'} e same other = by (ℕ_discrete n 0)
  where
    by : Dec (n ≡ 0) → R (cond (eqb n 0) x y) (cond (eqb n' 0) x' y')
    by (yes z) = subst₂ R (sym (answered n x y z)) (sym (answered n' x' y' (sym e ∙ z))) (same z)
    by (no h) = subst₂ R (sym (declined n x y h)) (sym (declined n' x' y' (λ z. h (e ∙ z)))) other

-- They are the same.
pub by_cause {ℓ} : {A : Type ℓ} {n n' : ℕ} {x x' y y' : A} → n ≡ n' → (n ≡ 0 → x ≡ x') → y ≡ y' → cond (eqb n 0) x y ≡ cond (eqb n' 0) x' y'
by_cause e same other = cause_related ◌≡◌ e same other

pub cond_true : (b : Bool) (x y : ℕ) → b ≡ true → cond b x y ≡ x
cond_true b x y e = rw e

pub cond_false : (b : Bool) (x y : ℕ) → b ≡ false → cond b x y ≡ y
cond_false b x y e = rw e

-- A test that fails exactly where a fact holds.
pub record Tells (test : Bool) (Fact : Type 0) : Type 0 where
  pub fits : test ≡ false → Fact
  pub passes : Fact → test ≡ false

-- Each line's test tells what the line asks for, and its number is not 0.
abbrev pub Told : List Line → Type 0
Told [] = Unit {0}
Told (line ∷ rest) = ((0 < line.number) × Tells line.applies line.Fits) × Told rest

-- What the first cause of a table says: everything fits, or this line is the first that fails.
pub data Judged (lines : List Line) : ℕ → Type 1 where
  accepted : AllFit lines → Judged lines 0
  refused : {number : ℕ} → FirstFails lines number → Judged lines number

-- One line more in front that fits.
judged_later : {line : Line} {rest : List Line} {number : ℕ} → line.Fits → Judged rest number → Judged (line ∷ rest) number
judged_later h (accepted all) = accepted (h, all)
judged_later h (refused fails) = refused (FirstFails.later h fails)

pub judged : (lines : List Line) → Told lines → Judged lines (first_of (tests lines))
judged [] told = accepted tt
judged (line ∷ rest) ((positive, tells), told) =
    subst (Judged (line ∷ rest)) (sym (first_more _ (tests rest))) (by line.applies refl (judged rest told))
  where
    by : (b : Bool) → line.applies ≡ b → Judged rest (first_of (tests rest)) → Judged (line ∷ rest) (or_else (line.number when b) (first_of (tests rest)))
    by true e later =
        subst (Judged (line ∷ rest)) (sym (first_cause line.number (first_of (tests rest)) (λ z. omega arith)))
        (refused (FirstFails.here (λ h. true≢false (sym e ∙ tells.passes h))))
    by false e later = judged_later (tells.fits e) later

-- No cause: everything fits.
pub all_fit : (lines : List Line) → Told lines → first_of (tests lines) ≡ 0 → AllFit lines
all_fit [] told e = tt
all_fit (line ∷ rest) ((positive, tells), told) e =
    let both : or_else (line.number when line.applies) (first_of (tests rest)) ≡ 0 = sym (first_more (line.number when line.applies) (tests rest)) ∙ e in (
      tells.fits (test_none line.applies line.number positive (first_none (line.number when line.applies) _ both)),
      all_fit rest told (second_none (line.number when line.applies) _ both),
    )

-- Everything fits: no cause.
pub none_applies_lem : (lines : List Line) → Told lines → AllFit lines → first_of (tests lines) ≡ 0
none_applies_lem [] told all = refl
none_applies_lem (line ∷ rest) ((positive, tells), told) (h, all) =
    first_more (line.number when line.applies) (tests rest)
    ∙ second_cause (line.number when line.applies) _ (cond_false line.applies line.number 0 (tells.passes h))
    ∙ none_applies_lem rest told all

-- What holds of either cause holds of the first of them.
pub or_holds : (P : ℕ → Type 0) (a b : ℕ) → P a → P b → P (or_else a b)
or_holds P a b h k = by (eqb a 0)
  where
    by : (t : Bool) → P (cond t b a)
    by true = k
    by false = h

when_holds : (P : ℕ → Type 0) (b : Bool) {number : ℕ} → P 0 → P number → P (number when b)
when_holds P true none h = h
when_holds P false none h = none

-- The number of every line of a table has this property.
abbrev pub Numbers : (ℕ → Type 0) → List Line → Type 0
Numbers P [] = Unit {0}
Numbers P (line ∷ rest) = P line.number × Numbers P rest

-- So has the first that applies, where 0 has it.
pub first_holds : (P : ℕ → Type 0) → P 0 → (lines : List Line) → Numbers P lines → P (first_of (tests lines))
first_holds P none [] all = none
first_holds P none (line ∷ rest) (h, all) =
    subst P (sym (first_more (line.number when line.applies) (tests rest)))
    (or_holds P (line.number when line.applies) (first_of (tests rest)) (when_holds P line.applies none h) (first_holds P none rest all))
