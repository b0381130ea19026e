-- The exponential series of minus a claim frequency, cut after a power, and the exact Poisson probability formed with it (document 02, item 10; source document 004, definition 2.14).
-- Frequencies are in thousandths. Nothing is subtracted: what a comparison takes from one side stands on the other.
use Rattle.std.specs.Prelude.{ℕ, zero, suc, ◌*◌, ◌%◌, ◌^◌, Bool, true, false, cond, eqb}
use Rattle.setchain.specs.Fractions.{Fraction, whole, ◌⊕◌, ◌⊗◌, ◌≼◌, ◌≺◌, sum_fractions}
use Rattle.setchain.specs.Rows.{ONE}

-- n!
unfoldable pub factorial : ℕ → ℕ
factorial zero = 1
factorial (suc n) = factorial n * suc n

-- f / 1000 to the power k, over k!: the size of the series' term of power k, and by how much k claims are more likely than none.
abbrev pub term : (f k : ℕ) → Fraction
term f k = record { num = f ^ k; den = 1000 ^ k * factorial k }

-- The terms up to power n whose power leaves this remainder by 2.
abbrev pub terms_of : (remainder f n : ℕ) → Fraction
terms_of remainder f n = sum_fractions (suc n) (λ k. cond (eqb (k % 2) remainder) (term f k) (whole 0))

-- Of the series of −f / 1000 cut after power n, the terms that are added: those of even power.
abbrev pub added : (f n : ℕ) → Fraction
added f n = terms_of 0 f n

-- And those that are taken: those of odd power.
abbrev pub taken : (f n : ℕ) → Fraction
taken f n = terms_of 1 f n

-- The exact probability of k claims formed with that cut is (added − taken) × term k; in parts, what is added to it.
abbrev pub added_parts : (f n k : ℕ) → Fraction
added_parts f n k = added f n ⊗ term f k ⊗ whole ONE

-- And what is taken from it.
abbrev pub taken_parts : (f n k : ℕ) → Fraction
taken_parts f n k = taken f n ⊗ term f k ⊗ whole ONE

-- x parts are at most the exact probability of k claims at f, formed with the cut after power n; or, where high, at least.
abbrev pub Bounds : (high : Bool) (f n k x : ℕ) → Type 0
Bounds false f n k x = whole x ⊕ taken_parts f n k ≼ added_parts f n k
Bounds true f n k x = added_parts f n k ≼ whole x ⊕ taken_parts f n k

-- x parts are more than it.
abbrev pub Exceeds : (f n k x : ℕ) → Type 0
Exceeds f n k x = added_parts f n k ≺ whole x ⊕ taken_parts f n k
