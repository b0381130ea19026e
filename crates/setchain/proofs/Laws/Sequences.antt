-- Sums over sequences of states: where the terms are proper or the same, with a common factor, and where the first state is fixed.
use Prim.Native.Nat.{ℕ, zero, suc, ◌<◌}
use Rattle.std.specs.Prelude.{◌≡◌, Bool, true, false, cond, ◌&&◌, eqb}
use Rattle.std.proofs.Math.Path.{refl}
use Rattle.std.proofs.Common.{◌∙◌}
use mathlib.Core.List.{[], ◌∷◌}
use Rattle.std.proofs.Math.Nat.{mul-pos}
use Rattle.setchain.specs.Fractions.{Fraction, whole, ◌⊗◌, ◌≈◌, Proper, sum_fractions}
use Rattle.setchain.specs.Reached.{Sequence, sum_sequences}
use Rattle.setchain.specs.Sequences.{SequenceOf, empty, more}
use Rattle.setchain.proofs.Laws.Fractions.{proper_sum, same_trans, sum_eq, sum_same, sum_scale, sum_zero, sum_point}

module _ (n : ℕ) where
  pub sequences_proper : (m : ℕ) (f : Sequence → Fraction) → ((ks : Sequence) → SequenceOf n m ks → Proper (f ks)) → Proper (sum_sequences n m f)
  unfolding sum_sequences
  sequences_proper zero f h = h [] empty
  sequences_proper (suc m) f h = proper_sum n (λ k. sum_sequences n m (λ ks. f (k ∷ ks))) (λ k l. sequences_proper m (λ ks. f (k ∷ ks)) (λ ks w. h (k ∷ ks) (more l w)))

  pub sequences_same : (m : ℕ) (f g : Sequence → Fraction) → ((ks : Sequence) → SequenceOf n m ks → f ks ≈ g ks) → sum_sequences n m f ≈ sum_sequences n m g
  unfolding sum_sequences
  sequences_same zero f g h = h [] empty
  sequences_same (suc m) f g h =
      sum_same n (λ k. sum_sequences n m (λ ks. f (k ∷ ks))) (λ k. sum_sequences n m (λ ks. g (k ∷ ks)))
      (λ k l. sequences_same m (λ ks. f (k ∷ ks)) (λ ks. g (k ∷ ks)) (λ ks w. h (k ∷ ks) (more l w)))

  pub sequences_zero : (m : ℕ) → sum_sequences n m (λ ks. whole 0) ≡ whole 0
  unfolding sum_sequences
  sequences_zero zero = refl
  sequences_zero (suc m) = sum_eq n (λ k. sum_sequences n m (λ ks. whole 0)) (λ k. whole 0) (λ k. sequences_zero m) ∙ sum_zero n

  pub sequences_scale : (m : ℕ) (x : Fraction) (f : Sequence → Fraction) → Proper x → ((ks : Sequence) → SequenceOf n m ks → Proper (f ks))
      → x ⊗ sum_sequences n m f ≈ sum_sequences n m (λ ks. x ⊗ f ks)
  unfolding sum_sequences
  sequences_scale zero x f p h = refl
  sequences_scale (suc m) x f p h =
      same_trans (x ⊗ sum_fractions n behind) (sum_fractions n (λ k. x ⊗ behind k)) (sum_fractions n (λ k. sum_sequences n m (λ ks. x ⊗ f (k ∷ ks))))
      (proper_sum n (λ k. x ⊗ behind k) (λ k l. mul-pos p (proper k l)))
      (sum_scale n x behind p proper)
      (sum_same n (λ k. x ⊗ behind k) (λ k. sum_sequences n m (λ ks. x ⊗ f (k ∷ ks)))
      (λ k l. sequences_scale m x (λ ks. f (k ∷ ks)) p (λ ks w. h (k ∷ ks) (more l w))))
    where
      behind : ℕ → Fraction
      behind k = sum_sequences n m (λ ks. f (k ∷ ks))

      proper : (k : ℕ) → k < n → Proper (behind k)
      proper k l = sequences_proper m (λ ks. f (k ∷ ks)) (λ ks w. h (k ∷ ks) (more l w))

  -- Where the first state has to be i, what stands behind it counts.
  pub first_fixed : (m : ℕ) (test : ℕ → Sequence → Bool) (f : Sequence → Fraction) (i : ℕ) → i < n
      → sum_fractions n (λ k. sum_sequences n m (λ ks. cond (eqb k i && test k ks) (f (k ∷ ks)) (whole 0))) ≡ sum_sequences n m (λ ks. cond (test i ks) (f (i ∷ ks)) (whole 0))
  first_fixed m test f i l =
      sum_eq n (λ k. sum_sequences n m (λ ks. cond (eqb k i && test k ks) (f (k ∷ ks)) (whole 0))) (λ k. cond (eqb k i) (behind k) (whole 0)) (λ k. by (eqb k i) k)
      ∙ sum_point n behind i l
    where
      behind : ℕ → Fraction
      behind k = sum_sequences n m (λ ks. cond (test k ks) (f (k ∷ ks)) (whole 0))

      by : (b : Bool) (k : ℕ) → sum_sequences n m (λ ks. cond (b && test k ks) (f (k ∷ ks)) (whole 0)) ≡ cond b (behind k) (whole 0)
      by true k = refl
      by false k = sequences_zero m
