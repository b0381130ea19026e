-- A slice that is written from its front, each place by a rule of its index, or by a rule of what stands there.
-- Assumes nothing.
use Rattle.std.specs.Prelude.{◌≡◌, ℕ, ◌+◌, ◌<◌, ◌≤◌, List, length, slice_set, refl}
use Rattle.std.proofs.Common.{ap, ◌∙◌, arith, length-set, get_or-set_same, get_or-set_other, ext_get_or, below_none, below_more}
use Rattle.setchain.specs.Sums.{at}

-- The n places of the list, of which those below i hold what the rule says.
pub record Written (n : ℕ) (f : ℕ → ℕ) (a : List ℕ) (i : ℕ) : Type 0 where
  pub size : length a ≡ n
  pub inside : i ≤ n
  pub done : (k : ℕ) → k < i → at a k ≡ f k

pub written_none : {n : ℕ} {f : ℕ → ℕ} {a : List ℕ} → length a ≡ n → Written n f a 0
written_none e = record { size = e; inside = omega arith; done = below_none _ }

pub written_more : (n : ℕ) (f : ℕ → ℕ) (a : List ℕ) (i v : ℕ) → i < n → v ≡ f i → Written n f a i → Written n f (slice_set a i v) (i + 1)
written_more n f a i v l e w =
    record {
      size = length-set a i v ∙ w.size;
      inside = omega arith;
      done =
          below_more (λ k. at (slice_set a i v) k ≡ f k) i
          (λ k h. get_or-set_other a i k v 0 (λ e. omega arith) ∙ w.done k h)
          (get_or-set_same a i v 0 (omega (arith, w.size)) ∙ e);
    }

-- A list written whole from another is that list.
pub written_copy : {b a : List ℕ} {i : ℕ} → length b ≤ i → Written (length b) (at b) a i → a ≡ b
written_copy {b} {a} h w = ext_get_or 0 a b w.size (λ k l. w.done k (omega (arith, w.size)))

-- Of a list's n places those below i hold what the rule makes of what stood there, and the others what stood there.
pub record Rewritten (n : ℕ) (rule : ℕ → ℕ → ℕ) (before after : List ℕ) (i : ℕ) : Type 0 where
  pub size : length after ≡ n
  pub inside : i ≤ n
  pub done : (k : ℕ) → k < i → at after k ≡ rule k (at before k)
  pub rest : (k : ℕ) → i ≤ k → at after k ≡ at before k

pub rewritten_none : {n : ℕ} {rule : ℕ → ℕ → ℕ} {before : List ℕ} → length before ≡ n → Rewritten n rule before before 0
rewritten_none e = record { size = e; inside = omega arith; done = below_none _; rest = λ k l. refl }

pub rewritten_more : (n : ℕ) (rule : ℕ → ℕ → ℕ) (before after : List ℕ) (i v : ℕ) → i < n → v ≡ rule i (at after i)
    → Rewritten n rule before after i → Rewritten n rule before (slice_set after i v) (i + 1)
rewritten_more n rule before after i v l e w =
    record {
      size = length-set after i v ∙ w.size;
      inside = omega arith;
      done =
          below_more (λ k. at (slice_set after i v) k ≡ rule k (at before k)) i
          (λ k h. get_or-set_other after i k v 0 (λ g. omega arith) ∙ w.done k h)
          (get_or-set_same after i v 0 (omega (arith, w.size)) ∙ e ∙ ap (rule i) (w.rest i (omega arith)));
      rest = λ k h. get_or-set_other after i k v 0 (λ g. omega arith) ∙ w.rest k (omega arith);
    }
