-- A list filled from the front by a rule, one store a turn: of any length, by any rule.
use Rattle.std.specs.Prelude.{ℕ, ◌+◌, ◌≤◌, ◌<◌, ◌≡◌, List, length, set, replicate}
use Rattle.std.proofs.Common.{◌∙◌, length-set, get_or-set_same, get_or-set_other, arith, below_none, below_more}
use Rattle.std.proofs.lemmas.List.{length-replicate}
use Rattle.scheme.specs.Tables.{tab}
use Rattle.scheme.proofs.Laws.Tab.{as_tab}
pub use Rattle.scheme.specs.Laws.Filled.{Filled}

-- Nothing of it is filled yet.
pub fill_start : (n : ℕ) (f : ℕ → ℕ) (a : List ℕ) → length a ≡ n → Filled n f 0 a
fill_start n f a e = record { long = e; done = below_none _ }

pub fill_none : (n : ℕ) (f : ℕ → ℕ) → Filled n f 0 (replicate n 0)
fill_none n f = record { long = length-replicate n 0; done = below_none _ }

pub fill_more : (n : ℕ) (f : ℕ → ℕ) (i : ℕ) (a : List ℕ) (v : ℕ) → i < n → v ≡ f i → Filled n f i a → Filled n f (i + 1) (set a i v)
fill_more n f i a v h e r =
    record {
      long = length-set a i v ∙ r.long;
      done =
          below_more _ i
          (λ k l. get_or-set_other a i k v 0 (λ q. omega arith) ∙ r.done k l)
          (get_or-set_same a i v 0 (omega arith) ∙ e);
    }

pub fill_all : (n : ℕ) (f : ℕ → ℕ) (i : ℕ) (a : List ℕ) → n ≤ i → Filled n f i a → a ≡ tab n f
fill_all n f i a h r = as_tab 0 a n f r.long (λ k l. r.done k (omega arith))
