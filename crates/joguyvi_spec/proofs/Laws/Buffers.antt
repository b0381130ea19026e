-- Buffers of the size asked for and of another, and buffers that are left as they were.
-- Assumes nothing.
use Rattle.std.specs.Prelude.{ℕ, ◌+◌, ◌-◌, ◌≤◌, ◌<◌, ◌≡◌, refl, cond, List, [], ◌∷◌, length, set, get_or, take, replicate}
use Rattle.std.proofs.Common.{ap, sym, ◌∙◌, arith, eq-eqb, ne_eqb, le-leb, get_or-append-add}
use Rattle.std.proofs.Math.Decide.{ℕ_discrete, dec_lt}
use Rattle.std.proofs.lemmas.Bool.{lt-leb}
use Rattle.std.proofs.Math.ListN.{length-append, get_or-append, get_or-eq_default}
use Rattle.std.proofs.lemmas.List.{length-take, length-replicate, get_or-take, get_or-replicate}
use Rattle.setchain.specs.Sums.{at}
use Rattle.scheme.specs.Tables.{tab}
use Rattle.scheme.proofs.Laws.Tab.{as_tab}
use Rattle.scheme.proofs.Laws.FirstCause.{declined, first_none, second_none}
use Rattle.joguyvi_spec.specs.Buffers.{buffer_cause, buffers_cause, filled_where, copied_front, first32, padded32}

-- A buffer of another length, and one that fits.
pub buffer_out : (size : ℕ) (out : List ℕ) → (length out ≡ size → ⊥) → buffer_cause size out ≡ 13
buffer_out size out h = rw (ne_eqb (length out) size h)

pub buffer_fits : (size : ℕ) (out : List ℕ) → length out ≡ size → buffer_cause size out ≡ 0
buffer_fits size out e = rw (eq-eqb (length out) size e)

pub thirteen : ◌≡◌ {A = ℕ} 13 0 → ⊥
thirteen e = omega arith

-- A buffer with no cause is of the size asked for.
pub buffer_size : (size : ℕ) (out : List ℕ) → buffer_cause size out ≡ 0 → length out ≡ size
buffer_size size out e = by (ℕ_discrete (length out) size)
  where
    by : Dec (length out ≡ size) → length out ≡ size
    by (yes z) = z
    by (no h) = absurd (thirteen (sym (buffer_out size out h) ∙ e))

-- So are two.
pub buffer_sizes : (size : ℕ) (one other : List ℕ) → buffers_cause size one other ≡ 0 → (length one ≡ size) × (length other ≡ size)
buffer_sizes size one other e =
    (buffer_size size one (first_none (buffer_cause size one) (buffer_cause size other) e), buffer_size size other (second_none (buffer_cause size one) (buffer_cause size other) e))

-- A buffer is left as it was with a number that is not 0.
pub unfilled : {number : ℕ} (full before : List ℕ) → (number ≡ 0 → ⊥) → before ≡ filled_where number full before
unfilled {number} full before some = sym (declined number full before some)

-- The first numbers of a list copied into a buffer that is no longer, all of them into one as long, and none into one that is longer.
module _ (from before : List ℕ) where
  pub front_copied : length before ≤ length from → copied_front from before ≡ tab (length before) (at from)
  front_copied h = ap (λ b. cond b (tab (length before) (at from)) before) (le-leb (length before) (length from) h)

  pub all_copied : length before ≡ length from → copied_front from before ≡ from
  all_copied e = front_copied (omega arith) ∙ sym (as_tab 0 from (length before) (at from) (sym e) (λ k l. refl))

  pub front_left : length from < length before → copied_front from before ≡ before
  front_left h = ap (λ b. cond b (tab (length before) (at from)) before) (lt-leb (length before) (length from) h)

-- One number written into a buffer of 1.
pub one : (size : List ℕ) (v : ℕ) → length size ≡ 1 → set size 0 v ≡ v ∷ []
one [] v e = absurd (omega arith)
one (x ∷ []) v e = refl
one (x ∷ y ∷ l) v e = absurd (omega arith)

-- The first 32 of a list, with 0 for what is missing, are its first 32 numbers.
module _ (l : List ℕ) where
  padded_size : length (padded32 0 l) ≡ 32
  padded_size = omega (arith, length-append (take 32 l) (replicate (32 - length l) 0), length-take 32 l, length-replicate {A = ℕ} (32 - length l) 0)

  padded_entry : (k : ℕ) → Dec (k < length (take 32 l)) → k < 32 → get_or (padded32 0 l) k 0 ≡ at l k
  padded_entry k (yes h) lt = get_or-append (take 32 l) (replicate (32 - length l) 0) 0 k h ∙ get_or-take 32 l k 0 lt
  padded_entry k (no h) lt =
      let place : k ≡ length (take 32 l) + (k - length (take 32 l)) = omega arith in
      ap (λ j. get_or (padded32 0 l) j 0) place
      ∙ get_or-append-add (take 32 l) (replicate (32 - length l) 0) (k - length (take 32 l)) 0
      ∙ get_or-replicate (32 - length l) (k - length (take 32 l)) 0 0 (omega (arith, length-take 32 l))
      ∙ sym (get_or-eq_default l 0 {n = k} (omega (arith, length-take 32 l)))

  pub padded_first : padded32 0 l ≡ first32 l
  unfolding first32
  padded_first = as_tab 0 (padded32 0 l) 32 (at l) padded_size (λ k lt. padded_entry k (dec_lt k (length (take 32 l))) lt)
