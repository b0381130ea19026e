-- The states filled along an order: what a row's sum comes to is the step's figure, unrounded, and it fits.
-- Assumes nothing.
use Prim.Native.Nat.{ℕ, zero, suc, min, ◌+◌, ◌-◌, ◌*◌, ◌≤◌, ◌<◌}
use mathlib.Core.Path.{◌≡◌, refl, ap, sym, ◌∙◌, subst}
use mathlib.Core.Logic.{◌⊎◌, inl, inr, ⊎_elim}
use mathlib.Core.Bool.{Bool}
use mathlib.Core.List.{List}
use native.Mathlib.Decide.{ℕ_discrete, dec_le}
use native.Mathlib.Nat.{le_refl, mul-le-mul_left, mul-le-mul_right}
use native.Mathlib.Omega.{arith}
use lib.ListN.{length, set, length-set}
use lib.Seq.{get_or-set_same, get_or-set_other, ext_get_or}
use Rattle.setchain.specs.Sums.{at, sum_to, dot}
use Rattle.setchain.specs.Rows.{ONE, IntervalRow, SoundRow, lists_row}
use Rattle.setchain.specs.Rounding.{rounded}
use Rattle.setchain.specs.Step.{capacity, step_figure}
use Rattle.setchain.proofs.Laws.Sums.{sum_to_eq, sum_to_front, sum_to_change}
use Rattle.scheme.specs.Tables.{tab}
use Rattle.scheme.proofs.Laws.Tab.{length_tab, get_d_tab}
use Rattle.order.specs.Order.{along, Occurs, Permutation, SortedPermutation}
use Rattle.order.proofs.Laws.Along.{along_permutation, sum_along}
use Rattle.setchain.proofs.Laws.Agreeing.{Agree, sound_agrees, step_agrees}
use Rattle.step.specs.Fill.{FillPost, FillSlackPre}
use Rattle.step.specs.Step.{StepPre}
use Rattle.step_spec.specs.StepAnswer.{MOST_PAYOFF}
use Rattle.bounds.specs.Fill.{Small, left_at, sum_at}
use Rattle.step.specs.Laws.Fill.{Filling, filling_none, filling_more, filling_last}
use Rattle.step.specs.Laws.Extreme.{step_reached}

-- The sum stays within the largest payoff.
module _ (n : ℕ) (r : IntervalRow) (f : ℕ → ℕ) (order : List ℕ) (slack : ℕ) (p : Permutation n order)
    (whole : sum_to n r.lower + slack ≡ ONE) (small : (j : ℕ) → j < n → f j ≤ MOST_PAYOFF) where
  left_le : (k : ℕ) → left_at r order slack k ≤ slack
  unfolding left_at
  left_le zero = le_refl slack
  left_le (suc k) = omega (arith, left_le k)

  sum_parts : (k : ℕ) → k ≤ n
      → sum_at r f order slack k ≤ (sum_to k (λ q. r.lower (at order q - 1)) + (slack - left_at r order slack k)) * MOST_PAYOFF
  unfolding left_at sum_at sum_to
  sum_parts zero h = omega arith
  sum_parts (suc k) h =
      omega (
        arith,
        sum_parts k (omega arith),
        left_le k,
        mul-le-mul_left (r.lower (at order k - 1) + min (left_at r order slack k) (capacity r (at order k - 1)))
            (small (at order k - 1) (omega (arith, p.within k h))),
      )

  pub sum_fits : (k : ℕ) → k ≤ n → sum_at r f order slack k ≤ MOST_PAYOFF * ONE
  sum_fits k h =
      omega (
        arith,
        sum_parts k h,
        sum_to_front (λ q. r.lower (at order q - 1)) n k h,
        sum_along n order p r.lower,
        mul-le-mul_right MOST_PAYOFF all,
      )
    where
      all : sum_to k (λ q. r.lower (at order q - 1)) + (slack - left_at r order slack k) ≤ ONE
      all =
          omega (
            arith,
            sum_to_front (λ q. r.lower (at order q - 1)) n k h,
            sum_along n order p r.lower,
            whole,
          )

-- Storing what stands there changes nothing.
same_set : (l : List ℕ) (j : ℕ) → j < length l → set l j (at l j) ≡ l
same_set l j h = ext_get_or 0 (set l j (at l j)) l (length-set l j (at l j)) (λ k m. by k (ℕ_discrete k j))
  where
    by : (k : ℕ) → Dec (k ≡ j) → at (set l j (at l j)) k ≡ at l k
    by k (yes e) = rw e (get_or-set_same l j (at l j) 0 h)
    by k (no ne) = get_or-set_other l j k (at l j) 0 ne

-- A product of part and payoff after a change at one place.
dot_set : (n : ℕ) (row : List ℕ) (f : ℕ → ℕ) (j given : ℕ) → j < n → length row ≡ n
    → dot n (at (set row j (at row j + given))) f ≡ dot n (at row) f + given * f j
dot_set n row f j given l e =
    let v : ℕ = at row j + given in
    let same : at (set row j v) j ≡ v = get_or-set_same row j v 0 (omega arith) in
    omega (
      arith,
      sum_to_change n (λ i. at row i * f i) (λ i. at (set row j v) i * f i) j l (λ i m ne. ap (λ x. x * f i) (get_or-set_other row j i v 0 ne)),
      ap (λ x. x * f j) same,
    )

-- The figure: each row is filled as by the step.
module _ (high : Bool) (r : IntervalRow) (payoff order : List ℕ) (slack : ℕ)
    (sound : SoundRow (length payoff) r) (sorted : SortedPermutation payoff order) (small : Small (length payoff) payoff) (whole : sum_to (length payoff) r.lower + slack ≡ ONE) where
  abbrev n : ℕ
  n = length payoff

  abbrev lower : List ℕ
  lower = tab n r.lower

  abbrev upper : List ℕ
  upper = tab n r.upper

  -- The order as it is read.
  abbrev read : List ℕ
  read = along high order

  permutation : Permutation n read
  permutation = along_permutation high order sorted.permutation

  lower_size_lem : length lower ≡ n
  lower_size_lem = length_tab n r.lower

  low_at_lem : (j : ℕ) → j < n → at lower j ≡ r.lower j
  low_at_lem j l = get_d_tab n r.lower j 0 l

  up_at : (j : ℕ) → j < n → at upper j ≡ r.upper j
  up_at j l = get_d_tab n r.upper j 0 l

  agree : Agree n r (lists_row lower upper)
  agree = record { lower = λ j l. sym (low_at_lem j l); upper = λ j l. sym (up_at j l) }

  steppable : StepPre lower upper payoff order high lower
  steppable =
      record {
        uppers = length_tab n r.upper ∙ sym lower_size_lem;
        payoffs = sym lower_size_lem;
        rows = refl;
        sound = subst (λ k. SoundRow k (lists_row lower upper)) (sym lower_size_lem) (sound_agrees agree sound);
        small = λ j l. small j (omega (arith, lower_size_lem));
        sorted = sorted;
      }

  fillable : FillSlackPre lower upper read slack
  fillable =
      record {
        uppers = steppable.uppers;
        permutation = subst (λ k. Permutation k read) (sym lower_size_lem) permutation;
        sound = steppable.sound;
        whole = omega (arith, whole, sum_to_eq n (at lower) r.lower low_at_lem, ap (λ k. sum_to k (at lower)) lower_size_lem);
      }

  -- The lower parts times payoff of the states at the first k places.
  bare : ℕ → ℕ
  bare k = sum_to k (λ q. r.lower (at read q - 1) * at payoff (at read q - 1))

  -- All slack is given.
  record Done (row : List ℕ) (left : ℕ) : Type 0 where
    stop : ℕ
    filled : FillPost lower upper read row stop
    none : left ≡ 0

  -- The row as the step's fill has it at place k, or when it is done.
  record RowAt (k : ℕ) : Type 0 where
    row : List ℕ
    sums : sum_at r (at payoff) read slack k + dot n r.lower (at payoff) ≡ bare k + dot n (at row) (at payoff)
    state : Filling lower upper read row (left_at r read slack k) k ⊎ Done row (left_at r read slack k)

  row_none : RowAt 0
  unfolding left_at sum_at bare sum_to
  row_none =
      record {
        row = lower;
        sums = omega (arith, sum_to_eq n (λ j. r.lower j * at payoff j) (λ j. at lower j * at payoff j) (λ j l. ap (λ x. x * at payoff j) (sym (low_at_lem j l))));
        state = inl (filling_none fillable);
      }

  module _ {k : ℕ} (more : k < n) where
    abbrev j : ℕ
    j = at read k - 1

    here : j < n
    here = omega (arith, permutation.within k more)

    -- A state that the fill has not passed is bare.
    still : {row : List ℕ} {left : ℕ} → Filling lower upper read row left k → at row j ≡ r.lower j
    still w =
        ⊎_elim (λ b. b ∙ low_at_lem j here) (λ s. absurd (passed s (permutation.once s.place k (omega (arith, s.early)) more (s.held ∙ held))))
        (w.rest j (omega (arith, here, lower_size_lem)))
      where
        held : suc j ≡ at read k
        held = omega (arith, permutation.within k more)

        passed : (s : Occurs read k j) → s.place ≡ k → ⊥
        passed s e = omega (arith, s.early)

    -- The sums when state j gets `given`.
    sums_more : (row : List ℕ) (given : ℕ) → length row ≡ n → given ≡ min (left_at r read slack k) (capacity r j)
        → sum_at r (at payoff) read slack k + dot n r.lower (at payoff) ≡ bare k + dot n (at row) (at payoff)
        → sum_at r (at payoff) read slack (suc k) + dot n r.lower (at payoff) ≡ bare (suc k) + dot n (at (set row j (at row j + given))) (at payoff)
    unfolding sum_at bare sum_to
    sums_more row given e g h =
        omega (arith, h, dot_set n row (at payoff) j given here e, ap (λ x. (r.lower j + x) * at payoff j) g)

    row_more : RowAt k → RowAt (suc k)
    unfolding left_at
    row_more w = ⊎_elim (λ s. by s (dec_le left (at upper j - at w.row j))) done w.state
      where
        left : ℕ
        left = left_at r read slack k

        by : Filling lower upper read w.row left k → Dec (left ≤ at upper j - at w.row j) → RowAt (suc k)
        by s (yes h) =
            record {
              row = set w.row j (at w.row j + left);
              sums = sums_more w.row left (s.size ∙ lower_size_lem) (omega (arith, still s, up_at j here)) w.sums;
              state = inr (record { stop = k; filled = filling_last fillable s refl h; none = omega (arith, still s, up_at j here) });
            }
        by s (no h) =
            let more' : at upper j - at w.row j < left = omega arith in
            let e : left - (at upper j - at w.row j) ≡ left - capacity r j = omega (arith, still s, up_at j here) in
            let o : k + 1 ≡ suc k = omega arith in
            record {
              row = set w.row j (at w.row j + (at upper j - at w.row j));
              sums = sums_more w.row (at upper j - at w.row j) (s.size ∙ lower_size_lem) (omega (arith, still s, up_at j here)) w.sums;
              state = inl (rw (e, o) at (filling_more fillable s refl more'));
            }

        done : Done w.row left → RowAt (suc k)
        done s =
            let e : at w.row j + 0 ≡ at w.row j = omega arith in
            record {
              row = set w.row j (at w.row j + 0);
              sums = sums_more w.row 0 (s.filled.size ∙ lower_size_lem) (omega (arith, s.none)) w.sums;
              state =
                  inr
                  (record {
                    stop = s.stop;
                    filled = rw (e, same_set w.row j (omega (arith, here, lower_size_lem, s.filled.size))) s.filled;
                    none = omega (arith, s.none);
                  });
            }

  row_at : (k : ℕ) → k ≤ n → RowAt k
  row_at zero h = row_none
  row_at (suc k) h = row_more h (row_at k (omega arith))

  -- The sum at the end is the filled row's.
  pub filled_figure : rounded high ONE (sum_at r (at payoff) read slack n) ≡ step_figure high n r (at payoff)
  unfolding bare
  filled_figure = ⊎_elim (λ s. absurd (omega (arith, s.inside, lower_size_lem))) by w.state
    where
      w : RowAt n
      w = row_at n (le_refl n)

      sums_are : sum_at r (at payoff) read slack n ≡ dot n (at w.row) (at payoff)
      sums_are = omega (arith, w.sums, sum_along n read permutation (λ j. r.lower j * at payoff j))

      by : Done w.row (left_at r read slack n) → rounded high ONE (sum_at r (at payoff) read slack n) ≡ step_figure high n r (at payoff)
      by s =
          ap (rounded high ONE) (sums_are ∙ ap (λ k. dot k (at w.row) (at payoff)) (sym lower_size_lem))
          ∙ step_reached steppable s.filled
          ∙ ap (λ k. step_figure high k (lists_row lower upper) (at payoff)) lower_size_lem
          ∙ sym (step_agrees agree (λ j l. refl) high)
