-- The table's rule, computed once over all entries and carried to each: by its series, and by the entry before it.
-- Assumes nothing.
use Rattle.std.specs.Prelude.{ℕ, zero, suc, ◌+◌, ◌*◌, ◌≤◌, ◌<◌, ◌≡◌, refl, Bool, true, ◌&&◌, List, [], ◌∷◌, T, leb, length}
use Rattle.std.proofs.Common.{sym, ◌∙◌, subst, ⊎_elim, leb→le, arith, add-zero, zero-add, add-suc, suc-add, le_refl, eq-or-lt_of_le, le_of_suc-le-suc, not-suc-le-zero}
use Rattle.setchain.specs.Sums.{at, only_if}
use Rattle.setchain.specs.Rows.{ONE}
use Rattle.setchain.proofs.Laws.Tests.{both_pass}
use Rattle.poisson_spec.specs.Series.{factorial}
use Rattle.poisson_spec.specs.Exponentials.{exponentials, entry_at}
use Rattle.poisson_spec.specs.Laws.Series.{over, numerator, CutDown, every_cut}

-- The test passes at each entry of a list, by its place, counted from i, and the entry before it.
abbrev pub walked : (test : (place before entry : ℕ) → Bool) → (i before : ℕ) → List ℕ → Bool
walked test i before [] = true
walked test i before (x ∷ xs) = test i before x && walked test (suc i) x xs

from : (test : ℕ → ℕ → ℕ → Bool) (i before : ℕ) (xs : List ℕ) → T (walked test i before xs) → (k : ℕ) → k < length xs
    → T (test (i + k) (at (before ∷ xs) k) (at xs k))
from test i before [] t k h = absurd (not-suc-le-zero h)
from test i before (x ∷ xs) t zero h = subst (λ m. T (test m before x)) (sym (add-zero i)) (both_pass (test i before x) _ t).0
from test i before (x ∷ xs) t (suc k) h =
    subst (λ m. T (test m (at (x ∷ xs) k) (at xs k))) (suc-add i k ∙ sym (add-suc i k))
    (from test (suc i) x xs (both_pass (test i before x) _ t).1 k (le_of_suc-le-suc h))

pub at_each : (test : ℕ → ℕ → ℕ → Bool) (before : ℕ) (xs : List ℕ) → T (walked test 0 before xs) → (k : ℕ) → k < length xs → T (test k (at (before ∷ xs) k) (at xs k))
at_each test before xs t k h = subst (λ m. T (test m (at (before ∷ xs) k) (at xs k))) (zero-add k) (from test 0 before xs t k h)

-- Comparisons: in each pair the first number is not larger.
abbrev pub AllLe : List (ℕ × ℕ) → Type 0
AllLe [] = Unit {0}
AllLe (p ∷ rest) = (p.0 ≤ p.1) × AllLe rest

-- As a test.
abbrev all_le : List (ℕ × ℕ) → Bool
all_le [] = true
all_le (p ∷ rest) = leb p.0 p.1 && all_le rest

all_le_lem : (ps : List (ℕ × ℕ)) → T (all_le ps) → AllLe ps
all_le_lem [] t = tt
all_le_lem (p ∷ rest) t = let passed = both_pass (leb p.0 p.1) (all_le rest) t in (leb→le p.0 p.1 passed.0, all_le_lem rest passed.1)

-- What holds of each entry: "an entry is at most ONE times the exponential series of −f/1000 cut after the 19th power", "and the entry plus 1
-- is at least ONE times that cut after the 20th", and more than it; it is smaller than the entry before it, but not times its frequency,
-- and no more is the entry plus 1.
abbrev entry_rule : (f before entry : ℕ) → List (ℕ × ℕ)
entry_rule f before entry =
    (entry * over 19 + ONE * numerator 1 f 19, ONE * numerator 0 f 19)
    ∷ (suc (ONE * numerator 0 f 20), (entry + 1) * over 20 + ONE * numerator 1 f 20)
    ∷ (suc entry, before)
    ∷ (before * f, entry * f + before)
    ∷ ((before + 1) * f, (entry + 1) * f + (before + 1))
    ∷ []

-- The table behind a number that is larger than its first entry.
abbrev behind : List ℕ
behind = 1000000001 ∷ exponentials

-- "Its rule is held once over the table".
entries_pass : T (walked (λ f before entry. all_le (entry_rule f before entry)) 0 1000000001 exponentials)
unfolding exponentials numerator factorial only_if
entries_pass = tt

-- The table has an entry for each frequency.
pub size : length exponentials ≡ 1001
unfolding exponentials
size = refl

-- And it is carried to each.
entry_rule_lem : (f : ℕ) → f ≤ 1000 → AllLe (entry_rule f (at behind f) (entry_at f))
entry_rule_lem f small =
    all_le_lem (entry_rule f (at behind f) (entry_at f)) (at_each (λ f before entry. all_le (entry_rule f before entry)) 1000000001 exponentials entries_pass f (omega (arith, size)))

-- Rounded down after every power from 19 on.
pub entry_cut : (f n : ℕ) → f ≤ 1000 → 19 ≤ n → CutDown (entry_at f) f n
entry_cut f n small l = let rule = entry_rule_lem f small in every_cut (entry_at f) f small rule.0 rule.1.0 n l

-- The larger frequency has the smaller entry, but not times the frequency, nor has it the smaller entry plus 1.
pub record Beside (f g : ℕ) : Type 0 where
  pub falls : entry_at g ≤ entry_at f
  pub rises : entry_at f * f ≤ entry_at g * g
  pub next_rises : (entry_at f + 1) * f ≤ (entry_at g + 1) * g

pub beside : (f g : ℕ) → f ≤ g → g ≤ 1000 → Beside f g
beside f zero l small = let e : f ≡ 0 = omega arith in rw e (record { falls = le_refl _; rises = le_refl _; next_rises = le_refl _ })
beside f (suc g) l small =
    ⊎_elim (λ e. rw e (record { falls = le_refl _; rises = le_refl _; next_rises = le_refl _ }))
    (λ h.
    let before = beside f g (le_of_suc-le-suc h) (omega arith) in
    let rule = entry_rule_lem (suc g) small in
    record {
      falls = omega (arith, before.falls, rule.1.1.0);
      rises = omega (arith, before.rises, rule.1.1.1.0);
      next_rises = omega (arith, before.next_rises, rule.1.1.1.1.0);
    })
    (eq-or-lt_of_le l)

-- At frequency 0 no claim is certain, and at no other.
pub entry_zero : entry_at 0 ≡ ONE
unfolding exponentials
entry_zero = refl

pub entry_below : (f : ℕ) → suc f ≤ 1000 → entry_at (suc f) < ONE
entry_below f small =
    let one = entry_rule_lem 1 (omega arith) in
    let rest = beside 1 (suc f) (omega arith) small in
    omega (arith, entry_zero, one.1.1.0, rest.falls)

pub entry_most : (f : ℕ) → f ≤ 1000 → entry_at f ≤ ONE
entry_most f small = omega (arith, entry_zero, (beside 0 f (omega arith) small).falls)
