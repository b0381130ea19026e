-- How far a first count can lie: where any count mixes n states, n² does, so that 1,024 years are enough for 32 states.
-- A path of n years passes some state twice, so a shorter one leads as far. State 0 thus has a closed path of n years or fewer, every state a path of n years to a state on it,
-- and from there n − 1 rounds, in which one waits or leaves, lead to every state.
use Prim.Native.Nat.{ℕ, zero, suc, ◌+◌, ◌-◌, ◌*◌, ◌≤◌, ◌<◌}
use Rattle.std.specs.Prelude.{◌≡◌, Bool, true, false, ◌&&◌, eqb}
use Rattle.std.proofs.Math.Path.{refl, ap, sym}
use Rattle.std.proofs.Common.{◌∙◌, subst, true≢false, le_refl, zero-add, suc-add, mul-le-mul_left, zero-mul, add-one, eqb-true, eq-eqb}
use native.Mathlib.Omega.{arith}
use Rattle.std.proofs.Math.Decide.{dec_lt, ℕ_discrete}
use Rattle.setchain.specs.Tests.{any_below}
use Rattle.setchain.specs.Mixing.{path, mixes, Passes}
use Rattle.setchain.proofs.Laws.Tests.{any_found, any_false, any_eq}
use Rattle.setchain.proofs.Laws.Mixing.{path_none, path_more, first_step, path_join, path_one, path_sum, mixes_path, path_mixes}
use Rattle.setchain.proofs.Mixed.{path_passes, passes_path, mixes_from}

-- Of the numbers f 0 to f n, all below n, two are equal.
record Twice (n : ℕ) (f : ℕ → ℕ) : Type 0 where
  pub first : ℕ
  pub second : ℕ
  pub before : first < second
  pub within : second ≤ n
  pub same : f first ≡ f second

-- A number with n told as v: where v itself does not occur, numbers up to n come below n, and stay apart.
told : (n v x : ℕ) → Dec (x ≡ n) → ℕ
told n v x (yes e) = v
told n v x (no h) = x

told_below : (n v x : ℕ) (d : Dec (x ≡ n)) → x ≤ n → v ≤ n → (x ≡ v → ⊥) → told n v x d < n
unfolding told
told_below n v x (yes e) l g h = omega (arith, h)
told_below n v x (no k) l g h = omega (arith, k)

told_apart : (n v x y : ℕ) (d : Dec (x ≡ n)) (d' : Dec (y ≡ n)) → (x ≡ v → ⊥) → (y ≡ v → ⊥) → told n v x d ≡ told n v y d' → x ≡ y
unfolding told
told_apart n v x y (yes e) (yes e') h k z = e ∙ sym e'
told_apart n v x y (yes e) (no g) h k z = absurd (k (sym z))
told_apart n v x y (no g) (yes e) h k z = absurd (h z)
told_apart n v x y (no g) (no g') h k z = z

two_equal : (n : ℕ) (f : ℕ → ℕ) → ((k : ℕ) → k ≤ n → f k < n) → Twice n f
two_equal zero f below = absurd (omega (arith, below 0 (omega arith)))
two_equal (suc n) f below = by (two_equal n (λ k. told n last (f k) (ℕ_discrete (f k) n))) (any_below (suc n) (λ k. eqb (f k) last)) refl
  where
    last : ℕ
    last = f (suc n)

    Fewer : Type 0
    Fewer = ((k : ℕ) → k ≤ n → told n last (f k) (ℕ_discrete (f k) n) < n) → Twice n (λ k. told n last (f k) (ℕ_discrete (f k) n))

    by : Fewer → (b : Bool) → any_below (suc n) (λ k. eqb (f k) last) ≡ b → Twice (suc n) f
    by fewer true e =
        let w = any_found (suc n) (λ k. eqb (f k) last) e in
        record { first = w.index; second = suc n; before = w.below; within = le_refl (suc n); same = eqb-true (f w.index) last w.passed }
    by fewer false e =
        let w = fewer (λ k l. told_below n last (f k) (ℕ_discrete (f k) n) (omega (arith, below k (omega arith))) (omega (arith, below (suc n) (omega arith))) (other k l)) in
        record {
          first = w.first;
          second = w.second;
          before = w.before;
          within = omega (arith, w.within);
          same =
              told_apart n last (f w.first) (f w.second) (ℕ_discrete (f w.first) n) (ℕ_discrete (f w.second) n)
              (other w.first (omega (arith, w.before, w.within))) (other w.second w.within) w.same;
        }
      where
        other : (k : ℕ) → k ≤ n → f k ≡ last → ⊥
        other k l z = true≢false (sym (eq-eqb (f k) last z) ∙ any_false (suc n) (λ k. eqb (f k) last) e k (omega arith))

-- A path to a state takes fewer years than there are states, or a shorter one does.
record ShortPath (n : ℕ) (edges : ℕ → ℕ → Bool) (i j : ℕ) : Type 0 where
  pub years : ℕ
  pub few : years < n
  pub leads : path n edges years i j ≡ true

module _ {n : ℕ} {edges : ℕ → ℕ → Bool} where
  -- What lies between two equal states is left out.
  shorter : {t i j : ℕ} (w : Passes n edges t i j) (a b : ℕ) → a < b → b ≤ t → w.state a ≡ w.state b → path n edges (a + (t - b)) i j ≡ true
  shorter {t} {i} {j} w a b l g z =
      path_join n edges a (t - b) i (w.state a) j
      (passes_path n edges a i (w.state a)
      (record { state = w.state; begins = w.begins; ends = refl; within = λ u h. w.within u (omega arith); steps = λ u h. w.steps u (omega arith) }))
      (subst (λ x. path n edges (t - b) x j ≡ true) (sym z)
      (passes_path n edges (t - b) (w.state b) j
      (record {
        state = λ u. w.state (u + b);
        begins = ap w.state (zero-add b);
        ends = ap w.state end ∙ w.ends;
        within = λ u h. rw (suc-add u b) (w.within (u + b) (omega arith));
        steps = λ u h. rw (suc-add u b) (w.steps (u + b) (omega arith));
      })))
    where
      end : t - b + b ≡ t
      end = omega arith

  short_path : (most t i j : ℕ) → t ≤ most → i < n → path n edges t i j ≡ true → ShortPath n edges i j
  short_path zero t i j l h p = record { years = t; few = omega arith; leads = p }
  short_path (suc most) t i j l h p = by (short_path most) (dec_lt t n)
    where
      by : ((t i j : ℕ) → t ≤ most → i < n → path n edges t i j ≡ true → ShortPath n edges i j) → Dec (t < n) → ShortPath n edges i j
      by again (yes few) = record { years = t; few = few; leads = p }
      by again (no many) =
          let w = path_passes n edges t i j p in
          let d = two_equal n w.state (below w) in
          again (d.first + (t - d.second)) i j (omega (arith, d.before, d.within, many)) h (shorter w d.first d.second d.before (omega (arith, d.within, many)) d.same)
        where
          below : (w : Passes n edges t i j) (k : ℕ) → k ≤ n → w.state k < n
          below w zero g = subst (λ x. x < n) (sym w.begins) h
          below w (suc k) g = w.within k (omega (arith, many))

module _ (n : ℕ) (edges : ℕ → ℕ → Bool) where
  -- Along a closed path one can go on for any number of years, to a state with a closed path of as many years.
  record Onward (turn t i : ℕ) : Type 0 where
    pub state : ℕ
    pub below : state < n
    pub leads : path n edges t i state ≡ true
    pub closed : path n edges turn state state ≡ true

  onward : (turn t i : ℕ) → i < n → path n edges (suc turn) i i ≡ true → Onward (suc turn) t i
  onward turn zero i l p = record { state = i; below = l; leads = path_none n edges i; closed = p }
  onward turn (suc t) i l p =
      let w = first_step n edges turn i i p in
      let step : path n edges 1 i w.next ≡ true = path_one n edges i w.next w.below ∙ w.edge in
      let round : path n edges (suc turn) w.next w.next ≡ true = rw add-one at (path_join n edges turn 1 w.next i w.next w.rest step) in
      let o = onward turn t w.next w.below round in
      record { state = o.state; below = o.below; leads = path_more n edges t i w.next o.state w.below w.edge o.leads; closed = o.closed }

  -- Edges of so many years at a time.
  abbrev leaps : (turn : ℕ) → ℕ → ℕ → Bool
  leaps turn = path n edges turn

  leaps_path : (turn t i j : ℕ) → i < n → path n (leaps turn) t i j ≡ path n edges (t * turn) i j
  unfolding path
  leaps_path turn zero i j l = rw (zero-mul turn) refl
  leaps_path turn (suc t) i j l =
      any_eq refl (λ k. leaps turn i k && path n (leaps turn) t k j) (λ k. leaps turn i k && path n edges (t * turn) k j)
      (λ k g. ap (λ b. leaps turn i k && b) (leaps_path turn t k j g))
      ∙ sym (path_sum n edges turn (t * turn) i j l) ∙ ap (λ x. path n edges x i j) sum
    where
      sum : turn + t * turn ≡ suc t * turn
      sum = omega arith

  -- A state with a leap to itself can wait.
  wait : (turn t i : ℕ) → i < n → leaps turn i i ≡ true → path n (leaps turn) t i i ≡ true
  wait turn zero i l p = path_none n (leaps turn) i
  wait turn (suc t) i l p = path_more n (leaps turn) t i i i l p (wait turn t i l p)

  module _ (t : ℕ) (m : mixes n edges (suc t) ≡ true) (some : 0 < n) where
    all : (i j : ℕ) → i < n → j < n → path n edges (suc t) i j ≡ true
    all = mixes_path n edges (suc t) m

    -- From a state with a closed path, in so many leaps to every state.
    leap : (turn i j : ℕ) → i < n → j < n → path n edges (suc turn) i i ≡ true → path n edges ((n - 1) * suc turn) i j ≡ true
    leap turn i j l g p =
        let later : mixes n edges (suc t * suc turn) ≡ true = mixes_from n edges (suc t) (suc t * suc turn) (omega arith) (omega arith) m in
        let far : path n (leaps (suc turn)) (suc t) i j ≡ true = leaps_path (suc turn) (suc t) i j l ∙ mixes_path n edges (suc t * suc turn) later i j l g in
        let w = short_path (suc t) (suc t) i j (le_refl (suc t)) l far in
        let sum : n - 1 - w.years + w.years ≡ n - 1 = omega (arith, w.few) in
        sym (leaps_path (suc turn) (n - 1) i j l)
        ∙ subst (λ x. path n (leaps (suc turn)) x i j ≡ true) sum (path_join n (leaps (suc turn)) (n - 1 - w.years) w.years i i j (wait (suc turn) (n - 1 - w.years) i l p) w.leads)

    -- State 0 has a closed path of n years or fewer.
    closed : ShortPath n edges (first_step n edges t 0 0 (all 0 0 some some)).next 0
    closed = let w = first_step n edges t 0 0 (all 0 0 some some) in short_path t t w.next 0 (le_refl t) w.below w.rest

    square_path : (i j : ℕ) → i < n → j < n → path n edges (n + (n - 1) * suc closed.years) i j ≡ true
    square_path i j l g =
        let first = first_step n edges t 0 0 (all 0 0 some some) in
        let round = path_more n edges closed.years 0 first.next 0 first.below first.edge closed.leads in
        let w = short_path (suc t) (suc t) i 0 (le_refl (suc t)) l (all i 0 l some) in
        let o = onward closed.years (n - w.years) 0 some round in
        let sum : w.years + (n - w.years) ≡ n = omega (arith, w.few) in
        let front = subst (λ x. path n edges x i o.state ≡ true) sum (path_join n edges w.years (n - w.years) i 0 o.state w.leads o.leads) in
        path_join n edges n ((n - 1) * suc closed.years) i o.state j front (leap closed.years o.state j o.below g o.closed)

    mixes_square : mixes n edges (n * n) ≡ true
    mixes_square =
        let more : (n - 1) * suc closed.years ≤ (n - 1) * n = mul-le-mul_left (n - 1) closed.few in
        mixes_from n edges (n + (n - 1) * suc closed.years) (n * n) (omega arith) (omega (arith, more, square n some))
        (path_mixes n edges (n + (n - 1) * suc closed.years) square_path)
      where
        square : (n : ℕ) → 0 < n → n + (n - 1) * n ≡ n * n
        square zero l = absurd (omega arith)
        square (suc p) l = let e : suc p - 1 ≡ p = omega arith in ap (λ x. suc p + x * suc p) e ∙ omega arith

-- What is not mixed in n² years never is.
pub square_enough : (n : ℕ) (edges : ℕ → ℕ → Bool) (t : ℕ) → 1 ≤ t → mixes n edges t ≡ true → mixes n edges (n * n) ≡ true
square_enough n edges zero l m = absurd (omega arith)
square_enough zero edges (suc t) l m = path_mixes 0 edges (0 * 0) (λ i j g. absurd (omega arith))
square_enough (suc p) edges (suc t) l m = mixes_square (suc p) edges t m (omega arith)
