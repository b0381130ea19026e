-- What a count of years that mixes means, and which counts do.
use Rattle.std.specs.Prelude.{ℕ, zero, suc, ◌+◌, ◌-◌, ◌*◌, ◌≤◌, ◌<◌, ◌≡◌, refl, Bool, true, false, List, [], ◌∷◌, eqb, length}
use Rattle.std.proofs.Common.{sym, ◌∙◌, subst, subst₂, true≢false, arith, mul-pos, eq-or-lt_of_le, le_of_suc-le-suc, not-suc-le-zero, ⊎_elim, ltb-true, eq-eqb}
use Rattle.std.proofs.Math.Nat.{le_step}
use Rattle.setchain.specs.Tests.{first_from}
use Rattle.setchain.specs.Fractions.{Fraction, whole, ◌⊗◌, ◌≺◌, Proper, sum_fractions}
use Rattle.setchain.specs.Rows.{Inside, SetChain, SoundChain}
use Rattle.setchain.specs.Picks.{Matrix, InsideEach, none, also, PicksFor, entry_of, product, exact_share}
use Rattle.setchain.specs.Tight.{tight_chain}
use Rattle.setchain.specs.Mixing.{edges_of, path, mixes, Passes}
use Rattle.setchain.proofs.Laws.Sums.{only_if_true}
use Rattle.setchain.proofs.Laws.Tests.{first_is, first_absent}
use Rattle.setchain.proofs.Laws.Fractions.{proper_sum, proper_row}
use Rattle.setchain.proofs.Laws.Follows.{share_follows}
use Rattle.setchain.proofs.Laws.Mixing.{path_none, path_stays, path_more, first_step, mixes_path, mixes_later}
use Rattle.setchain.proofs.Tightened.{chain_covers, picks_covered}

-- A path is the same as a sequence of states.
starting_with : ℕ → (ℕ → ℕ) → ℕ → ℕ
starting_with i rest zero = i
starting_with i rest (suc u) = rest u

pub path_passes : (n : ℕ) (edges : ℕ → ℕ → Bool) (t i j : ℕ) → path n edges t i j ≡ true → Passes n edges t i j
unfolding starting_with
path_passes n edges zero i j p =
    record { state = λ u. i; begins = refl; ends = path_stays n edges i j p; within = λ u l. absurd (omega arith); steps = λ u l. absurd (omega arith) }
path_passes n edges (suc t) i j p =
    let w = first_step n edges t i j p in
    let r = path_passes n edges t w.next j w.rest in
    record {
      state = starting_with i r.state;
      begins = refl;
      ends = r.ends;
      within = below w.below r;
      steps = along w.edge r;
    }
  where
    below : {k : ℕ} → k < n → (r : Passes n edges t k j) → (u : ℕ) → u < suc t → r.state u < n
    below l r zero g = subst (λ x. x < n) (sym r.begins) l
    below l r (suc u) g = r.within u (omega arith)

    along : {k : ℕ} → edges i k ≡ true → (r : Passes n edges t k j) → (u : ℕ) → u < suc t → edges (starting_with i r.state u) (r.state u) ≡ true
    along e r zero g = subst (λ x. edges i x ≡ true) (sym r.begins) e
    along e r (suc u) g = r.steps u (omega arith)

pub passes_path : (n : ℕ) (edges : ℕ → ℕ → Bool) (t i j : ℕ) → Passes n edges t i j → path n edges t i j ≡ true
passes_path n edges zero i j w = subst₂ (λ x y. path n edges 0 x y ≡ true) w.begins w.ends (path_none n edges (w.state 0))
passes_path n edges (suc t) i j w =
    path_more n edges t i (w.state 1) j (w.within 0 (omega arith))
    (subst (λ x. edges x (w.state 1) ≡ true) w.begins (w.steps 0 (omega arith)))
    (passes_path n edges t (w.state 1) j
    (record { state = λ u. w.state (suc u); begins = refl; ends = w.ends; within = λ u l. w.within (suc u) (omega arith); steps = λ u l. w.steps (suc u) (omega arith) }))

-- Once a count mixes, from 1 on, every later one does; so where one does not, no earlier one does.
pub mixes_from : (n : ℕ) (edges : ℕ → ℕ → Bool) (t later : ℕ) → 1 ≤ t → t ≤ later → mixes n edges t ≡ true → mixes n edges later ≡ true
mixes_from n edges zero later low l e = absurd (omega arith)
mixes_from n edges (suc t) later low l e =
    let reach : suc (t + (later - suc t)) ≡ later = omega arith in
    subst (λ x. mixes n edges x ≡ true) reach (mixes_later n edges t (later - suc t) e)

earlier_fails : (n : ℕ) (edges : ℕ → ℕ → Bool) (t later : ℕ) → 1 ≤ t → t ≤ later → mixes n edges later ≡ false → mixes n edges t ≡ false
earlier_fails n edges t later low l e = by (mixes n edges t) refl
  where
    by : (b : Bool) → mixes n edges t ≡ b → mixes n edges t ≡ false
    by true m = absurd (true≢false (sym (mixes_from n edges t later low l m) ∙ e))
    by false m = m

-- The first count that mixes is one more than a count that does not, or 1; and there is none up to one that does not.
pub first_mixing : (limit n : ℕ) (edges : ℕ → ℕ → Bool) (count : ℕ)
    → count < limit → (1 ≤ count → mixes n edges count ≡ false) → mixes n edges (suc count) ≡ true → first_from limit 1 (mixes n edges) ≡ suc count
first_mixing limit n edges count l fails e =
    first_is
    (record { low = omega arith; high = omega arith; passed = e; before = λ k low g. earlier_fails n edges k count low (omega arith) (fails (omega arith)) })

pub none_mixing : (limit n : ℕ) (edges : ℕ → ℕ → Bool) → mixes n edges limit ≡ false → first_from limit 1 (mixes n edges) ≡ 0
none_mixing limit n edges e = first_absent limit 1 (mixes n edges) (λ k low g. earlier_fails n edges k limit low (omega arith) e)

-- A sum with a term above 0 is above 0.
sum_above : (n : ℕ) (f : ℕ → Fraction) → ((k : ℕ) → k < n → Proper (f k)) → (k : ℕ) → k < n → 0 < (f k).num → 0 < (sum_fractions n f).num
unfolding sum_fractions
sum_above zero f proper k l h = absurd (not-suc-le-zero l)
sum_above (suc n) f proper k l h =
    ⊎_elim
    (λ e. let own : 0 < (f n).num * (sum_fractions n f).den = mul-pos (subst (λ x. 0 < (f x).num) e h) (proper_sum n f (λ k g. proper k (le_step g))) in omega arith)
    (λ g. let rest : 0 < (sum_fractions n f).num * (f n).den = mul-pos (sum_above n f (λ k g. proper k (le_step g)) k g h) (proper n (omega arith)) in omega arith)
    (eq-or-lt_of_le (le_of_suc-le-suc l))

-- Along a path every pick has a share above 0.
path_share : {c : SetChain} (j : ℕ) (ps : List Matrix) → InsideEach c ps → (i : ℕ) → i < c.states
    → path c.states (edges_of c) (length ps) i j ≡ true → 0 < (exact_share c.states j ps i).num
unfolding product
path_share {c} j [] none i l p = omega (arith, only_if_true (eqb i j) 1 (eq-eqb i j (path_stays c.states (edges_of c) i j p)))
path_share {c} j (q ∷ ps) (also h rest) i l p =
    let n = c.states in
    let w = first_step n (edges_of c) (length ps) i j p in
    sum_above n (λ k. entry_of (q i) k ⊗ product n ps k j)
    (λ k g. mul-pos (proper_row (h i l)) ((share_follows c j).proper ps rest k g))
    w.next w.below
    (mul-pos (entry_above (h i l) w.below w.edge) (path_share j ps rest w.next w.below w.rest))
  where
    entry_above : Inside c.states (c.row i) (q i) → {k : ℕ} → k < c.states → edges_of c i k ≡ true → 0 < (q i).entry k
    entry_above inside {k} g e =
        let up : 0 < (c.row i).lower k * (q i).over = mul-pos (ltb-true 0 ((c.row i).lower k) e) inside.positive in
        omega (arith, up, inside.above k g)

-- What mixing is for: after so many years, whatever is picked, every share from every state is above 0.
pub mixed_shares : {c : SetChain} → SoundChain c → (t : ℕ) → mixes c.states (edges_of (tight_chain c)) t ≡ true
    → (ps : List Matrix) → PicksFor c t ps → (i j : ℕ) → i < c.states → j < c.states → whole 0 ≺ exact_share c.states j ps i
mixed_shares {c} sound t m ps picks i j l g =
    let tight = picks_covered (chain_covers sound) t ps picks in
    let p = mixes_path c.states (edges_of (tight_chain c)) t m i j l g in
    let above = path_share {c = tight_chain c} j ps tight.inside i l (subst (λ x. path c.states (edges_of (tight_chain c)) x i j ≡ true) (sym tight.years) p) in
    omega (arith, above)
