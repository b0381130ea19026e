-- Laws of paths, and of the counts of years that mix.
use Rattle.std.specs.Prelude.{ℕ, zero, suc, ◌+◌, ◌<◌, ◌≡◌, refl, Bool, true, false, ◌&&◌}
use Rattle.std.proofs.Common.{ap₂, sym, subst, zero-add, suc-add, add-zero, add-suc, eqb-true, eq-eqb}
use Rattle.std.proofs.Math.Bool.{and-eq-true_iff}
use Rattle.setchain.specs.Tests.{any_below, all_below}
use Rattle.setchain.specs.Mixing.{path, mixes}
use Rattle.setchain.proofs.Laws.Tests.{any_hit, any_found, any_eq, all_hit, all_true, all_miss, all_eq, both_ways}

-- In 0 years a state has a path to itself.
pub path_none : (n : ℕ) (edges : ℕ → ℕ → Bool) (i : ℕ) → path n edges 0 i i ≡ true
unfolding path
path_none n edges i = eq-eqb i i refl

pub path_stays : (n : ℕ) (edges : ℕ → ℕ → Bool) (i j : ℕ) → path n edges 0 i j ≡ true → i ≡ j
unfolding path
path_stays n edges i j e = eqb-true i j e

-- An edge to k, and a path from there.
pub path_more : (n : ℕ) (edges : ℕ → ℕ → Bool) (t i k j : ℕ)
    → k < n → edges i k ≡ true → path n edges t k j ≡ true → path n edges (suc t) i j ≡ true
unfolding path
path_more n edges t i k j l e p =
    any_hit n k (λ k. edges i k && path n edges t k j) l ((and-eq-true_iff (edges i k) (path n edges t k j)).1 (e, p))

-- The first step of a path.
pub record FirstStep (n : ℕ) (edges : ℕ → ℕ → Bool) (t i j : ℕ) : Type 0 where
  pub next : ℕ
  pub below : next < n
  pub edge : edges i next ≡ true
  pub rest : path n edges t next j ≡ true

pub first_step : (n : ℕ) (edges : ℕ → ℕ → Bool) (t i j : ℕ) → path n edges (suc t) i j ≡ true → FirstStep n edges t i j
unfolding path
first_step n edges t i j p =
    let w = any_found n (λ k. edges i k && path n edges t k j) p in
    let both = (and-eq-true_iff (edges i w.index) (path n edges t w.index j)).0 w.passed in
    record { next = w.index; below = w.below; edge = both.0; rest = both.1 }

-- Paths one after the other.
pub path_join : (n : ℕ) (edges : ℕ → ℕ → Bool) (a b i k j : ℕ)
    → path n edges a i k ≡ true → path n edges b k j ≡ true → path n edges (a + b) i j ≡ true
path_join n edges zero b i k j p q = rw (zero-add b) (subst (λ x. path n edges b x j ≡ true) (sym (path_stays n edges i k p)) q)
path_join n edges (suc a) b i k j p q =
    let w = first_step n edges a i k p in
    rw (suc-add a b) (path_more n edges (a + b) i w.next j w.below w.edge (path_join n edges a b w.next k j w.rest q))

-- The state that a path passes after its first years.
pub record Halfway (n : ℕ) (edges : ℕ → ℕ → Bool) (a b i j : ℕ) : Type 0 where
  pub state : ℕ
  pub below : state < n
  pub before : path n edges a i state ≡ true
  pub after : path n edges b state j ≡ true

pub path_split : (n : ℕ) (edges : ℕ → ℕ → Bool) (a b i j : ℕ) → i < n → path n edges (a + b) i j ≡ true → Halfway n edges a b i j
path_split n edges zero b i j l p =
    let q : path n edges b i j ≡ true = rw (zero-add b) at p in
    record { state = i; below = l; before = path_none n edges i; after = q }
path_split n edges (suc a) b i j l p =
    let q : path n edges (suc (a + b)) i j ≡ true = rw (suc-add a b) at p in
    let w = first_step n edges (a + b) i j q in
    let h = path_split n edges a b w.next j w.below w.rest in
    record { state = h.state; below = h.below; before = path_more n edges a i w.next h.state w.below w.edge h.before; after = h.after }

-- So the paths of a + b years are those of a years, and then of b years.
pub path_sum : (n : ℕ) (edges : ℕ → ℕ → Bool) (a b i j : ℕ) → i < n
    → path n edges (a + b) i j ≡ any_below n (λ k. path n edges a i k && path n edges b k j)
path_sum n edges a b i j l = both_ways apart together
  where
    apart : path n edges (a + b) i j ≡ true → any_below n (λ k. path n edges a i k && path n edges b k j) ≡ true
    apart p =
        let h = path_split n edges a b i j l p in
        any_hit n h.state (λ k. path n edges a i k && path n edges b k j) h.below
        ((and-eq-true_iff (path n edges a i h.state) (path n edges b h.state j)).1 (h.before, h.after))

    together : any_below n (λ k. path n edges a i k && path n edges b k j) ≡ true → path n edges (a + b) i j ≡ true
    together e =
        let w = any_found n (λ k. path n edges a i k && path n edges b k j) e in
        let both = (and-eq-true_iff (path n edges a i w.index) (path n edges b w.index j)).0 w.passed in
        path_join n edges a b i w.index j both.0 both.1

-- In one year the paths are the edges.
pub path_one : (n : ℕ) (edges : ℕ → ℕ → Bool) (i j : ℕ) → j < n → path n edges 1 i j ≡ edges i j
path_one n edges i j l = both_ways back (λ e. path_more n edges 0 i j j l e (path_none n edges j))
  where
    back : path n edges 1 i j ≡ true → edges i j ≡ true
    back p = let w = first_step n edges 0 i j p in subst (λ x. edges i x ≡ true) (path_stays n edges w.next j w.rest) w.edge

-- Edges that agree below n have the same paths between states below n.
pub path_agrees : (n : ℕ) (edges edges' : ℕ → ℕ → Bool) → ((i j : ℕ) → i < n → j < n → edges i j ≡ edges' i j)
    → (t i j : ℕ) → i < n → path n edges t i j ≡ path n edges' t i j
unfolding path
path_agrees n edges edges' h zero i j l = refl
path_agrees n edges edges' h (suc t) i j l =
    any_eq refl (λ k. edges i k && path n edges t k j) (λ k. edges' i k && path n edges' t k j)
    (λ k g. ap₂ ◌&&◌ (h i k l g) (path_agrees n edges edges' h t k j g))

-- More edges leave every path.
pub path_kept : (n : ℕ) (edges more : ℕ → ℕ → Bool) → ((i j : ℕ) → i < n → j < n → edges i j ≡ true → more i j ≡ true)
    → (t i j : ℕ) → i < n → path n edges t i j ≡ true → path n more t i j ≡ true
path_kept n edges more h zero i j l p = subst (λ x. path n more 0 i x ≡ true) (path_stays n edges i j p) (path_none n more i)
path_kept n edges more h (suc t) i j l p =
    let w = first_step n edges t i j p in
    path_more n more t i w.next j w.below (h i w.next l w.below w.edge) (path_kept n edges more h t w.next j w.below w.rest)

-- A path stays within what holds of its states year by year.
pub path_within : (n : ℕ) (edges : ℕ → ℕ → Bool) (inside : (u k : ℕ) → Type 0)
    → ((u k l : ℕ) → l < n → inside u k → edges k l ≡ true → inside (suc u) l)
    → (u t i j : ℕ) → inside u i → path n edges t i j ≡ true → inside (u + t) j
path_within n edges inside h u zero i j w p = rw (add-zero u) (subst (inside u) (path_stays n edges i j p) w)
path_within n edges inside h u (suc t) i j w p =
    let f = first_step n edges t i j p in
    rw (add-suc u t) (subst (λ x. inside x j) (suc-add u t) (path_within n edges inside h (suc u) t f.next j (h u i f.next f.below w f.edge) f.rest))

-- A count that mixes has a path from every state to every state.
pub mixes_path : (n : ℕ) (edges : ℕ → ℕ → Bool) (t : ℕ) → mixes n edges t ≡ true → (i j : ℕ) → i < n → j < n → path n edges t i j ≡ true
mixes_path n edges t e i j l g =
    all_true n (path n edges t i) (all_true n (λ i. all_below n (path n edges t i)) e i l) j g

pub path_mixes : (n : ℕ) (edges : ℕ → ℕ → Bool) (t : ℕ) → ((i j : ℕ) → i < n → j < n → path n edges t i j ≡ true) → mixes n edges t ≡ true
path_mixes n edges t h = all_hit n (λ i. all_below n (path n edges t i)) (λ i l. all_hit n (path n edges t i) (λ j g. h i j l g))

-- Two states without a path: the count does not mix.
pub no_path : (n : ℕ) (edges : ℕ → ℕ → Bool) (t i j : ℕ) → i < n → j < n → path n edges t i j ≡ false → mixes n edges t ≡ false
no_path n edges t i j l g e = all_miss n i (λ i. all_below n (path n edges t i)) l (all_miss n j (path n edges t i) g e)

-- And where what holds of every path from i does not hold of j.
pub no_path_within : (n : ℕ) (edges : ℕ → ℕ → Bool) (inside : (u k : ℕ) → Type 0)
    → ((u k l : ℕ) → l < n → inside u k → edges k l ≡ true → inside (suc u) l)
    → (t i j : ℕ) → i < n → j < n → inside 0 i → (inside t j → ⊥) → mixes n edges t ≡ false
no_path_within n edges inside closed t i j l g w out = no_path n edges t i j l g (by (path n edges t i j) refl)
  where
    by : (b : Bool) → path n edges t i j ≡ b → path n edges t i j ≡ false
    by true p = absurd (out (subst (λ x. inside x j) (zero-add t) (path_within n edges inside closed 0 t i j w p)))
    by false p = p

-- Edges that agree below n mix alike.
pub mixes_agrees : (n : ℕ) (edges edges' : ℕ → ℕ → Bool) → ((i j : ℕ) → i < n → j < n → edges i j ≡ edges' i j)
    → (t : ℕ) → mixes n edges t ≡ mixes n edges' t
mixes_agrees n edges edges' h t =
    all_eq n (λ i. all_below n (path n edges t i)) (λ i. all_below n (path n edges' t i))
    (λ i l. all_eq n (path n edges t i) (path n edges' t i) (λ j g. path_agrees n edges edges' h t i j l))

-- With more edges a count that mixes still does.
pub mixes_kept : (n : ℕ) (edges more : ℕ → ℕ → Bool) → ((i j : ℕ) → i < n → j < n → edges i j ≡ true → more i j ≡ true)
    → (t : ℕ) → mixes n edges t ≡ true → mixes n more t ≡ true
mixes_kept n edges more h t e = path_mixes n more t (λ i j l g. path_kept n edges more h t i j l (mixes_path n edges t e i j l g))

-- Once a count mixes, from 1 on, every later one does.
pub mixes_next : (n : ℕ) (edges : ℕ → ℕ → Bool) (t : ℕ) → mixes n edges (suc t) ≡ true → mixes n edges (suc (suc t)) ≡ true
mixes_next n edges t e =
    path_mixes n edges (suc (suc t))
    (λ i j l g.
    let w = first_step n edges t i i (mixes_path n edges (suc t) e i i l l) in
    path_more n edges (suc t) i w.next j w.below w.edge (mixes_path n edges (suc t) e w.next j w.below g))

pub mixes_later : (n : ℕ) (edges : ℕ → ℕ → Bool) (t d : ℕ) → mixes n edges (suc t) ≡ true → mixes n edges (suc (t + d)) ≡ true
mixes_later n edges t zero e = rw (add-zero t) e
mixes_later n edges t (suc d) e = rw (add-suc t d) (mixes_next n edges (t + d) (mixes_later n edges t d e))
