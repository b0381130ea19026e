-- The first count that mixes a cycle with one chord, for any number of states: one more than the square of the last state's number.
use Rattle.std.specs.Prelude.{ℕ, zero, suc, ◌+◌, ◌-◌, ◌*◌, ◌/◌, ◌%◌, ◌≤◌, ◌<◌, ◌≡◌, refl, Bool, true, ◌&&◌, ◌||◌, ◌⊎◌, eqb}
use Rattle.std.proofs.Common.{ap, ◌∙◌, subst, inl, inr, ⊎_elim, arith, mul-le-mul_right, eq-or-lt_of_le, le_of_suc-le-suc, div-add-mod', mod-lt, eqb-true, eq-eqb}
use Rattle.std.proofs.Math.Bool.{and-eq-true_iff, or-true}
use Rattle.std.proofs.Math.Nat.{le_dest}
use Rattle.std.proofs.Math.Decide.{dec_lt}
use Rattle.setchain.specs.Tests.{first_from}
use Rattle.setchain.specs.Mixing.{path, mixes}
use Rattle.setchain.proofs.Laws.Tests.{or_either}
use Rattle.setchain.proofs.Laws.Mixing.{path_none, path_more, path_mixes, no_path_within}
use Rattle.setchain.proofs.Mixed.{first_mixing}
use Rattle.setchain.proofs.Examples.{cycle_with_chord}

module _ (last : ℕ) (some : 1 ≤ last) where
  abbrev edges : ℕ → ℕ → Bool
  edges = cycle_with_chord last

  -- Each state leads to the next, and the last two lead to state 0; there is no other edge.
  edge_on : (i : ℕ) → edges i (suc i) ≡ true
  edge_on i = ap (λ b. b || eqb (suc i) 0 && (eqb i last || eqb (suc i) last)) (eq-eqb (suc i) (suc i) refl)

  edge_back : (i : ℕ) → i ≡ last → edges i 0 ≡ true
  edge_back i e = ap (λ b. eqb 0 (suc i) || (b || eqb (suc i) last)) (eq-eqb i last e) ∙ or-true (eqb 0 (suc i))

  edge_chord : (i : ℕ) → suc i ≡ last → edges i 0 ≡ true
  edge_chord i e =
      ap (λ b. eqb 0 (suc i) || b) (ap (λ b. eqb i last || b) (eq-eqb (suc i) last e) ∙ or-true (eqb i last)) ∙ or-true (eqb 0 (suc i))

  data Edge (i j : ℕ) : Type 0 where
    on : j ≡ suc i → Edge i j
    back : j ≡ 0 → i ≡ last → Edge i j
    chord : j ≡ 0 → suc i ≡ last → Edge i j

  edge_kind : (i j : ℕ) → edges i j ≡ true → Edge i j
  edge_kind i j e = ⊎_elim (λ h. on (eqb-true j (suc i) h)) down (or_either (eqb j (suc i)) _ e)
    where
      down : (eqb j 0 && (eqb i last || eqb (suc i) last)) ≡ true → Edge i j
      down h =
          let both = (and-eq-true_iff (eqb j 0) (eqb i last || eqb (suc i) last)).0 h in
          let zeroth = eqb-true j 0 both.0 in
          ⊎_elim (λ k. back zeroth (eqb-true i last k)) (λ k. chord zeroth (eqb-true (suc i) last k)) (or_either (eqb i last) (eqb (suc i) last) both.1)

  -- A walk of t years that leaves the last state `whole` times, and takes the chord `short` times; each of these takes it back by as many states.
  abbrev Walks : ℕ → Type 0
  Walks t =
      (whole short i j : ℕ) → i ≤ last → j ≤ last → t + i ≡ j + whole * suc last + short * last → (i ≡ last → whole ≡ 0 → short ≡ 0)
      → path (suc last) edges t i j ≡ true

  module _ (t : ℕ) (later : Walks t) where
    from_last : (whole short i j : ℕ) → i ≡ last → j ≤ last → suc t + i ≡ j + whole * suc last + short * last → (whole ≡ 0 → short ≡ 0)
        → path (suc last) edges (suc t) i j ≡ true
    from_last zero short i j z g e h = let none = ap (λ x. x * last) (h refl) in absurd (omega (arith, none))
    from_last (suc whole) short i j z g e h =
        path_more (suc last) edges t i 0 j (omega arith) (edge_back i z) (later whole short 0 j (omega arith) g (omega arith) (λ y. absurd (omega arith)))

    from_before : (whole short i j : ℕ) → suc i ≡ last → j ≤ last → suc t + i ≡ j + whole * suc last + short * last → path (suc last) edges (suc t) i j ≡ true
    from_before whole zero i j z g e =
        path_more (suc last) edges t i (suc i) j (omega arith) (edge_on i) (later whole 0 (suc i) j (omega arith) g (omega arith) (λ y x. refl))
    from_before whole (suc short) i j z g e =
        path_more (suc last) edges t i 0 j (omega arith) (edge_chord i z) (later whole short 0 j (omega arith) g (omega arith) (λ y. absurd (omega arith)))

    longer : Walks (suc t)
    longer whole short i j l g e h =
        ⊎_elim (λ z. from_last whole short i j z g e (h z))
        (λ less.
        ⊎_elim (λ z. from_before whole short i j z g e)
        (λ more. path_more (suc last) edges t i (suc i) j (omega arith) (edge_on i) (later whole short (suc i) j less g (omega arith) (λ z. absurd (omega arith))))
        (eq-or-lt_of_le less))
        (eq-or-lt_of_le l)

  walk : (t : ℕ) → Walks t
  walk zero zero zero i j l g e h = let same : i ≡ j = omega arith in subst (λ x. path (suc last) edges 0 i x ≡ true) same (path_none (suc last) edges i)
  walk zero zero (suc short) i j l g e h = let none = h (omega arith) refl in absurd (omega (arith, none))
  walk zero (suc whole) short i j l g e h = absurd (omega arith)
  walk (suc t) whole short i j l g e h = longer t (walk t) whole short i j l g e h

  -- A number of years as rounds of both lengths.
  record Rounds (v : ℕ) : Type 0 where
    pub whole : ℕ
    pub short : ℕ
    pub sum : v ≡ whole * suc last + short * last

  rounds : (v : ℕ) → last * last ≤ v + last → Rounds v
  rounds v l = by (le_dest (fits (dec_lt (v / last) (v % last))))
    where
      divided : v / last * last + v % last ≡ v
      divided = div-add-mod' v last

      rest : v % last < last
      rest = mod-lt v some

      fits : Dec (v / last < v % last) → v % last ≤ v / last
      fits (yes less) =
          let more : suc (suc (v / last)) * last ≤ last * last = mul-le-mul_right last (omega (arith, rest)) in
          absurd (omega (arith, more, divided, rest))
      fits (no more) = omega (arith, more)

      by : ((d : ℕ) × (v % last + d ≡ v / last)) → Rounds v
      by (d, e) = record { whole = v % last; short = d; sum = let times = ap (λ x. x * last) e in omega (arith, times, divided) }

  -- From the last state to itself: not in the square of its number.
  record Turned (u k : ℕ) : Type 0 where
    pub whole : ℕ
    pub short : ℕ
    pub sum : u + last ≡ k + suc whole * suc last + short * last

  abbrev Reached : (u k : ℕ) → Type 0
  Reached u k = ((u ≡ 0) × (k ≡ last)) ⊎ Turned u k

  reached_on : (u k l : ℕ) → l < suc last → Reached u k → edges k l ≡ true → Reached (suc u) l
  reached_on u k l g w e = inr (by w (edge_kind k l e))
    where
      by : Reached u k → Edge k l → Turned (suc u) l
      by (inl (z, y)) (on x) = absurd (omega arith)
      by (inl (z, y)) (back x v) = record { whole = 0; short = 0; sum = omega arith }
      by (inl (z, y)) (chord x v) = absurd (omega arith)
      by (inr r) (on x) = record { whole = r.whole; short = r.short; sum = omega (arith, r.sum) }
      by (inr r) (back x v) = record { whole = suc r.whole; short = r.short; sum = omega (arith, r.sum) }
      by (inr r) (chord x v) = record { whole = r.whole; short = suc r.short; sum = omega (arith, r.sum) }

  not_reached : Reached (last * last) last → ⊥
  not_reached (inl (z, y)) = let square = mul-le-mul_right last some in omega (arith, square)
  not_reached (inr r) = by (dec_lt (suc (r.whole + r.short)) last)
    where
      by : Dec (suc (r.whole + r.short) < last) → ⊥
      by (yes few) = let more = mul-le-mul_right last few in omega (arith, more, r.sum)
      by (no many) =
          let more : last * last ≤ suc (r.whole + r.short) * last = mul-le-mul_right last (omega (arith, many)) in
          omega (arith, more, r.sum)

  -- One more than the square mixes, from every state to every state.
  all_reached : (i j : ℕ) → i < suc last → j < suc last → path (suc last) edges (suc (last * last)) i j ≡ true
  all_reached i j l g = ⊎_elim from_end (λ less. onward less (rounds (suc (last * last) + i - j) (omega arith))) (eq-or-lt_of_le (le_of_suc-le-suc l))
    where
      square : last ≤ last * last
      square = let more = mul-le-mul_right last some in omega (arith, more)

      onward : i < last → Rounds (suc (last * last) + i - j) → path (suc last) edges (suc (last * last)) i j ≡ true
      onward less r = walk (suc (last * last)) r.whole r.short i j (omega arith) (omega arith) (omega (arith, r.sum, square)) (λ z. absurd (omega arith))

      from_end : i ≡ last → path (suc last) edges (suc (last * last)) i j ≡ true
      from_end z =
          let r = rounds (last * last - j) (omega (arith, square)) in
          walk (suc (last * last)) (suc r.whole) r.short i j (omega arith) (omega arith) (omega (arith, r.sum, square)) (λ y e. absurd (omega (arith, e)))

  pub cycle_first : (limit : ℕ) → last * last < limit → first_from limit 1 (mixes (suc last) edges) ≡ suc (last * last)
  cycle_first limit l =
      first_mixing limit (suc last) edges (last * last) l
      (λ _. no_path_within (suc last) edges Reached reached_on (last * last) last last (omega arith) (omega arith) (inl (refl, refl)) not_reached)
      (path_mixes (suc last) edges (suc (last * last)) all_reached)
