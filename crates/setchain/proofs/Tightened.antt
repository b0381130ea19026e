-- Theorems about tight rows (document 02, item 2): the same stochastic rows lie inside, every end is reached, tightening again changes nothing,
-- no other row is tight with these rows inside, and all figures and promises of a chain are those of the chain with tight rows.
use Rattle.std.specs.Prelude.{ℕ, min, ◌+◌, ◌-◌, ◌≤◌, ◌<◌, ◌≡◌, refl, Bool, true, false, not, List, [], ◌∷◌, eqb}
use Rattle.std.proofs.Common.{ap, sym, ◌∙◌, subst, arith}
use Rattle.std.proofs.Math.Decide.{dec_lt}
use Rattle.setchain.specs.Sums.{only_if}
use Rattle.setchain.specs.Fractions.{Fraction}
use Rattle.setchain.specs.Rows.{ONE, IntervalRow, SoundRow, Inside, Covers, SetChain, SoundChain, CoversChain}
use Rattle.setchain.specs.Step.{NotAfter, extreme_row, step_figure, Reaches}
use Rattle.setchain.specs.Years.{years_figure, nothing}
use Rattle.setchain.specs.Picks.{Matrix, InsideEach, none, also, PicksFor}
use Rattle.setchain.specs.Turns.{Turn, turned, Obeys}
use Rattle.setchain.specs.Promise.{Nearness, SomeNear, KeptBy}
use Rattle.setchain.specs.Tight.{sum_others, tight_row, tight_chain, end_of, ExtremeEntry, Tight}
use Rattle.setchain.proofs.Laws.Sums.{only_if_mono, sum_to_le}
use Rattle.setchain.proofs.Laws.NotAfter.{not_after_same, not_after_both}
use Rattle.setchain.proofs.Laws.Agreeing.{Agree, agree_refl, obeys_agree}
use Rattle.setchain.proofs.Laws.Cells.{entries_cover}
use Rattle.setchain.proofs.Laws.Step.{extreme_parts}
use Rattle.setchain.proofs.Laws.Obeys.{years_obey}
use Rattle.setchain.proofs.Laws.Reached.{reached_obeys}
use Rattle.setchain.specs.Reached.{reached_figure}
use Rattle.setchain.proofs.Laws.Tight.{others_and_own, tight_lower, tight_upper, tight_beyond, tight_ends, ends_inward, parts_sound}
use Rattle.setchain.proofs.Inward.{step_inward}

-- Any sound row over n states.
module _ {n : ℕ} {r : IntervalRow} (sound : SoundRow n r) where
  -- "The stochastic rows inside are the same as before": a row inside the old row lies inside the tight one,
  pub tight_covers : Covers n (tight_row n r) r
  tight_covers q h =
      record {
        positive = h.positive;
        sums = h.sums;
        above = λ j l. (tight_ends n r sound j l false).extreme q h;
        below = λ j l. (tight_ends n r sound j l true).extreme q h;
      }

  -- and a row inside the tight one lies inside the old row.
  pub covers_tight : Covers n r (tight_row n r)
  covers_tight = entries_cover n r (tight_row n r) (λ j l. omega (arith, tight_lower n r j l)) (λ j l. omega (arith, tight_upper n r j l))

  -- A tight row is sound.
  pub tight_sound : SoundRow n (tight_row n r)
  tight_sound =
      parts_sound n (tight_row n r) (extreme_row false n r nothing) (tight_covers _ (extreme_parts n r sound false nothing))
      (λ j l. omega (arith, tight_upper n r j l, sound.capped j l))

  -- An end that rows inside the old row reach is reached inside the tight one.
  reached_inside : {high : Bool} {j parts : ℕ} → ExtremeEntry high n r j parts → ExtremeEntry high n (tight_row n r) j parts
  reached_inside e =
      record { witness = e.witness; inside = tight_covers e.witness e.inside; reached = e.reached; extreme = λ q h. e.extreme q (covers_tight q h) }

  -- "every end of a tight row is reached by some stochastic row inside it": source 001's definition holds.
  pub tight_is_tight : Tight n (tight_row n r)
  tight_is_tight = record { minima = λ j l. reached_inside (tight_ends n r sound j l false); maxima = λ j l. reached_inside (tight_ends n r sound j l true) }

  -- Of no other row with the same rows inside.
  pub tight_only : (q : IntervalRow) → Tight n q → Covers n q r → Covers n r q → Agree n q (tight_row n r)
  tight_only q tight to back =
      record {
        lower = λ j l. same false (tight.minima j l) (tight_ends n r sound j l false);
        upper = λ j l. same true (tight.maxima j l) (tight_ends n r sound j l true);
      }
    where
      same : (high : Bool) {j a b : ℕ} → ExtremeEntry high n q j a → ExtremeEntry high n r j b → a ≡ b
      same high {a = a} {b = b} x y = not_after_both high (ends_inward high a b to x y) (ends_inward high b a back y x)

  -- Source 001's conditions (1) of a tight interval.
  pub tight_conditions : Tight n r → (j : ℕ) → j < n → (ONE ≤ r.lower j + sum_others n r.upper j) × (r.upper j + sum_others n r.lower j ≤ ONE)
  tight_conditions tight j l =
      let same = tight_only r tight (λ q h. h) (λ q h. h) in (
        omega (arith, same.lower j l, tight_lower n r j l),
        omega (arith, same.upper j l, tight_upper n r j l, others_and_own n r.lower j l, sound.lowers),
      )

-- "tightening again changes no entry".
pub tight_again : {n : ℕ} {r : IntervalRow} → SoundRow n r → tight_row n (tight_row n r) ≡ tight_row n r
tight_again {n} {r} sound = λ k. record { lower = λ j. lowers j k; upper = λ j. uppers j k }
  where
    again : Agree n (tight_row n r) (tight_row n (tight_row n r))
    again = tight_only (tight_sound sound) (tight_row n r) (tight_is_tight sound) (λ q h. h) (λ q h. h)

    by : (high : Bool) (j : ℕ) → (j < n → end_of high (tight_row n (tight_row n r)) j ≡ end_of high (tight_row n r) j) → Dec (j < n)
        → end_of high (tight_row n (tight_row n r)) j ≡ end_of high (tight_row n r) j
    by high j within (yes l) = within l
    by high j within (no g) = tight_beyond n (tight_row n r) j high (omega arith) ∙ sym (tight_beyond n r j high (omega arith))

    lowers : (j : ℕ) → (tight_row n (tight_row n r)).lower j ≡ (tight_row n r).lower j
    lowers j = by false j (λ l. sym (again.lower j l)) (dec_lt j n)

    uppers : (j : ℕ) → (tight_row n (tight_row n r)).upper j ≡ (tight_row n r).upper j
    uppers j = by true j (λ l. sym (again.upper j l)) (dec_lt j n)

-- "Both use the old entries": the other lower ends made tight first would leave each upper end the same.
pub order_of_ends : {n : ℕ} {r : IntervalRow} → SoundRow n r → (j : ℕ) → j < n → min (r.upper j) (ONE - sum_others n (tight_row n r).lower j) ≡ (tight_row n r).upper j
order_of_ends {n} {r} sound j l =
    omega (
      arith,
      tight_upper n r j l,
      tight_upper n (tight_row n r) j l,
      ap (λ q. q.upper j) (tight_again sound),
      sum_to_le n (λ k. only_if (not (eqb k j)) (r.lower k)) (λ k. only_if (not (eqb k j)) ((tight_row n r).lower k))
          (λ k m. only_if_mono (not (eqb k j)) (r.lower k) ((tight_row n r).lower k) (omega (arith, tight_lower n r k m))),
    )

-- Narrower rows make tight rows narrower (item 1): lower ends no smaller, upper ends no larger.
pub tight_inward : (high : Bool) {n : ℕ} {wide narrow : IntervalRow} → SoundRow n wide → SoundRow n narrow → Covers n wide narrow
    → (j : ℕ) → j < n → NotAfter high (end_of high (tight_row n wide) j) (end_of high (tight_row n narrow) j)
tight_inward high {n} {wide} {narrow} soundWide soundNarrow covers j l =
    ends_inward high (end_of high (tight_row n wide) j) (end_of high (tight_row n narrow) j) covers (tight_ends n wide soundWide j l high) (tight_ends n narrow soundNarrow j l high)

-- The step of a tight row has the same figure.
pub step_tight : (high : Bool) {n : ℕ} {r : IntervalRow} → SoundRow n r → (f : ℕ → ℕ) → step_figure high n (tight_row n r) f ≡ step_figure high n r f
step_tight high sound f =
    let same : (j : ℕ) → j < _ → NotAfter high (f j) (f j) = λ j l. not_after_same high refl in
    not_after_both high
    (step_inward high (tight_sound sound) sound (tight_covers sound) f f same)
    (step_inward high sound (tight_sound sound) (covers_tight sound) f f same)

-- A row that reaches a figure over the old row reaches it over the tight one.
pub reaches_tight : {high : Bool} {n : ℕ} {r : IntervalRow} → SoundRow n r → {f p : ℕ → ℕ} {figure : ℕ} → Reaches high n r f p figure → Reaches high n (tight_row n r) f p figure
reaches_tight sound w = record { inside = tight_covers sound _ w.inside; extreme = λ q h. w.extreme q (covers_tight sound _ h); rounded = w.rounded }

-- Chains with sound rows.
module _ {c : SetChain} (sound : SoundChain c) where
  pub chain_sound : SoundChain (tight_chain c)
  chain_sound i l = tight_sound (sound i l)

  pub chain_covers : CoversChain (tight_chain c) c
  chain_covers = record { states = refl; rows = λ i l. tight_covers (sound i l) }

  pub covers_chain : CoversChain c (tight_chain c)
  covers_chain = record { states = refl; rows = λ i l. covers_tight (sound i l) }

  -- Figures that obey it obey the chain with tight rows, whatever a state does with its one-year figure.
  pub obeys_tight : {high : Bool} {payoff : ℕ → ℕ} {turn : ℕ → Turn} {figure : ℕ → ℕ → ℕ} → Obeys high c payoff turn figure → Obeys high (tight_chain c) payoff turn figure
  obeys_tight {high} {payoff} {turn} {figure} w =
      record { start = w.start; more = λ t i l. w.more t i l ∙ ap (turned (turn i)) (sym (step_tight high (sound i l) (figure t))) }

  -- So figures that obey the one are those that obey the other.
  figures_tight : {high : Bool} {payoff : ℕ → ℕ} {turn : ℕ → Turn} {figure figure' : ℕ → ℕ → ℕ} → Obeys high (tight_chain c) payoff turn figure → Obeys high c payoff turn figure'
      → (t i : ℕ) → i < c.states → figure t i ≡ figure' t i
  figures_tight {high} tight plain =
      obeys_agree refl (λ i l. agree_refl c.states ((tight_chain c).row i)) tight (obeys_tight plain) (λ i l. refl) (λ i l. refl)

  -- The years have the same figures, for any payoff and any gain.
  pub years_tight : (high : Bool) (payoff gain : ℕ → ℕ) (t i : ℕ) → i < c.states → years_figure high (tight_chain c) payoff gain t i ≡ years_figure high c payoff gain t i
  years_tight high payoff gain = figures_tight (years_obey high (tight_chain c) payoff gain) (years_obey high c payoff gain)

  -- So has the chance of having reached a state (item 9).
  pub reached_tight : (high : Bool) (j t i : ℕ) → i < c.states → reached_figure high (tight_chain c) j t i ≡ reached_figure high c j t i
  reached_tight high j = figures_tight (reached_obeys high (tight_chain c) j) (reached_obeys high c j)

-- Picks inside the rows of one chain lie inside those of a chain that covers it.
inside_each : {wide narrow : SetChain} → CoversChain wide narrow → (ps : List Matrix) → InsideEach narrow ps → InsideEach wide ps
inside_each covers [] none = none
inside_each {wide} {narrow} covers (p ∷ ps) (also h rest) =
    also
    (λ i l.
    covers.rows i l (p i) (subst (λ n. Inside n (narrow.row i) (p i)) (sym covers.states) (h i (subst (λ n. i < n) covers.states l))))
    (inside_each covers ps rest)

pub picks_covered : {wide narrow : SetChain} → CoversChain wide narrow → (t : ℕ) (ps : List Matrix) → PicksFor narrow t ps → PicksFor wide t ps
picks_covered covers t ps h = record { years = h.years; inside = inside_each covers ps h.inside }

-- What low and high promise over one chain they promise over a chain with the same rows inside.
pub kept_same : {c d : SetChain} → CoversChain c d → CoversChain d c → {t : ℕ} {near : Nearness} {exact : List Matrix → Fraction} {low high : ℕ}
    → KeptBy c t near exact low high → KeptBy d t near exact low high
kept_same {c} {d} to back {t} {near} {exact} k =
    record { contains = λ ps h. k.contains ps (picks_covered to t ps h); low_close = some k.low_close; high_close = some k.high_close }
  where
    some : {bound : ℕ} → SomeNear c t near bound exact → SomeNear d t near bound exact
    some s = record { picks = s.picks; made = picks_covered back t s.picks s.made; close = s.close }

-- Demand 3 over the interval rows is demand 3 over the tight ones.
pub kept_tight : {c : SetChain} → SoundChain c → {t : ℕ} {near : Nearness} {exact : List Matrix → Fraction} {low high : ℕ}
    → KeptBy c t near exact low high → KeptBy (tight_chain c) t near exact low high
kept_tight sound = kept_same (covers_chain sound) (chain_covers sound)
