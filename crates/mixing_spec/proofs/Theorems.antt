-- What the mixing check's answer means, that it looks at no value beyond s and m, and what narrower bands do to it (document 02, items 1, 3 and 11).
use Rattle.std.specs.Prelude.{ℕ, suc, ◌*◌, ◌≤◌, ◌<◌, ◌≡◌, refl, Bool, true, false, not, List, [], ◌∷◌, eqb, ltb}
use Rattle.std.proofs.Math.Path.{ap}
use Rattle.std.proofs.Common.{ap₂, sym, ◌∙◌, subst, ⊎_elim, arith, le_trans, mul-le-mul, ltb-true, lt-ltb}
use Rattle.setchain.specs.Tests.{any_below}
use Rattle.setchain.specs.Fractions.{whole, ◌≺◌}
use Rattle.setchain.specs.Rows.{SoundRow}
use Rattle.setchain.specs.Picks.{Matrix, PicksFor, exact_share}
use Rattle.setchain.specs.Tight.{tight_row}
use Rattle.setchain.specs.Mixing.{mixes, Passes}
use Rattle.setchain.proofs.Tightened.{tight_inward}
use Rattle.setchain.proofs.Mixed.{path_passes, passes_path, mixed_shares, mixes_from}
use Rattle.setchain.proofs.Limit.{square_enough}
use Rattle.setchain.proofs.Laws.Tests.{FirstFound, found, absent, first_is, first_found, first_least, first_any, first_eq}
use Rattle.setchain.proofs.Laws.Mixing.{mixes_path, path_mixes, mixes_agrees, mixes_kept}
use Rattle.scheme.specs.declared.Scheme.{Scheme}
use Rattle.scheme.specs.Accepted.{Accepted}
use Rattle.scheme.specs.Cause.{cause_of}
use Rattle.scheme.specs.FirstCause.{◌when◌, or_else, first_of}
use Rattle.scheme.specs.Rows.{chain_of}
use Rattle.scheme.specs.Stored.{cleared}
use Rattle.scheme.specs.Values.{SameValues, Trimmed}
use Rattle.scheme.proofs.Laws.FirstCause.{first_none, second_none, second_cause, cause_either, answered, declined, by_cause}
use Rattle.scheme.proofs.Laws.Judged.{cause_accepted, accepted_cause, cause_most}
use Rattle.scheme.proofs.Laws.Sound.{accepted_sound}
use Rattle.scheme.proofs.Laws.Trimmed.{trimmed_covers}
use Rattle.scheme.proofs.Laws.Values.{Alike, same, alike_cause, alike_values, cleared_alike, row_same}
use Rattle.mixing_spec.specs.MixingAnswer.{MixingAnswer, scheme_edges, mixes_scheme, first_count, mixing_cause, mixing_number, mixing_answer}
use Rattle.mixing_spec.proofs.Laws.{first_cause_none, first_cause_some}

-- "a year count from 1 to 1,024 for which every class can go to every class" (item 3).
pub record MixingCount (s : Scheme) (count : ℕ) : Type 0 where
  pub from : 1 ≤ count
  pub to : count ≤ 1024
  pub mixing : mixes_scheme s count ≡ true

-- "the first year count that qualifies, with none below it" (item 11).
pub record ShortestCount (s : Scheme) (count : ℕ) : Type 0 where
  pub counted : MixingCount s count
  pub none : (t : ℕ) → 1 ≤ t → t < count → mixes_scheme s t ≡ false

module _ (s : Scheme) where
  -- The first count is the shortest, and the only one that is.
  shortest : {count : ℕ} → FirstFound 1024 1 (mixes_scheme s) count → (count ≡ 0 → ⊥) → ShortestCount s count
  shortest (found w) some =
      record { counted = record { from = w.low; to = omega (arith, w.high); mixing = w.passed }; none = w.before }
  shortest (absent h) some = absurd (some refl)

  pub first_shortest : (first_count s ≡ 0 → ⊥) → ShortestCount s (first_count s)
  unfolding first_count
  first_shortest some = shortest (first_found 1024 1 (mixes_scheme s)) some

  pub shortest_first : {count : ℕ} → ShortestCount s count → first_count s ≡ count
  unfolding first_count
  shortest_first {count} w =
      first_is (record { low = w.counted.from; high = omega (arith, w.counted.to); passed = w.counted.mixing; before = w.none })

  -- Every later count mixes too.
  pub later_counts : {count : ℕ} → MixingCount s count → (t : ℕ) → count ≤ t → mixes_scheme s t ≡ true
  unfolding mixes_scheme
  later_counts {count} m t l = mixes_from s.classes (scheme_edges s) count t m.from l m.mixing

  -- Any count that mixes is at least the first.
  pub first_not_after : {count : ℕ} → MixingCount s count → (1 ≤ first_count s) × (first_count s ≤ count)
  unfolding first_count
  first_not_after {count} m =
      let w = first_least 1024 1 (mixes_scheme s) count m.from (omega (arith, m.to)) m.mixing in
      (w.0.low, w.1)

  pub some_count : {count : ℕ} → MixingCount s count → mixing_cause s ≡ 0
  some_count m = first_cause_none s (λ z. omega (arith, z, (first_not_after m).0))

  -- Where the call is answered, with the first count.
  pub answer_some : mixing_number s ≡ 0 → first_count s ≡ 0 → ⊥
  answer_some z none = omega (arith, second_none (cause_of s) (mixing_cause s) z, first_cause_some s none)

  pub answer_first : mixing_number s ≡ 0 → (mixing_answer s).count ≡ first_count s
  answer_first z = answered (mixing_number s) (first_count s) 0 z

-- The limit of 1,024 years loses nothing: it is the square of 32, and where any count mixes, also one beyond it, the square of the number of classes does.
pub limit_enough : (s : Scheme) → cause_of s ≡ 0 → (t : ℕ) → 1 ≤ t → mixes_scheme s t ≡ true → mixes_scheme s 1024 ≡ true
unfolding mixes_scheme
limit_enough s ok t l m =
    let n = s.classes in
    let size = (accepted_cause s ok).size in
    let square : n * n ≤ 32 * 32 = mul-le-mul size.classes size.classes in
    let some : 1 * 1 ≤ n * n = mul-le-mul size.some_class size.some_class in
    mixes_from n (scheme_edges s) (n * n) 1024 some square (square_enough n (scheme_edges s) t l m)

-- So 16 says that no count mixes, however large.
pub never_mixes : (s : Scheme) → mixing_number s ≡ 16 → (t : ℕ) → 1 ≤ t → mixes_scheme s t ≡ false
never_mixes s e t l =
    ⊎_elim (λ early. absurd (omega (arith, early, cause_most s))) (λ late. by late (mixes_scheme s t) refl) (cause_either (cause_of s) (mixing_cause s) e)
  where
    by : (cause_of s ≡ 0) × (mixing_cause s ≡ 16) → (b : Bool) → mixes_scheme s t ≡ b → mixes_scheme s t ≡ false
    by (ok, none) true m =
        let last : MixingCount s 1024 = record { from = omega arith; to = omega arith; mixing = limit_enough s ok t l m } in
        absurd (omega (arith, none, some_count s last))
    by late false m = m

-- What item 3 promised of an answer.
pub record MixingAnswered (s : Scheme) (r : MixingAnswer) : Type 0 where
  -- Causes 3, 5 to 10, then 16 "if no such count up to 1,024 exists", or 0.
  pub number : r.number ≡ first_of (cause_of s ∷ 16 when not (any_below 1024 (λ t. mixes_scheme s (suc t))) ∷ [])
  -- A count that mixes where the call is not declined, and 0 where it is.
  pub count : r.number ≡ 0 → MixingCount s r.count
  pub declined_count : (r.number ≡ 0 → ⊥) → r.count ≡ 0

-- The answer keeps it.
pub mixing_answered : (s : Scheme) → MixingAnswered s (mixing_answer s)
unfolding first_count
mixing_answered s =
    record {
      number = ap (λ b. or_else (cause_of s) (16 when b)) (first_any 1024 (mixes_scheme s));
      count = λ z. subst (MixingCount s) (sym (answer_first s z)) (first_shortest s (answer_some s z)).counted;
      declined_count = λ some. declined (mixing_number s) (first_count s) 0 some;
    }

-- "every class can go to every class in exactly that many years, each step having a lower entry above 0": as a sequence of classes, and back.
pub record Sequences (s : Scheme) (count : ℕ) : Type 0 where
  pub between : (i j : ℕ) → i < s.classes → j < s.classes → Passes s.classes (scheme_edges s) count i j

pub mixing_passes : (s : Scheme) (count : ℕ) → mixes_scheme s count ≡ true → Sequences s count
unfolding mixes_scheme
mixing_passes s count e =
    record { between = λ i j l g. path_passes s.classes (scheme_edges s) count i j (mixes_path s.classes (scheme_edges s) count e i j l g) }

pub passes_mixing : (s : Scheme) (count : ℕ) → Sequences s count → mixes_scheme s count ≡ true
unfolding mixes_scheme
passes_mixing s count w =
    path_mixes s.classes (scheme_edges s) count (λ i j l g. passes_path s.classes (scheme_edges s) count i j (w.between i j l g))

-- What a long contract is sold on: after so many years every class has a share above 0 from every class, whatever is picked inside the intervals.
pub mixing_shares : (s : Scheme) → Accepted s → (count : ℕ) → MixingCount s count
    → (ps : List Matrix) → PicksFor (chain_of s) count ps → (i j : ℕ) → i < s.classes → j < s.classes → whole 0 ≺ exact_share s.classes j ps i
unfolding mixes_scheme
mixing_shares s ok count m = mixed_shares (accepted_sound s ok) count m.mixing

-- Schemes with the same values mix alike.
module _ {s s' : Scheme} (v : SameValues s s') where
  edges_same : (i j : ℕ) → i < s.classes → scheme_edges s i j ≡ scheme_edges s' i j
  edges_same i j l = ap₂ (λ n r. ltb 0 ((tight_row n r).lower j)) v.others.classes (row_same v i l)

  mixes_same : (count : ℕ) → mixes_scheme s count ≡ mixes_scheme s' count
  unfolding mixes_scheme
  mixes_same count =
      mixes_agrees s.classes (scheme_edges s) (scheme_edges s') (λ i j l g. edges_same i j l) count
      ∙ ap (λ n. mixes n (scheme_edges s') count) v.others.classes

  first_same : first_count s ≡ first_count s'
  unfolding first_count
  first_same = first_eq 1024 1 (mixes_scheme s) (mixes_scheme s') (λ t l. mixes_same t)

-- Schemes that no operation tells apart have the same answer.
alike_mixing : {s s' : Scheme} → Alike s s' → mixing_answer s ≡ mixing_answer s'
alike_mixing {s} {s'} w = ap₂ (λ n c. record { number = n; count = c }) number (by_cause number (λ z. first_same (alike_values w (first_none (cause_of s) (mixing_cause s) z))) refl)
  where
    number : mixing_number s ≡ mixing_number s'
    number = by_cause (alike_cause w) (λ z. ap (λ n. 16 when eqb n 0) (first_same (alike_values w z))) (alike_cause w)

-- Schemes with the same values.
pub same_mixing : {s s' : Scheme} → SameValues s s' → mixing_answer s ≡ mixing_answer s'
same_mixing v = alike_mixing (same v)

-- "Values stored beyond s or m are ignored", of every scheme, accepted or not.
pub mixing_ignored : (s : Scheme) → mixing_answer s ≡ mixing_answer (cleared s)
mixing_ignored s = alike_mixing (cleared_alike s)

-- Narrower bands (item 1) raise the tight lower entries: a count that mixes still does, so that the first count is no later, and where the one call is answered the other is too.
module _ {wide narrow : Scheme} (okWide : Accepted wide) (okNarrow : Accepted narrow) (trimmed : Trimmed wide narrow) where
  edges_kept : (i j : ℕ) → i < wide.classes → j < wide.classes → scheme_edges wide i j ≡ true → scheme_edges narrow i j ≡ true
  edges_kept i j l g e =
      let n = wide.classes in
      let same = trimmed.others.classes in
      let sound = subst (λ n. SoundRow n ((chain_of narrow).row i)) (sym same) (accepted_sound narrow okNarrow i (omega arith)) in
      let up = tight_inward false (accepted_sound wide okWide i l) sound ((trimmed_covers trimmed).rows i l) j g in
      let above = ltb-true 0 ((tight_row n ((chain_of wide).row i)).lower j) e in
      subst (λ n. ltb 0 ((tight_row n ((chain_of narrow).row i)).lower j) ≡ true) same
      (lt-ltb 0 ((tight_row n ((chain_of narrow).row i)).lower j) (le_trans above up))

  pub mixing_inward : (count : ℕ) → MixingCount wide count → MixingCount narrow count
  unfolding mixes_scheme
  mixing_inward count m =
      record {
        from = m.from;
        to = m.to;
        mixing =
            ap (λ n. mixes n (scheme_edges narrow) count) (sym trimmed.others.classes)
            ∙ mixes_kept wide.classes (scheme_edges wide) (scheme_edges narrow) edges_kept count m.mixing;
      }

  kept_first : mixing_number wide ≡ 0 → MixingCount narrow (first_count wide)
  kept_first z = mixing_inward (first_count wide) (first_shortest wide (answer_some wide z)).counted

  pub number_inward : mixing_number wide ≡ 0 → mixing_number narrow ≡ 0
  number_inward z = second_cause (cause_of narrow) (mixing_cause narrow) (cause_accepted narrow okNarrow) ∙ some_count narrow (kept_first z)

  pub first_inward : mixing_number wide ≡ 0 → (mixing_answer narrow).count ≤ (mixing_answer wide).count
  first_inward z = omega (arith, answer_first wide z, answer_first narrow (number_inward z), (first_not_after narrow (kept_first z)).1)
