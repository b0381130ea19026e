-- Products of matrices of bits, the paths that they hold, and the search for the first count that mixes.
use Rattle.std.specs.Prelude.{ℕ, zero, suc, ◌+◌, ◌-◌, ◌^◌, ◌≤◌, ◌<◌, ◌≡◌, refl, Bool, true, false, List, [], eqb, get_or, set, Option, Some, ok_or}
use Rattle.std.proofs.Common.{ap, ap₂, sym, ◌∙◌, subst, arith, pow-suc, eq-or-lt_of_le, le_of_suc-le-suc, ⊎_elim, add-one, length-set, get_or-set_same, get_or-set_other}
use Rattle.setchain.specs.Sums.{at}
use Rattle.setchain.specs.Tests.{all_below, first_from}
use Rattle.setchain.specs.Mixing.{path, mixes}
use Rattle.setchain.proofs.Mixed.{first_mixing, none_mixing}
use Rattle.setchain.proofs.Laws.Tests.{all_eq, first_eq}
use Rattle.setchain.proofs.Laws.Mixing.{path_sum, path_one, mixes_agrees}
use Rattle.scheme.specs.declared.Scheme.{Scheme}
use Rattle.scheme.specs.declared.Cause.TheVariants.{NotMixing}
use Rattle.scheme.specs.Cause.{cause_of}
use Rattle.scheme.proofs.Laws.Filled.{Filled}
use Rattle.mixing_spec.specs.MixingAnswer.{scheme_edges, mixes_scheme, first_count, mixing_answer_of, mixing_answer}
use Rattle.mixing_spec.proofs.Laws.{answer_not_mixing, answer_count}
use Rattle.mixing.specs.Bits.{bits_of, all_bits, has_bit, union_of, Holds, bit_edges}
use Rattle.mixing.specs.Powers.{counted, Squares, SquaresPre, Squaring, SquaresPost, LastPre, Halving, LastPost}
use Rattle.mixing.specs.Laws.Bits.{pow_most, bits_eq, bit_of, bits_full, union_holds}

module _ {n : ℕ} {base : List ℕ} {related : ℕ → ℕ → Bool} (held : Holds n base related) where
  -- The bits are what the matrix holds.
  held_bits : (i j : ℕ) → i < n → j < n → bit_edges base i j ≡ related i j
  held_bits i j l g = ap (λ x. has_bit x j) (held.rows i l) ∙ bit_of n (related i) j g

  pub bits_held : Holds n base (bit_edges base)
  bits_held = record { rows = λ i l. held.rows i l ∙ bits_eq n (related i) (bit_edges base i) (λ j g. sym (held_bits i j l g)) }

  -- So they mix alike.
  pub first_held : first_from 1024 1 (mixes n (bit_edges base)) ≡ first_from 1024 1 (mixes n related)
  first_held = first_eq 1024 1 (mixes n (bit_edges base)) (mixes n related) (λ t l. mixes_agrees n (bit_edges base) related held_bits t)

-- In one year the paths are the matrix itself.
one_held : {n : ℕ} {base : List ℕ} → Holds n base (bit_edges base) → Holds n base (path n (bit_edges base) 1)
one_held {n} {base} held = record { rows = λ i l. held.rows i l ∙ bits_eq n (bit_edges base i) (path n (bit_edges base) 1 i) (λ j g. sym (path_one n (bit_edges base) i j g)) }

-- A product holds the paths of both counts together.
product_held : {n : ℕ} (edges : ℕ → ℕ → Bool) {first second out : List ℕ} (a b : ℕ)
    → Holds n first (path n edges a) → Holds n second (path n edges b) → Filled 32 (λ i. union_of n (at first i) (at second)) n out → Holds n out (path n edges (a + b))
product_held {n} edges {first} {second} {out} a b held more f = record { rows = row }
  where
    row : (i : ℕ) → i < n → at out i ≡ bits_of n (path n edges (a + b) i)
    row i l =
        f.done i l
        ∙ union_holds n n (at first i) (at second) (path n edges a i) (path n edges b)
        (λ k g. ap (λ x. has_bit x k) (held.rows i l) ∙ bit_of n (path n edges a i) k g)
        more.rows
        ∙ bits_eq n _ (path n edges (a + b) i) (λ j g. sym (path_sum n edges a b i j l))

-- Every bit is set where so many years mix.
all_mix : {n : ℕ} (edges : ℕ → ℕ → Bool) {matrix : List ℕ} (t : ℕ) {full : ℕ} {all : Bool} → Holds n matrix (path n edges t) → full ≡ all_bits n
    → all ≡ all_below n (λ i. eqb (at matrix i) full) → mixes n edges t ≡ all
all_mix {n} edges {matrix} t {full} held is told =
    sym (told ∙ all_eq n (λ i. eqb (at matrix i) full) (λ i. all_below n (path n edges t i)) (λ i l. ap₂ eqb (held.rows i l) is ∙ bits_full n (path n edges t i)))

-- Twice a power of 2.
twice : (k : ℕ) → 2 ^ k + 2 ^ k ≡ 2 ^ suc k
twice k = omega (arith, pow-suc 2 k)

-- Squaring: at first the matrix itself is stored, and each turn stores one square more.
pub squaring_none : {n full : ℕ} {squares : List (List ℕ)} → SquaresPre n full squares → Squaring n (get_or squares 0 []) 0 squares
squaring_none {n} {full} {squares} pre =
    record {
      few = omega arith;
      stored = record { long = pre.long; first = refl; held = λ k l. first_held_at k (omega arith) };
      fails = λ j e. absurd (omega (arith, e));
    }
  where
    base : List ℕ
    base = get_or squares 0 []

    first_held_at : (k : ℕ) → 0 ≡ k → Holds n (get_or squares k []) (path n (bit_edges base) (2 ^ k))
    first_held_at k z = subst (λ k. Holds n (get_or squares k []) (path n (bit_edges base) (2 ^ k))) z (one_held pre.base)

module _ {n : ℕ} {base : List ℕ} {k : ℕ} {squares : List (List ℕ)} (w : Squaring n base k squares) {full : ℕ} {all : Bool} (is : full ≡ all_bits n)
    (told : all ≡ all_below n (λ i. eqb (at (get_or squares k []) i) full)) where
  looked : mixes n (bit_edges base) (2 ^ k) ≡ all
  looked = all_mix (bit_edges base) (2 ^ k) (w.stored.held k (omega arith)) is told

  pub squaring_stops : all ≡ true → SquaresPost n base k squares
  squaring_stops e =
      record {
        few = omega (arith, w.few);
        stored = record { long = w.stored.long; first = w.stored.first; held = λ j l. w.stored.held j (omega arith) };
        fails = w.fails;
        mixing = λ _. looked ∙ e;
      }

  failing : all ≡ false → (j : ℕ) → suc j ≡ suc k → mixes n (bit_edges base) (2 ^ j) ≡ false
  failing e j z = let same : j ≡ k = omega arith in ap (λ x. mixes n (bit_edges base) (2 ^ x)) same ∙ looked ∙ e

  abbrev HeldAt : ℕ → List ℕ → Type 0
  HeldAt j matrix = Holds n matrix (path n (bit_edges base) (2 ^ j))

  pub squaring_more : {squared : List ℕ} → all ≡ false → k < 10 → Filled 32 (λ i. union_of n (at (get_or squares k []) i) (at (get_or squares k []))) n squared
      → Squaring n base (k + 1) (set squares (k + 1) squared)
  squaring_more {squared} e less f = rw add-one (record { few = less; stored = more; fails = failing e })
    where
      own : Holds n squared (path n (bit_edges base) (2 ^ suc k))
      own = subst (λ t. Holds n squared (path n (bit_edges base) t)) (twice k) (product_held (bit_edges base) (2 ^ k) (2 ^ k) (w.stored.held k (omega arith)) (w.stored.held k (omega arith)) f)

      more : Squares n base (suc (suc k)) (set squares (suc k) squared)
      more =
          record {
            long = length-set squares (suc k) squared ∙ w.stored.long;
            first = get_or-set_other squares (suc k) 0 squared [] (λ q. omega (arith, q)) ∙ w.stored.first;
            held = λ j l. ⊎_elim (at_new j) (before j) (eq-or-lt_of_le (le_of_suc-le-suc l));
          }
        where
          at_new : (j : ℕ) → j ≡ suc k → HeldAt j (get_or (set squares (suc k) squared) j [])
          at_new j z =
              subst (λ j. HeldAt j (get_or (set squares (suc k) squared) j [])) (sym z)
              (subst (HeldAt (suc k)) (sym (get_or-set_same squares (suc k) squared [] (omega (arith, w.stored.long)))) own)

          before : (j : ℕ) → j < suc k → HeldAt j (get_or (set squares (suc k) squared) j [])
          before j l = subst (HeldAt j) (sym (get_or-set_other squares (suc k) j squared [] (λ q. omega (arith, q)))) (w.stored.held j l)

  pub squaring_ends : all ≡ false → 10 ≤ k → SquaresPost n base (k + 1) squares
  squaring_ends e past = rw add-one (record { few = omega (arith, w.few); stored = w.stored; fails = failing e; mixing = λ l. absurd (omega arith) })

-- The search between a count that does not mix and twice as many years: where it begins, one turn, and its end.
module _ {n full levels : ℕ} {squares : List (List ℕ)} (pre : LastPre n full levels squares) where
  abbrev base : List ℕ
  base = get_or squares 0 []

  abbrev edges : ℕ → ℕ → Bool
  edges = bit_edges base

  pub halving_start : {count : ℕ} → count ≡ 2 ^ (levels - 1) → Halving n base levels (levels - 1) (get_or squares (levels - 1) []) count
  halving_start is =
      let k = levels - 1 in
      let more : suc (levels - 1) ≡ levels = omega (arith, pre.some) in
      let double : 2 ^ k + 2 ^ k ≡ 2 ^ levels = twice k ∙ ap (λ x. 2 ^ x) more in
      subst (Halving n base levels k (get_or squares k [])) (sym is)
      (record {
        level = omega (arith, more);
        below = omega (arith, double);
        held = pre.left.stored.held k (omega (arith, more));
        fails = pre.left.fails k more;
        mixing = ap (mixes n edges) double ∙ pre.left.mixing pre.few;
      })

  module _ {k : ℕ} {within : List ℕ} {count : ℕ} (b : Halving n base levels k within count) (some : 0 < k) where
    halved : 2 ^ (k - 1) + 2 ^ (k - 1) ≡ 2 ^ k
    halved = let e : suc (k - 1) ≡ k = omega arith in twice (k - 1) ∙ ap (λ x. 2 ^ x) e

    module _ {further : List ℕ} {all : Bool}
        (f : Filled 32 (λ i. union_of n (at within i) (at (get_or squares (k - 1) []))) n further) (told : all ≡ all_below n (λ i. eqb (at further i) full)) where
      further_held : Holds n further (path n edges (count + 2 ^ (k - 1)))
      further_held = product_held edges count (2 ^ (k - 1)) b.held (pre.left.stored.held (k - 1) (omega (arith, b.level))) f

      looked_further : mixes n edges (count + 2 ^ (k - 1)) ≡ all
      looked_further = all_mix edges (count + 2 ^ (k - 1)) further_held pre.bits told

      -- The half does not mix: the count goes on by it. Or it does: the count stays.
      pub halving_on : {half : ℕ} → half ≡ 2 ^ (k - 1) → all ≡ false → Halving n base levels (k - 1) further (count + half)
      halving_on is e =
          let sum : count + 2 ^ (k - 1) + 2 ^ (k - 1) ≡ count + 2 ^ k = omega (arith, halved) in
          subst (λ half. Halving n base levels (k - 1) further (count + half)) (sym is)
          (record {
            level = omega (arith, b.level);
            below = omega (arith, halved, b.below);
            held = further_held;
            fails = looked_further ∙ e;
            mixing = ap (mixes n edges) sum ∙ b.mixing;
          })

      pub halving_stays : all ≡ true → Halving n base levels (k - 1) within count
      halving_stays e =
          record {
            level = omega (arith, b.level);
            below = omega (arith, halved, b.below);
            held = b.held;
            fails = b.fails;
            mixing = looked_further ∙ e;
          }

  pub halving_ends : {k : ℕ} {within : List ℕ} {count : ℕ} → Halving n base levels k within count → k ≡ 0 → LastPost n base count
  halving_ends {k} {within} {count} b z =
      let one : 2 ^ k ≡ 1 = ap (λ x. 2 ^ x) z in
      let next : count + 2 ^ k ≡ suc count = omega (arith, one) in
      record { below = omega (arith, one, b.below, pow_most levels 10 pre.few); fails = b.fails; mixing = ap (mixes n edges) (sym next) ∙ b.mixing }

-- The first count: 1, or one more than the last that does not mix, or none to 1,024.
module _ {n : ℕ} {base : List ℕ} {levels : ℕ} {squares : List (List ℕ)} (left : SquaresPost n base levels squares) where
  pub first_at_once : levels ≡ 0 → 1 ≡ first_from 1024 1 (mixes n (bit_edges base))
  first_at_once z =
      let one : 2 ^ levels ≡ 1 = ap (λ x. 2 ^ x) z in
      sym (first_mixing 1024 n (bit_edges base) 0 (omega arith) (λ l. absurd (omega arith)) (ap (mixes n (bit_edges base)) (sym one) ∙ left.mixing (omega arith)))

  pub first_never : 10 < levels → 0 ≡ first_from 1024 1 (mixes n (bit_edges base))
  first_never past = sym (none_mixing 1024 n (bit_edges base) (left.fails 10 (omega (arith, left.few))))

  pub search_asks : {full : ℕ} → n ≤ 32 → full ≡ all_bits n → (levels ≡ 0 → ⊥) → levels ≤ 10 → LastPre n full levels squares
  search_asks classes is some few =
      record { classes = classes; bits = is; some = omega (arith, some); few = few; left = subst (λ b. SquaresPost n b levels squares) (sym left.stored.first) left }

  pub first_after_last : {count : ℕ} → LastPost n (get_or squares 0 []) count → count + 1 ≡ first_from 1024 1 (mixes n (bit_edges base))
  first_after_last {count} found =
      let w = subst (λ b. LastPost n b count) left.stored.first found in
      rw add-one (sym (first_mixing 1024 n (bit_edges base) count w.below (λ _. w.fails) w.mixing))

-- On a scheme's edges it is the scheme's first count.
pub scheme_first : (s : Scheme) {matrix : List ℕ} {count : ℕ}
    → Holds s.classes matrix (scheme_edges s) → count ≡ first_from 1024 1 (mixes s.classes (bit_edges matrix)) → count ≡ first_count s
unfolding first_count mixes_scheme
scheme_first s held is = is ∙ first_held held

-- A count above 0 is told as such.
pub counted_some : {count first : ℕ} → 0 < count → count ≡ first → Some count ≡ counted first
counted_some {first = zero} some is = absurd (omega (arith, some, is))
counted_some {first = suc before} some is = ap Some is

-- The answer of an accepted scheme, by its first count.
pub counted_answer : (s : Scheme) → cause_of s ≡ 0 → {r : Option ℕ} → r ≡ counted (first_count s) → mixing_answer_of (ok_or r NotMixing) ≡ mixing_answer s
counted_answer s ok is = ap (λ r. mixing_answer_of (ok_or r NotMixing)) is ∙ by (first_count s) refl
  where
    by : (count : ℕ) → count ≡ first_count s → mixing_answer_of (ok_or (counted count) NotMixing) ≡ mixing_answer s
    by zero none = answer_not_mixing s ok none refl
    by (suc before) some = answer_count s ok some (λ z. omega (arith, z))
