-- Bands in order whose sums enclose ONE give a sound interval row, and bands inside bands give rows inside rows.
use Rattle.std.specs.Prelude.{ℕ, ◌≤◌, ◌<◌, ◌≡◌, refl, eqb}
use Rattle.std.proofs.Common.{ap, sym, ◌∙◌, subst, arith, le_trans, mul-le-mul_right}
use Rattle.setchain.specs.Sums.{sum_to, only_if}
use Rattle.setchain.specs.Rows.{ONE, IntervalRow, SoundRow, Covers}
use Rattle.setchain.specs.Cells.{Cells, sum_into, row_of, SoundCells, BandsWithin}
use Rattle.setchain.proofs.Laws.Sums.{only_if_le, only_if_mono, eqb_flip, sum_to_eq, sum_to_le, sum_to_swap, sum_to_point, min_sum_le}

-- Ends in order cell by cell, summed where columns merge.
into_mono : (count : ℕ) (target target' band band' : ℕ → ℕ) → ((k : ℕ) → k < count → target k ≡ target' k) → ((k : ℕ) → k < count → band k ≤ band' k) → (j : ℕ)
    → sum_to count (λ k. only_if (eqb (target k) j) (band k)) ≤ sum_to count (λ k. only_if (eqb (target' k) j) (band' k))
into_mono count target target' band band' targets bands j =
    sum_to_le count (λ k. only_if (eqb (target k) j) (band k)) (λ k. only_if (eqb (target' k) j) (band' k))
    (λ k l.
    subst (λ s. only_if (eqb (target k) j) (band k) ≤ only_if (eqb s j) (band' k)) (targets k l)
    (only_if_mono (eqb (target k) j) (band k) (band' k) (bands k l)))

module _ (n : ℕ) (c : Cells) (sound : SoundCells n c) where
  -- Each cell leads to one state, so nothing is lost and nothing counted twice.
  pub sum_of_sums : (band : ℕ → ℕ) → sum_to n (sum_into c band) ≡ sum_to c.count band
  sum_of_sums band =
      sum_to_swap n c.count (λ j k. only_if (eqb (c.target k) j) (band k))
      ∙ sum_to_eq c.count (λ k. sum_to n (λ j. only_if (eqb (c.target k) j) (band k))) band (λ k l. at k l)
    where
      at : (k : ℕ) → k < c.count → sum_to n (λ j. only_if (eqb (c.target k) j) (band k)) ≡ band k
      at k l =
          sum_to_eq n (λ j. only_if (eqb (c.target k) j) (band k)) (λ j. only_if (eqb j (c.target k)) (band k))
          (λ j m. ap (λ b. only_if b (band k)) (eqb_flip (c.target k) j))
          ∙ sum_to_point n (λ j. band k) (c.target k) (sound.leads k l)

  into_le : (j : ℕ) → sum_into c c.lower j ≤ sum_into c c.upper j
  into_le = into_mono c.count c.target c.target c.lower c.upper (λ k l. refl) sound.ordered

  pub into_all : (j : ℕ) → sum_into c c.lower j ≤ sum_to c.count c.lower
  into_all j =
      sum_to_le c.count (λ k. only_if (eqb (c.target k) j) (c.lower k)) c.lower
      (λ k l. only_if_le (eqb (c.target k) j) (c.lower k))

  pub cells_sound : SoundRow n (row_of c)
  cells_sound =
      record {
        ordered = λ j l. omega (arith, into_le j, into_all j, sound.lowers);
        capped = λ j l. omega arith;
        lowers = omega (arith, sum_of_sums c.lower, sound.lowers);
        uppers = omega (arith, min_sum_le n ONE (sum_into c c.upper), sum_of_sums c.upper, sound.uppers);
      }

-- Entries inside entries are rows inside rows.
pub entries_cover : (n : ℕ) (wide narrow : IntervalRow) → ((j : ℕ) → j < n → wide.lower j ≤ narrow.lower j) → ((j : ℕ) → j < n → narrow.upper j ≤ wide.upper j)
    → Covers n wide narrow
entries_cover n wide narrow lowers uppers q inside =
    record {
      positive = inside.positive;
      sums = inside.sums;
      above = λ j l. le_trans (mul-le-mul_right q.over (lowers j l)) (inside.above j l);
      below = λ j l. le_trans (inside.below j l) (mul-le-mul_right q.over (uppers j l));
    }

-- Bands inside bands are rows inside rows, also where an upper entry is held to ONE.
pub bands_cover : (n : ℕ) {wide narrow : Cells} → BandsWithin wide narrow → Covers n (row_of wide) (row_of narrow)
bands_cover n {wide} {narrow} within = entries_cover n (row_of wide) (row_of narrow) (λ j l. lower j) (λ j l. let h = upper j in omega arith)
  where
    counted : (band : ℕ → ℕ) (j : ℕ) → sum_to wide.count (λ k. only_if (eqb (narrow.target k) j) (band k)) ≡ sum_into narrow band j
    counted band j = ap (λ n. sum_to n (λ k. only_if (eqb (narrow.target k) j) (band k))) within.count

    lower : (j : ℕ) → sum_into wide wide.lower j ≤ sum_into narrow narrow.lower j
    lower j = omega (arith, counted narrow.lower j, into_mono wide.count wide.target narrow.target wide.lower narrow.lower within.targets within.lowers j)

    upper : (j : ℕ) → sum_into narrow narrow.upper j ≤ sum_into wide wide.upper j
    upper j =
        omega (
          arith,
          counted narrow.upper j,
          into_mono wide.count narrow.target wide.target narrow.upper wide.upper (λ k l. sym (within.targets k l)) within.uppers j,
        )
