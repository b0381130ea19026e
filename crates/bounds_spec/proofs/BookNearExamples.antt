-- How near pooled figures have to come (document 02, item 7), on schemes whose exact figures are known: just so near, and just too far.
use Rattle.std.specs.Prelude.{ℕ, ◌≤◌, ◌<◌, ◌≡◌, refl, eqb}
use Rattle.std.proofs.Common.{sym}
use mathlib.Core.List.{List, [], ◌∷◌}
use Rattle.std.proofs.Math.ListN.{length}
use native.Mathlib.Omega.{arith}
use Rattle.setchain.specs.Sums.{at, sum_to, only_if}
use Rattle.setchain.specs.Fractions.{Fraction, whole, ◌≼◌, ◌≈◌, Proper, sum_fractions}
use Rattle.setchain.specs.Step.{capacity_before, fill_row, step_figure}
use Rattle.setchain.specs.Years.{years_figure}
use Rattle.setchain.specs.Picks.{Matrix, PicksFor, none, product, exact_mean, exact_total}
use Rattle.setchain.specs.Promise.{Between, NoFurther, Nearer, cent_and_tenths}
use Rattle.setchain.proofs.Theorems.{exact_proper}
use Rattle.setchain.proofs.Kept.{kept_as, Pinned, pinned_no_further}
use Rattle.setchain.proofs.PooledTheorems.{share_pooled}
use Rattle.setchain.proofs.Laws.Sums.{below_two}
use Rattle.setchain.proofs.Laws.Pooled.{proper_pooled, one_count, one_exact}
use Rattle.scheme.specs.declared.Scheme.{Scheme}
use Rattle.scheme.specs.Access.{premium_at}
use Rattle.scheme.specs.Rows.{chain_of}
use Rattle.scheme.proofs.Examples.{scheme_a}
use Rattle.bounds_spec.specs.Answers.{Answered}
use Rattle.bounds_spec.specs.Promises.{MoneyKept, start_mean}
use Rattle.bounds_spec.specs.Pooled.{Figure, exact_figure, exact_of, PooledKept, PooledPromise}
use Rattle.bounds_spec.proofs.Examples.{fixed_bands}
use Rattle.bounds_spec.proofs.ClosenessExamples.{hundredths, Fixed, sound, all_fixed, picks_fixed, money_edges}

-- One chamber in each class: in year 0 exactly half of them are in class 1. One part more or less is "within t + 1 parts" of it, two are not.
pub record ShareEdges : Type 0 where
  pub near : PooledPromise scheme_a (1 ∷ 1 ∷ []) (Figure.share 1) 0 (Answered 499999999 500000001)
  pub low_wide : PooledPromise scheme_a (1 ∷ 1 ∷ []) (Figure.share 1) 0 (Answered 499999998 500000000) → ⊥
  pub high_wide : PooledPromise scheme_a (1 ∷ 1 ∷ []) (Figure.share 1) 0 (Answered 500000000 500000002) → ⊥
  pub low_tight : PooledPromise scheme_a (1 ∷ 1 ∷ []) (Figure.share 1) 0 (Answered 500000001 500000001) → ⊥
  pub high_tight : PooledPromise scheme_a (1 ∷ 1 ∷ []) (Figure.share 1) 0 (Answered 499999999 499999999) → ⊥

no_picks : PicksFor (chain_of scheme_a) 0 []
no_picks = record { years = refl; inside = none }

-- The exact half, of the only picks that there are.
module _ (ps : List Matrix) (picks : PicksFor (chain_of scheme_a) 0 ps) where
  half : (low high : ℕ) → low ≤ 500000000 → 500000000 ≤ high → Between low high (exact_of scheme_a (1 ∷ 1 ∷ []) (Figure.share 1) ps)
  unfolding product sum_fractions sum_to only_if
  half low high l h = by ps picks.years
    where
      by : (ps : List Matrix) → length ps ≡ 0 → Between low high (exact_of scheme_a (1 ∷ 1 ∷ []) (Figure.share 1) ps)
      by [] e = record { least = omega arith; most = omega arith }
      by (p ∷ ps) e = absurd (omega arith)

  near_half : (bound : ℕ) → NoFurther (whole 1) bound (exact_of scheme_a (1 ∷ 1 ∷ []) (Figure.share 1) ps) → (499999999 ≤ bound) × (bound ≤ 500000001)
  unfolding product sum_fractions sum_to only_if
  near_half bound = by ps picks.years
    where
      by : (ps : List Matrix) → length ps ≡ 0 → NoFurther (whole 1) bound (exact_of scheme_a (1 ∷ 1 ∷ []) (Figure.share 1) ps) → (499999999 ≤ bound) × (bound ≤ 500000001)
      by [] e h = (omega (arith, h.over), omega (arith, h.under))
      by (p ∷ ps) e h = absurd (omega arith)

pub share_edges : ShareEdges
unfolding product sum_fractions sum_to only_if
share_edges =
    record {
      near = λ z.
          record {
            contains = λ ps picks. half ps picks 499999999 500000001 (omega arith) (omega arith);
            low_close = record { picks = []; made = no_picks; close = record { under = omega arith; over = omega arith } };
            high_close = record { picks = []; made = no_picks; close = record { under = omega arith; over = omega arith } };
          };
      low_wide = λ h. let s = (h refl).low_close in omega (arith, near_half s.picks s.made 499999998 s.close);
      high_wide = λ h. let s = (h refl).high_close in omega (arith, near_half s.picks s.made 500000002 s.close);
      low_tight = λ h. omega (arith, ((h refl).contains [] no_picks).least);
      high_tight = λ h. omega (arith, ((h refl).contains [] no_picks).most);
    }

-- Where nine tenths are picked in year 1 from both classes, two parts more or less are "within t + 1 parts", three are not.
pub record YearEdges : Type 0 where
  pub near : PooledPromise (fixed_bands 900000000 100000000) (1 ∷ 1 ∷ []) (Figure.share 1) 1 (Answered 899999998 900000002)
  pub low_wide : PooledPromise (fixed_bands 900000000 100000000) (1 ∷ 1 ∷ []) (Figure.share 1) 1 (Answered 899999997 900000000) → ⊥
  pub high_wide : PooledPromise (fixed_bands 900000000 100000000) (1 ∷ 1 ∷ []) (Figure.share 1) 1 (Answered 900000000 900000003) → ⊥

nine_tenths : PooledKept (fixed_bands 900000000 100000000) (1 ∷ 1 ∷ []) (Figure.share 1) 1 900000000 900000000
unfolding years_figure step_figure fill_row capacity_before sum_to only_if
nine_tenths = share_pooled (chain_of (fixed_bands 900000000 100000000)) (sound all_fixed.0) (at (1 ∷ 1 ∷ [])) (omega arith) 1 0

nine_pinned : {low high : ℕ} → PooledKept (fixed_bands 900000000 100000000) (1 ∷ 1 ∷ []) (Figure.share 1) 1 low high → Pinned ◌≼◌ (whole 2) 900000000 900000000 low high
unfolding sum_to
nine_pinned = pinned_no_further proper nine_tenths
  where
    proper : (ps : List Matrix) → PicksFor (chain_of (fixed_bands 900000000 100000000)) 1 ps → Proper (exact_of (fixed_bands 900000000 100000000) (1 ∷ 1 ∷ []) (Figure.share 1) ps)
    proper ps picks =
        proper_pooled 2 (at (1 ∷ 1 ∷ [])) (omega arith) (exact_figure (fixed_bands 900000000 100000000) (Figure.share 1) ps)
        (λ i l. (exact_proper (chain_of (fixed_bands 900000000 100000000)) (sound all_fixed.0) (λ k. 0) 0 1 ps picks i l).0)

pub year_edges : YearEdges
year_edges =
    record {
      near = λ z.
          let low = nine_tenths.low_close in
          let high = nine_tenths.high_close in
          let lowExact = nine_tenths.contains low.picks low.made in
          let highExact = nine_tenths.contains high.picks high.made in
          record {
            contains = λ ps picks. let exact = nine_tenths.contains ps picks in record { least = omega (arith, exact.least); most = omega (arith, exact.most) };
            low_close = record { picks = low.picks; made = low.made; close = record { under = omega (arith, lowExact.most); over = omega (arith, lowExact.least) } };
            high_close = record { picks = high.picks; made = high.made; close = record { under = omega (arith, highExact.most); over = omega (arith, highExact.least) } };
          };
      low_wide = λ h. omega (arith, (nine_pinned (h refl)).low_below);
      high_wide = λ h. omega (arith, (nine_pinned (h refl)).high_above);
    }

-- One chamber in class 1: with a nine-tenths band and a tenth its exact mean is 10.1 cents, 1.1 from 9; with .91 and .09 it is 10.09. The other way round it is 10.9, 1.1 from 12, and 10.91.
pub record PooledMoneyEdges : Type 0 where
  pub low_at : PooledPromise (fixed_bands 900000000 100000000) (1 ∷ []) Figure.mean 1 (Answered 9 11) → ⊥
  pub low_nearer : PooledPromise (fixed_bands 910000000 90000000) (1 ∷ []) Figure.mean 1 (Answered 9 11)
  pub high_at : PooledPromise (fixed_bands 100000000 900000000) (1 ∷ []) Figure.mean 1 (Answered 10 12) → ⊥
  pub high_nearer : PooledPromise (fixed_bands 90000000 910000000) (1 ∷ []) Figure.mean 1 (Answered 10 12)

-- The chamber is one in the start class, so these are the edges of `mean` (`money_edges` of `ClosenessExamples`).
alone : (j : ℕ) → j < 2 → at (1 ∷ []) j ≡ only_if (eqb j 0) 1
unfolding only_if
alone = below_two (λ j. at (1 ∷ []) j ≡ only_if (eqb j 0) 1) refl refl

module _ {first second : ℕ} (fixed : Fixed (fixed_bands first second)) where
  abbrev s : Scheme
  s = fixed_bands first second

  same : (ps : List Matrix) → PicksFor (chain_of s) 1 ps
      → Proper (exact_of s (1 ∷ []) Figure.mean ps) × Proper (start_mean s ps) × (exact_of s (1 ∷ []) Figure.mean ps ≈ start_mean s ps)
  same ps picks =
      let each : (i : ℕ) → i < 2 → Proper (exact_figure s Figure.mean ps i) = λ i l. (exact_proper (chain_of s) (sound fixed) (premium_at s) 0 1 ps picks i l).1 in (
        proper_pooled 2 (at (1 ∷ [])) (omega (arith, one_count 2 (at (1 ∷ [])) 0 (omega arith) alone)) (exact_figure s Figure.mean ps) each,
        each 0 (omega arith),
        one_exact 2 (at (1 ∷ [])) (exact_figure s Figure.mean ps) 0 (omega arith) alone,
      )

  pooled_edge : {low high : ℕ} → MoneyKept s 1 (start_mean s) low high → PooledKept s (1 ∷ []) Figure.mean 1 low high
  pooled_edge = kept_as (λ ps picks. let w = same ps picks in (w.1, w.0, sym w.2))

  start_edge : {low high : ℕ} → PooledKept s (1 ∷ []) Figure.mean 1 low high → MoneyKept s 1 (start_mean s) low high
  start_edge = kept_as same

pub pooled_money_edges : PooledMoneyEdges
pooled_money_edges =
    record {
      low_at = λ h. money_edges.low_at (λ z. start_edge all_fixed.0 (h z));
      low_nearer = λ z. pooled_edge all_fixed.1 (money_edges.low_nearer z);
      high_at = λ h. money_edges.high_at (λ z. start_edge all_fixed.2 (h z));
      high_nearer = λ z. pooled_edge all_fixed.3 (money_edges.high_nearer z);
    }

-- Premiums of 10 and 11 in year 0: over nine chambers and one the exact total of one year is 10.1 cents, 1.1 from 9, over 91 and nine 10.09;
-- over one and nine 10.9, 1.1 from 12, over nine and 91 10.91.
pub record PooledTotalEdges : Type 0 where
  pub low_at : PooledPromise (fixed_bands 900000000 100000000) (9 ∷ 1 ∷ []) Figure.total 1 (Answered 9 11) → ⊥
  pub low_nearer : PooledPromise (fixed_bands 900000000 100000000) (91 ∷ 9 ∷ []) Figure.total 1 (Answered 9 11)
  pub high_at : PooledPromise (fixed_bands 900000000 100000000) (1 ∷ 9 ∷ []) Figure.total 1 (Answered 10 12) → ⊥
  pub high_nearer : PooledPromise (fixed_bands 900000000 100000000) (9 ∷ 91 ∷ []) Figure.total 1 (Answered 10 12)

-- What holds of the first premiums holds of every list of one matrix.
of_one : (P : List Matrix → Type 0) → ((p : Matrix) → P (p ∷ [])) → (ps : List Matrix) → PicksFor (chain_of (fixed_bands 900000000 100000000)) 1 ps → P ps
of_one P h ps picks = by ps picks.years
  where
    by : (ps : List Matrix) → length ps ≡ 1 → P ps
    by [] e = absurd (omega arith)
    by (p ∷ []) e = h p
    by (p ∷ q ∷ ps) e = absurd (omega arith)

abbrev total_of : List ℕ → List Matrix → Fraction
total_of book = exact_of (fixed_bands 900000000 100000000) book Figure.total

pub pooled_total_edges : PooledTotalEdges
unfolding exact_total exact_mean product sum_fractions sum_to only_if
pooled_total_edges =
    record {
      low_at = λ h.
          let near = (h refl).low_close in
          of_one (λ ps. Nearer (cent_and_tenths 1) 9 (total_of (9 ∷ 1 ∷ []) ps) → ⊥) (λ p w. omega (arith, w.under)) near.picks near.made near.close;
      low_nearer = λ z.
          record {
            contains = of_one (λ ps. Between 9 11 (total_of (91 ∷ 9 ∷ []) ps)) (λ p. record { least = omega arith; most = omega arith });
            low_close = record { picks = hundredths 90 10; made = picks_fixed 90 10 refl; close = record { under = omega arith; over = omega arith } };
            high_close = record { picks = hundredths 90 10; made = picks_fixed 90 10 refl; close = record { under = omega arith; over = omega arith } };
          };
      high_at = λ h.
          let near = (h refl).high_close in
          of_one (λ ps. Nearer (cent_and_tenths 1) 12 (total_of (1 ∷ 9 ∷ []) ps) → ⊥) (λ p w. omega (arith, w.over)) near.picks near.made near.close;
      high_nearer = λ z.
          record {
            contains = of_one (λ ps. Between 10 12 (total_of (9 ∷ 91 ∷ []) ps)) (λ p. record { least = omega arith; most = omega arith });
            low_close = record { picks = hundredths 90 10; made = picks_fixed 90 10 refl; close = record { under = omega arith; over = omega arith } };
            high_close = record { picks = hundredths 90 10; made = picks_fixed 90 10 refl; close = record { under = omega arith; over = omega arith } };
          };
    }
