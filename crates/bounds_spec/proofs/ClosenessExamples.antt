-- What "less than one cent plus t tenths" allows and forbids (document 02, item 6), on schemes whose exact mean of year 1 is known: just nearer, and exactly that far.
use Rattle.std.specs.Prelude.{ℕ, ◌+◌, ◌*◌, ◌≤◌, ◌<◌, ◌≡◌, refl, true, false, List, [], ◌∷◌}
use Rattle.std.proofs.Common.{arith, mul-le-mul_right}
use Rattle.setchain.specs.Sums.{at, sum_to, only_if}
use Rattle.setchain.specs.Tests.{any_below}
use Rattle.setchain.specs.Fractions.{whole, ◌⊗◌, sum_fractions}
use Rattle.setchain.specs.Rows.{Row, Inside, SoundChain}
use Rattle.setchain.specs.Step.{capacity_before, fill_row, step_figure}
use Rattle.setchain.specs.Years.{years_figure, CENT, mean_tenths, low_mean, high_mean}
use Rattle.setchain.specs.Picks.{Matrix, none, also, PicksFor, product, exact_mean}
use Rattle.setchain.specs.Promise.{Between}
use Rattle.setchain.proofs.Laws.Sums.{below_two}
use Rattle.setchain.proofs.Theorems.{mean_tenths_lem, mean_promise}
use Rattle.scheme.specs.declared.Scheme.{Scheme}
use Rattle.scheme.specs.Access.{premium_at}
use Rattle.scheme.specs.Cause.{size_out, start_out, horizon_out, rule_out, band_out, sum_out, premium_out, cause_of}
use Rattle.scheme.specs.Rows.{chain_of}
use Rattle.scheme.proofs.Laws.Judged.{accepted_cause}
use Rattle.scheme.proofs.Laws.Sound.{accepted_sound}
use Rattle.bounds_spec.specs.Answers.{Answered, start_of}
use Rattle.bounds_spec.specs.Promises.{start_mean, MeanPromise}
use Rattle.bounds_spec.proofs.Examples.{fixed_bands}

-- A row over a hundred, and picks for one year that have it for both classes.
abbrev hundredth : (first second : ℕ) → Row
hundredth first second = record { over = 100; entry = at (first ∷ second ∷ []) }

abbrev pub hundredths : (first second : ℕ) → List Matrix
hundredths first second = (λ i. hundredth first second) ∷ []

-- A nine-tenths band and a tenth: the exact mean is 10.1 cents, 1.1 from 9. With .91 and .09 it is 10.09. The other way round it is 10.9, 1.1 from 12, and 10.91.
pub record MoneyEdges : Type 0 where
  pub low_at : MeanPromise (fixed_bands 900000000 100000000) 1 (Answered 9 11) → ⊥
  pub low_nearer : MeanPromise (fixed_bands 910000000 90000000) 1 (Answered 9 11)
  pub high_at : MeanPromise (fixed_bands 100000000 900000000) 1 (Answered 10 12) → ⊥
  pub high_nearer : MeanPromise (fixed_bands 90000000 910000000) 1 (Answered 10 12)

-- Such a scheme is accepted, and its mean lies from 10 to 11 cents.
pub record Fixed (s : Scheme) : Type 0 where
  pub accepted : cause_of s ≡ 0
  pub low : low_mean (chain_of s) (premium_at s) 1 (start_of s) ≡ 10
  pub high : high_mean (chain_of s) (premium_at s) 1 (start_of s) ≡ 11

module _ {s : Scheme} (fixed : Fixed s) where
  pub sound : SoundChain (chain_of s)
  sound = accepted_sound s (accepted_cause s fixed.accepted)

  within : start_of s < s.classes
  within = let ok = accepted_cause s fixed.accepted in omega (arith, ok.start.positive, ok.start.within)

  -- The exact mean in tenths, whatever is picked.
  exact_tenths : (ps : List Matrix) → PicksFor (chain_of s) 1 ps
      → Between (mean_tenths false (chain_of s) (premium_at s) 1 (start_of s)) (mean_tenths true (chain_of s) (premium_at s) 1 (start_of s)) (start_mean s ps ⊗ whole CENT)
  exact_tenths ps picks = (mean_tenths_lem (chain_of s) sound (premium_at s) 1).contains ps picks (start_of s) within

  -- What contains 10 to 11 contains it.
  wider : (low high : ℕ) → low ≤ 10 → 11 ≤ high → (ps : List Matrix) → PicksFor (chain_of s) 1 ps → Between low high (start_mean s ps)
  wider low high l h ps picks =
      let x = start_mean s ps in
      let between = (mean_promise (chain_of s) sound (premium_at s) 1).contains ps picks (start_of s) within in
      let least : low ≤ low_mean (chain_of s) (premium_at s) 1 (start_of s) = omega (arith, fixed.low) in
      let most : high_mean (chain_of s) (premium_at s) 1 (start_of s) ≤ high = omega (arith, fixed.high) in
      record { least = omega (arith, between.least, mul-le-mul_right x.den least); most = omega (arith, between.most, mul-le-mul_right x.den most) }

-- So it is with each of the four.
pub all_fixed : Fixed (fixed_bands 900000000 100000000) × Fixed (fixed_bands 910000000 90000000) × Fixed (fixed_bands 100000000 900000000) × Fixed (fixed_bands 90000000 910000000)
unfolding years_figure step_figure fill_row capacity_before sum_to only_if cause_of size_out start_out horizon_out rule_out band_out sum_out premium_out any_below
all_fixed = (
  record { accepted = refl; low = refl; high = refl },
  record { accepted = refl; low = refl; high = refl },
  record { accepted = refl; low = refl; high = refl },
  record { accepted = refl; low = refl; high = refl },
)

-- A year with the row of the bands themselves for both classes.
pub picks_fixed : (first second : ℕ) → first + second ≡ 100 → PicksFor (chain_of (fixed_bands (first * 10000000) (second * 10000000))) 1 (hundredths first second)
unfolding sum_to only_if
picks_fixed first second whole =
    let inside : Inside 2 ((chain_of (fixed_bands (first * 10000000) (second * 10000000))).row 0) (hundredth first second) =
    record { positive = omega arith; sums = omega arith; above = below_two _ (omega arith) (omega arith); below = below_two _ (omega arith) (omega arith) } in
    record { years = refl; inside = also (below_two _ inside inside) none }

pub money_edges : MoneyEdges
unfolding years_figure step_figure fill_row capacity_before sum_to only_if exact_mean product sum_fractions
money_edges =
    record {
      low_at = λ h.
          let near = (h refl).low_close in
          omega (arith, near.close.under, (exact_tenths all_fixed.0 near.picks near.made).least);
      low_nearer = λ z.
          record {
            contains = wider all_fixed.1 9 11 (omega arith) (omega arith);
            low_close = record { picks = hundredths 91 9; made = picks_fixed 91 9 refl; close = record { under = omega arith; over = omega arith } };
            high_close = record { picks = hundredths 91 9; made = picks_fixed 91 9 refl; close = record { under = omega arith; over = omega arith } };
          };
      high_at = λ h.
          let near = (h refl).high_close in
          omega (arith, near.close.over, (exact_tenths all_fixed.2 near.picks near.made).most);
      high_nearer = λ z.
          record {
            contains = wider all_fixed.3 10 12 (omega arith) (omega arith);
            low_close = record { picks = hundredths 9 91; made = picks_fixed 9 91 refl; close = record { under = omega arith; over = omega arith } };
            high_close = record { picks = hundredths 9 91; made = picks_fixed 9 91 refl; close = record { under = omega arith; over = omega arith } };
          };
    }
