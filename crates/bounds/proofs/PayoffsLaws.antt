-- The payoffs and gains of a share, a mean and a total: that their figures fit, and which figures they are; money in cents.
-- Assumes nothing.
use Prim.Native.Nat.{ℕ, ◌+◌, ◌-◌, ◌≤◌, ◌<◌}
use mathlib.Core.Path.{◌≡◌, refl, ap, sym, ◌∙◌}
use mathlib.Core.Bool.{Bool}
use mathlib.Core.List.{List}
use native.Mathlib.Decide.{ℕ_discrete}
use native.Mathlib.Omega.{arith}
use lib.Dec.{eqb}
use lib.ListN.{set, get_or-replicate}
use lib.Seq.{get_or-set_same, get_or-set_other}
use borrow.Author.Tests.{eq-eqb, ne_eqb}
use Rattle.setchain.specs.Rows.{ONE}
use Rattle.setchain.specs.Rounding.{rounded}
use Rattle.setchain.specs.Years.{years_figure, nothing, share_payoff, share_figure, CENT, tenths, mean_figure, total_figure}
use Rattle.setchain.specs.Pooled.{pooled_figure}
use Rattle.setchain.proofs.Laws.Pooled.{pooled_agree}
use Rattle.setchain.proofs.Laws.Sums.{only_if_le, only_if_true, only_if_false}
use Rattle.setchain.proofs.Laws.Agreeing.{agree_refl, years_agree}
use Rattle.scheme.specs.declared.Scheme.{Scheme}
use Rattle.scheme.specs.Access.{premium_at}
use Rattle.scheme.specs.Accepted.{Accepted}
use Rattle.scheme.specs.Rows.{chain_of}
use Rattle.setchain.specs.Sums.{at}
use Rattle.step_spec.specs.StepAnswer.{MOST_PAYOFF}
use Rattle.bounds_spec.specs.Answers.{start_of}
use Rattle.bounds_spec.specs.Pooled.{Figure, pooled}
use Rattle.bounds.specs.Years.{FiguresFit}
use Rattle.bounds.specs.Series.{SharePayoffPost, start_figure}
use Rattle.bounds.specs.Money.{TenthsPost}
use Rattle.bounds.specs.Sheets.{share_of}
use Rattle.bounds.specs.Pooled.{pooled_years}
use Rattle.bounds.proofs.FrontLaws.{zeros}

-- An array of zeros with ONE at a class is its share's payoff.
pub share_written : (class : ℕ) → SharePayoffPost class (set zeros (class - 1) ONE)
share_written class = record { each = λ low high i l. by high i l (ℕ_discrete i (class - 1)) }
  where
    by : class ≤ 32 → (i : ℕ) → i < 32 → Dec (i ≡ class - 1) → at (set zeros (class - 1) ONE) i ≡ share_payoff (class - 1) i
    by high i l (yes e) =
        ap (at (set zeros (class - 1) ONE)) e
        ∙ get_or-set_same zeros (class - 1) ONE 0 (omega arith)
        ∙ sym (only_if_true (eqb i (class - 1)) ONE (eq-eqb i (class - 1) e))
    by high i l (no d) =
        get_or-set_other zeros (class - 1) i ONE 0 d
        ∙ get_or-replicate 32 i 0 0 l
        ∙ sym (only_if_false (eqb i (class - 1)) ONE (ne_eqb i (class - 1) d))

zero_at : (j : ℕ) → j < 32 → at zeros j ≡ 0
zero_at j l = get_or-replicate 32 j 0 0 l

module _ (s : Scheme) (ok : Accepted s) where
  below_32 : (j : ℕ) → j < s.classes → j < 32
  below_32 j l = omega (arith, ok.size.classes)

  -- Without a gain the payoffs alone count.
  fits_alone : (payoff : List ℕ) (most t : ℕ) → most ≤ MOST_PAYOFF → ((j : ℕ) → j < s.classes → at payoff j ≤ most) → FiguresFit s.classes zeros payoff t
  fits_alone payoff most t h each =
      record {
        payoff_most = most;
        gain_most = 0;
        payoffs = each;
        gains = λ j l. omega (arith, zero_at j (below_32 j l));
        figures = omega arith;
        small = omega arith;
      }

  -- Payoffs and gains in arrays, and as functions of the state: of the start class, and pooled.
  module _ (high : Bool) (gain payoff : List ℕ) (g f : ℕ → ℕ) (t : ℕ) (p : (j : ℕ) → j < 32 → at payoff j ≡ f j) (q : (j : ℕ) → j < 32 → at gain j ≡ g j) where
    class_functions : (i : ℕ) → i < s.classes → years_figure high (chain_of s) (at payoff) (at gain) t i ≡ years_figure high (chain_of s) f g t i
    class_functions = years_agree refl (λ i l. agree_refl s.classes ((chain_of s).row i)) (λ j l. p j (below_32 j l)) (λ j l. q j (below_32 j l)) high t

    as_functions : start_figure high s gain payoff t ≡ years_figure high (chain_of s) f g t (start_of s)
    as_functions = class_functions (start_of s) (omega (arith, ok.start.positive, ok.start.within))

    pooled_functions : (book : List ℕ) (units : ℕ) → pooled_years high s book units gain payoff t ≡ pooled_figure high units s.classes (at book) (years_figure high (chain_of s) f g t)
    pooled_functions book units = pooled_agree high units s.classes (at book) (at book) _ _ (λ j l. refl) class_functions

  -- The share of a class.
  module _ {class : ℕ} {payoff : List ℕ} (held : SharePayoffPost class payoff) (positive : 1 ≤ class) (inside : class ≤ 32) (t : ℕ) where
    pub share_fits : FiguresFit s.classes zeros payoff t
    share_fits = fits_alone payoff ONE t (omega arith) (λ j l. omega (arith, held.each positive inside j (below_32 j l), only_if_le (eqb j (class - 1)) ONE))

    pub share_figure_lem : (high : Bool) → start_figure high s zeros payoff t ≡ share_figure high (chain_of s) (class - 1) t (start_of s)
    share_figure_lem high = as_functions high zeros payoff nothing (share_payoff (class - 1)) t (held.each positive inside) zero_at

    pub pooled_share_is : (high : Bool) (book : List ℕ) → pooled_years high s book 1 zeros payoff t ≡ pooled high s book (Figure.share class) t
    pooled_share_is high book = pooled_functions high zeros payoff nothing (share_payoff (class - 1)) t (held.each positive inside) zero_at book 1

  -- The share of the class of state j.
  module _ {j : ℕ} {payoff : List ℕ} (held : SharePayoffPost (j + 1) payoff) (inside : j < s.classes) (t : ℕ) where
    pub state_fits : FiguresFit s.classes zeros payoff t
    state_fits = share_fits held (omega arith) (omega (arith, below_32 j inside)) t

    pub state_share : (high : Bool) → start_figure high s zeros payoff t ≡ share_of high s t j
    state_share high =
        let again : j + 1 - 1 ≡ j = omega arith in
        share_figure_lem held (omega arith) (omega (arith, below_32 j inside)) t high ∙ ap (share_of high s t) again

    pub pooled_state_is : (high : Bool) (book : List ℕ) → pooled_years high s book 1 zeros payoff t ≡ pooled high s book (Figure.share (j + 1)) t
    pooled_state_is = pooled_share_is held (omega arith) (omega (arith, below_32 j inside)) t

  -- The mean premium, and the total of premiums, where an array holds the premiums in tenths.
  module _ {premiums : List ℕ} (are : TenthsPost s.premiums premiums) (t : ℕ) where
    premium_most : (j : ℕ) → j < s.classes → at premiums j ≤ 100000000
    premium_most j l = omega (arith, are.each j (below_32 j l), ok.premiums.within j l)

    pub mean_fits : FiguresFit s.classes zeros premiums t
    mean_fits = fits_alone premiums 100000000 t (omega arith) premium_most

    pub mean_figure_lem : (high : Bool) → rounded high CENT (start_figure high s zeros premiums t) ≡ mean_figure high (chain_of s) (premium_at s) t (start_of s)
    mean_figure_lem high = ap (rounded high CENT) (as_functions high zeros premiums nothing (tenths (premium_at s)) t are.each zero_at)

    pub pooled_mean_is : (high : Bool) (book : List ℕ) → pooled_years high s book CENT zeros premiums t ≡ pooled high s book Figure.mean t
    pooled_mean_is high book = pooled_functions high zeros premiums nothing (tenths (premium_at s)) t are.each zero_at book CENT

    -- 100 years of the largest premium reach the limit.
    pub total_fits : t ≤ 100 → FiguresFit s.classes premiums zeros t
    total_fits h =
        record {
          payoff_most = 0;
          gain_most = 100000000;
          payoffs = λ j l. omega (arith, zero_at j (below_32 j l));
          gains = premium_most;
          figures = omega arith;
          small = omega arith;
        }

    pub total_figure_lem : (high : Bool) → rounded high CENT (start_figure high s premiums zeros t) ≡ total_figure high (chain_of s) (premium_at s) t (start_of s)
    total_figure_lem high = ap (rounded high CENT) (as_functions high premiums zeros (tenths (premium_at s)) nothing t zero_at are.each)

    pub pooled_total_is : (high : Bool) (book : List ℕ) → pooled_years high s book CENT premiums zeros t ≡ pooled high s book Figure.total t
    pooled_total_is high book = pooled_functions high premiums zeros (tenths (premium_at s)) nothing t zero_at are.each book CENT
