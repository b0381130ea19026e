-- The recursion on the year count: no year, one year more, and the figure that is then written.
-- Assumes nothing.
use Prim.Native.Nat.{ℕ, suc, ◌+◌, ◌*◌, ◌≤◌, ◌<◌}
use mathlib.Core.Path.{◌≡◌, refl, ap, sym, ◌∙◌, subst}
use mathlib.Core.Bool.{Bool}
use mathlib.Core.List.{List}
use native.Mathlib.Omega.{arith}
use native.Mathlib.Nat.{le_trans, mul-le-mul_right}
use lib.ListN.{length, set, length-set}
use lib.Seq.{get_or-set_same, get_or-set_other}
use borrow.Author.Count.{below_more}
use Rattle.setchain.specs.Rows.{SetChain, SoundChain}
use Rattle.setchain.specs.Years.{years_figure}
use Rattle.setchain.proofs.Laws.Agreeing.{agree_refl, step_agrees}
use Rattle.setchain.proofs.Laws.Step.{years_at_most}
use Rattle.order.specs.Order.{Permutation}
use Rattle.setchain.specs.Sums.{at}
use Rattle.step_spec.specs.StepAnswer.{MOST_PAYOFF}
use Rattle.bounds.specs.Entries.{chain_listed}
use Rattle.bounds.specs.Years.{year_figure, YearPre, YearPost, FiguresFit, YearsPre, SeriesStored, YearsPost}

-- A year's figure from figures that are known.
years_next : (high : Bool) (c : SetChain) (payoff gain f : ℕ → ℕ) (t i : ℕ) → ((j : ℕ) → j < c.states → f j ≡ years_figure high c payoff gain t j)
    → year_figure high c gain f i ≡ years_figure high c payoff gain (suc t) i
unfolding years_figure
years_next high c payoff gain f t i h = ap (λ x. gain i + x) (step_agrees (agree_refl c.states (c.row i)) h high)

-- One figure more.
series_more : {figure : ℕ → ℕ} {stride t v : ℕ} {before : List ℕ} (out : List ℕ) → 1 ≤ stride → v ≡ figure t
    → SeriesStored figure stride t before out → SeriesStored figure stride (t + 1) before (set out (t * stride) v)
series_more {figure} {stride} {t} {v} {before} out apart e w =
    record {
      size = length-set out (t * stride) v ∙ w.size;
      done =
          below_more (λ u. u * stride < length before → at (set out (t * stride) v) (u * stride) ≡ figure u) t
          (λ u l i. get_or-set_other out (t * stride) (u * stride) v 0 (λ g. omega (arith, apart, mul-le-mul_right stride l)) ∙ w.done u l i)
          (λ i. get_or-set_same out (t * stride) v 0 (omega (arith, w.size)) ∙ e);
      other = λ p o. get_or-set_other out (t * stride) p v 0 (o t) ∙ w.other p o;
    }

-- What fits for t years fits for fewer.
fits_less : {n : ℕ} {gain payoff : List ℕ} {t : ℕ} → FiguresFit n gain payoff t → (u : ℕ) → u ≤ t → FiguresFit n gain payoff u
fits_less w u fewer =
    record {
      payoff_most = w.payoff_most;
      gain_most = w.gain_most;
      payoffs = w.payoffs;
      gains = w.gains;
      figures = omega (arith, w.figures, mul-le-mul_right w.gain_most fewer);
      small = w.small;
    }

-- Figures that fit are not too large.
pub figures_small : {gain payoff : List ℕ} {t : ℕ} (high : Bool) (c : SetChain) → SoundChain c → FiguresFit c.states gain payoff t
    → (i : ℕ) → i < c.states → years_figure high c (at payoff) (at gain) t i ≤ MOST_PAYOFF
figures_small {gain} {payoff} {t} high c sound w i l =
    le_trans (years_at_most high c sound (at payoff) (at gain) w.payoff_most w.gain_most w.payoffs w.gains t i l) w.figures

module _ {entries slack gain order payoff : List ℕ} {t state stride : ℕ} (w : YearsPre entries slack gain order payoff t state stride) where
  abbrev chain : SetChain
  chain = chain_listed (length gain) entries

  -- In no years the figures are the payoff, and none is written yet.
  pub years_none : {high : Bool} {before : List ℕ} → t ≡ 0 → YearsPost entries gain payoff high t state stride t order payoff before before
  unfolding years_figure
  years_none {high} e =
      record {
        permutation = w.permutation;
        each = λ i l. sym (ap (λ k. years_figure high chain (at payoff) (at gain) k i) e);
        series = record { size = refl; done = λ u l. absurd (omega arith); other = λ p o. refl };
      }

  -- With the figure of year t written.
  pub years_stored : {high : Bool} {order' figures before out : List ℕ}
      → YearsPost entries gain payoff high t state stride t order' figures before out
      → YearsPost entries gain payoff high t state stride (t + 1) order' figures before (set out (t * stride) (at figures state))
  years_stored {high} {order'} {figures} {before} {out} i =
      record { permutation = i.permutation; each = i.each; series = series_more out w.apart (i.each state w.inside) i.series }

  -- From t years to fewer, and from the figures of u years to those of one more.
  module _ (u : ℕ) (fewer : u ≤ t) where
    pub years_less : YearsPre entries slack gain order payoff u state stride
    years_less =
        record {
          lists = w.lists;
          permutation = w.permutation;
          fits = fits_less w.fits u fewer;
          inside = w.inside;
          apart = w.apart;
          counted = omega (arith, mul-le-mul_right stride fewer, w.counted);
        }

    module _ {high : Bool} {order' figures before out : List ℕ}
        (r : YearsPost entries gain payoff high u state stride (u + 1) order' figures before out) where
      pub years_step : YearPre entries slack gain order' figures
      years_step =
          record {
            lists = w.lists;
            permutation = r.permutation;
            small = λ j l. subst (λ x. x ≤ MOST_PAYOFF) (sym (r.each j l)) (figures_small high chain w.lists.sound years_less.fits j l);
            gains = λ j l. le_trans (w.fits.gains j l) w.fits.small;
          }

      pub years_more : {order'' after : List ℕ} {flag : Bool} → suc u ≡ t → high ≡ flag
          → YearPost (chain_listed (length gain) entries) gain figures flag after → Permutation (length gain) order''
          → YearsPost entries gain payoff high t state stride t order'' after before out
      years_more {order''} {after} next is f permutation =
          record {
            permutation = permutation;
            each = λ i l.
                subst (λ x. at after i ≡ year_figure x chain (at gain) (at figures) i) (sym is) (f.each i l)
                ∙ years_next high chain (at payoff) (at gain) (at figures) u i r.each
                ∙ ap (λ k. years_figure high chain (at payoff) (at gain) k i) next;
            series = subst (λ k. SeriesStored (λ v. years_figure high chain (at payoff) (at gain) v state) stride k before out) again r.series;
          }
        where
          again : u + 1 ≡ t
          again = omega (arith, next)
