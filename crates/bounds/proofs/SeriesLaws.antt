-- The figures of all classes and of the start class: from a scheme's arrays to the slices that the years take, and from the lists of its entries to its chain.
-- Assumes nothing.
use Prim.Native.Nat.{ℕ, ◌+◌, ◌≤◌, ◌<◌}
use mathlib.Core.Path.{◌≡◌, refl, ap, sym, ◌∙◌, subst}
use mathlib.Core.Bool.{Bool}
use mathlib.Core.List.{List, ◌++◌}
use native.Mathlib.Omega.{arith}
use lib.ListN.{length, take, length-append}
use lib.Seq.{length-take-le, get_or-take, take_at}
use Rattle.setchain.specs.Sums.{at}
use Rattle.setchain.specs.Years.{years_figure}
use Rattle.setchain.proofs.Laws.Agreeing.{years_agree}
use Rattle.scheme.specs.declared.Scheme.{Scheme}
use Rattle.scheme.specs.Rows.{chain_of}
use Rattle.scheme.proofs.Laws.Sound.{accepted_sound}
use Rattle.order.specs.Order.{Permutation, SortedPermutation}
use Rattle.order.specs.States.{state_of}
use Rattle.order.proofs.Laws.Numbers.{state_of_lem}
use Rattle.step_spec.specs.StepAnswer.{MOST_PAYOFF}
use Rattle.bounds_spec.specs.Answers.{start_of}
use Rattle.bounds.specs.Entries.{chain_listed, SoundLists, ListRowsPost}
use Rattle.bounds.specs.Years.{YearsPre, YearsPost}
use Rattle.bounds.specs.Series.{SeriesPre, ClassFiguresPost, SeriesPost}
use Rattle.bounds.proofs.FrontLaws.{zeros}
use Rattle.bounds.proofs.YearsLaws.{figures_small}

module _ (s : Scheme) {gain payoff : List ℕ} {t stride : ℕ} (w : SeriesPre s gain payoff t stride) where
  abbrev n : ℕ
  n = s.classes

  start_inside : start_of s < n
  start_inside = omega (arith, w.accepted.start.positive, w.accepted.start.within)

  -- The start class's state as the code has it.
  pub start_state : {i : ℕ} → i ≡ state_of s.start → (i ≡ start_of s) × (i < 32)
  start_state e =
      let is = e ∙ state_of_lem s.start w.accepted.start.positive in
      (is, omega (arith, is, start_inside, w.accepted.size.classes))

  module _ {entries slack : List ℕ} (e : ListRowsPost (chain_of s) entries slack) (gainStored : 32 ≤ length gain) where
    gains_count : length (take n gain) ≡ n
    gains_count = length-take-le n gain (omega (arith, e.lists.states))

    -- The classes ranked by the payoff, at the front of an array.
    module _ (payoffStored : 32 ≤ length payoff) (order rest : List ℕ)
        (ranks : length (take n zeros) ≡ length (take n payoff) → length (take n payoff) ≤ 128 → SortedPermutation (take n payoff) order) where
      payoffs_count : length (take n payoff) ≡ n
      payoffs_count = length-take-le n payoff (omega (arith, e.lists.states))

      permutation : Permutation n order
      permutation =
          subst (λ k. Permutation k order) payoffs_count
          (ranks (length-take-le n zeros e.lists.states ∙ sym payoffs_count) (omega (arith, payoffs_count, e.lists.states))).permutation

      order_count : length order ≡ n
      order_count = permutation.size

      pub order_fits : n ≤ length (order ++ rest)
      order_fits = omega (arith, order_count, length-append order rest)

      pub order_size : n ≡ length (take n (order ++ rest))
      order_size = sym (length-take-le n (order ++ rest) order_fits)

      pub series_years : (i : ℕ) → i ≡ start_of s → YearsPre entries slack (take n gain) (take n (order ++ rest)) payoff t i stride
      series_years i g =
          record {
            lists = subst (λ k. SoundLists k entries slack) (sym gains_count) e.lists;
            permutation = rw (take_at order rest n order_count, gains_count) permutation;
            fits =
                record {
                  payoff_most = w.fits.payoff_most;
                  gain_most = w.fits.gain_most;
                  payoffs = λ j l. w.fits.payoffs j (omega (arith, gains_count));
                  gains = λ j l. omega (arith, get_or-take n gain j 0 (omega (arith, gains_count)), w.fits.gains j (omega (arith, gains_count)));
                  figures = w.fits.figures;
                  small = w.fits.small;
                };
            inside = omega (arith, g, gains_count, start_inside);
            apart = w.apart;
            counted = w.counted;
          }

    -- The figures by the lists are those of the scheme's chain.
    figure_is : (high : Bool) (u i : ℕ) → i < n
        → years_figure high (chain_listed (length (take n gain)) entries) (at payoff) (at (take n gain)) u i
        ≡ years_figure high (chain_of s) (at payoff) (at gain) u i
    figure_is high u i l =
        ap (λ k. years_figure high (chain_listed k entries) (at payoff) (at (take n gain)) u i) gains_count
        ∙ years_agree refl e.agrees (λ j h. refl) (λ j h. get_or-take n gain j 0 h) high u i l

    pub class_figures_done : {high : Bool} {order figures before after : List ℕ} (i : ℕ) → i ≡ start_of s
        → YearsPost entries (take n gain) payoff high t i stride (t + 1) order figures before after
        → ClassFiguresPost high s gain payoff t stride before after figures
    class_figures_done {high} i g ran =
        record {
          each = λ j l. ran.each j (omega (arith, gains_count)) ∙ figure_is high t j l;
          series =
              record {
                size = ran.series.size;
                done = λ u l h.
                    ran.series.done u l h
                    ∙ figure_is high u i (omega (arith, g, start_inside))
                    ∙ ap (years_figure high (chain_of s) (at payoff) (at gain) u) g;
                other = ran.series.other;
              };
        }

  module _ {high : Bool} {before after figures : List ℕ} (r : ClassFiguresPost high s gain payoff t stride before after figures) where
    -- No class's figure is too large.
    pub class_figures_small : (i : ℕ) → i < n → at figures i ≤ MOST_PAYOFF
    class_figures_small i l = omega (arith, r.each i l, figures_small high (chain_of s) (accepted_sound s w.accepted) w.fits i l)

    -- The start class's figure is one of them.
    pub series_done : (i : ℕ) → i ≡ start_of s → SeriesPost high s gain payoff t stride before after (at figures i)
    series_done i g = record { figure = ap (at figures) g ∙ r.each (start_of s) start_inside; series = r.series }
