-- "All share and money bounds keep their figures" (document 02, item 2): those of an accepted scheme are the figures of its tight rows,
-- and what is promised over picks inside the interval rows, of shares and of money, is promised over picks inside the tight ones.
use Rattle.std.specs.Prelude.{ℕ, ◌+◌, ◌-◌, ◌<◌, ◌≡◌, refl, Bool, List}
use Rattle.std.proofs.Common.{ap, sym, arith}
use Rattle.std.proofs.Math.Path.{ap₂}
use Rattle.std.proofs.Math.Bool.{true, false}
use Rattle.setchain.specs.Sums.{at}
use Rattle.setchain.specs.Fractions.{Fraction}
use Rattle.setchain.specs.Rows.{SetChain}
use Rattle.setchain.specs.Rounding.{rounded}
use Rattle.setchain.specs.Years.{years_figure, nothing, share_payoff, share_figure, CENT, tenths, mean_figure, total_figure}
use Rattle.setchain.specs.Pooled.{pooled_figure}
use Rattle.setchain.proofs.Laws.Pooled.{pooled_agree}
use Rattle.setchain.specs.Picks.{Matrix}
use Rattle.setchain.specs.Promise.{Nearness, KeptBy}
use Rattle.setchain.specs.Tight.{tight_chain}
use Rattle.setchain.proofs.Tightened.{chain_covers, covers_chain, years_tight, reached_tight, kept_same, kept_tight}
use Rattle.setchain.specs.Reached.{reached_figure}
use Rattle.scheme.specs.declared.Scheme.{Scheme}
use Rattle.scheme.specs.Tables.{tab}
use Rattle.scheme.specs.Access.{premium_at}
use Rattle.scheme.specs.Accepted.{Accepted}
use Rattle.scheme.specs.Rows.{chain_of}
use Rattle.scheme.proofs.Laws.Sound.{accepted_sound}
use Rattle.bounds_spec.specs.Causes.{share_cause, money_cause, table_size}
use Rattle.bounds_spec.specs.Answers.{answer_by, start_of, share_answer, mean_answer, total_answer, figure_shares}
use Rattle.bounds_spec.specs.Pooled.{Figure, state_figure, class_figure, units_of, pooled, pooled_cause, pooled_answer, pooled_shares}
use Rattle.bounds_spec.specs.Reached.{reached_answer}
use Rattle.bounds_spec.specs.Table.{table_entry, figure_table}

-- The chain of a scheme with its rows made tight.
abbrev pub tight_chain_of : Scheme → SetChain
tight_chain_of s = tight_chain (chain_of s)

-- The figures of the start class over the tight rows: share, mean and total.
abbrev pub tight_share : (high : Bool) → Scheme → (t j : ℕ) → ℕ
tight_share high s t j = share_figure high (tight_chain_of s) j t (start_of s)

abbrev pub tight_mean : (high : Bool) → Scheme → (t : ℕ) → ℕ
tight_mean high s t = mean_figure high (tight_chain_of s) (premium_at s) t (start_of s)

abbrev pub tight_total : (high : Bool) → Scheme → (t : ℕ) → ℕ
tight_total high s t = total_figure high (tight_chain_of s) (premium_at s) t (start_of s)

-- The chance of having reached a class.
abbrev pub tight_reached : (high : Bool) → Scheme → (t j : ℕ) → ℕ
tight_reached high s t j = reached_figure high (tight_chain_of s) j t (start_of s)

-- Pooled figures.
abbrev pub tight_pooled : (high : Bool) → Scheme → (book : List ℕ) → Figure → (t : ℕ) → ℕ
tight_pooled high s book figure t = pooled_figure high (units_of figure) s.classes (at book) (state_figure high (tight_chain_of s) (premium_at s) figure t)

-- Every answer for bounds, and the numbers of share sheets and tables, are those of the tight rows; so is demand 3, both ways, however near it asks for.
pub record TightBounds (s : Scheme) : Type 1 where
  pub share : (class year : ℕ) → share_answer s class year ≡ answer_by (share_cause s class year) (tight_share false s year (class - 1)) (tight_share true s year (class - 1))
  pub mean : (year : ℕ) → mean_answer s year ≡ answer_by (money_cause s year) (tight_mean false s year) (tight_mean true s year)
  pub total : (year : ℕ) → total_answer s year ≡ answer_by (money_cause s year) (tight_total false s year) (tight_total true s year)
  pub reached : (class year : ℕ) → reached_answer s class year ≡ answer_by (share_cause s class year) (tight_reached false s year (class - 1)) (tight_reached true s year (class - 1))
  pub shares : (high : Bool) (year : ℕ) → figure_shares high s year ≡ tab s.classes (tight_share high s year)
  pub pooled_figures : (book : List ℕ) (figure : Figure) (year : ℕ)
      → pooled_answer s book figure year ≡ answer_by (pooled_cause s book figure year) (tight_pooled false s book figure year) (tight_pooled true s book figure year)
  pub pooled_sheet : (high : Bool) (book : List ℕ) (year : ℕ) → pooled_shares high s book year ≡ tab s.classes (λ j. tight_pooled high s book (Figure.share (j + 1)) year)
  pub table : (high : Bool) → figure_table high s ≡ tab (table_size s) (table_entry s (tight_share high s) (tight_mean high s) (tight_total high s s.horizon))
  pub kept : (near : Nearness) (t low high : ℕ) (exact : List Matrix → Fraction) → KeptBy (chain_of s) t near exact low high → KeptBy (tight_chain_of s) t near exact low high
  pub kept_back : (near : Nearness) (t low high : ℕ) (exact : List Matrix → Fraction) → KeptBy (tight_chain_of s) t near exact low high → KeptBy (chain_of s) t near exact low high

module _ (s : Scheme) (ok : Accepted s) where
  start_within : start_of s < s.classes
  start_within = omega (arith, ok.start.positive, ok.start.within)

  -- Any payoff and gain: of every class, and of the start class.
  class_tight : (high : Bool) (payoff gain : ℕ → ℕ) (t i : ℕ) → i < s.classes → years_figure high (chain_of s) payoff gain t i ≡ years_figure high (tight_chain_of s) payoff gain t i
  class_tight high payoff gain t i l = sym (years_tight (accepted_sound s ok) high payoff gain t i l)

  figure_tight : (high : Bool) (payoff gain : ℕ → ℕ) (t : ℕ) → years_figure high (chain_of s) payoff gain t (start_of s) ≡ years_figure high (tight_chain_of s) payoff gain t (start_of s)
  figure_tight high payoff gain t = class_tight high payoff gain t (start_of s) start_within

  share_tight_lem : (high : Bool) (t j : ℕ) → share_figure high (chain_of s) j t (start_of s) ≡ tight_share high s t j
  share_tight_lem high t j = figure_tight high (share_payoff j) nothing t

  mean_tight_lem : (high : Bool) (t : ℕ) → mean_figure high (chain_of s) (premium_at s) t (start_of s) ≡ tight_mean high s t
  mean_tight_lem high t = ap (rounded high CENT) (figure_tight high (tenths (premium_at s)) nothing t)

  total_tight_lem : (high : Bool) (t : ℕ) → total_figure high (chain_of s) (premium_at s) t (start_of s) ≡ tight_total high s t
  total_tight_lem high t = ap (rounded high CENT) (figure_tight high nothing (tenths (premium_at s)) t)

  reached_at_start : (high : Bool) (t j : ℕ) → reached_figure high (chain_of s) j t (start_of s) ≡ tight_reached high s t j
  reached_at_start high t j = sym (reached_tight (accepted_sound s ok) high j t (start_of s) start_within)

  class_figure_tight : (high : Bool) (figure : Figure) (t i : ℕ) → i < s.classes → class_figure high s figure t i ≡ state_figure high (tight_chain_of s) (premium_at s) figure t i
  class_figure_tight high (Figure.share class) t = class_tight high (share_payoff (class - 1)) nothing t
  class_figure_tight high Figure.mean t = class_tight high (tenths (premium_at s)) nothing t
  class_figure_tight high Figure.total t = class_tight high nothing (tenths (premium_at s)) t

  pooled_tight : (high : Bool) (book : List ℕ) (figure : Figure) (t : ℕ) → pooled high s book figure t ≡ tight_pooled high s book figure t
  pooled_tight high book figure t =
      pooled_agree high (units_of figure) s.classes (at book) (at book) (class_figure high s figure t) (state_figure high (tight_chain_of s) (premium_at s) figure t)
      (λ j l. refl) (class_figure_tight high figure t)

  pub tight_bounds : TightBounds s
  unfolding share_answer mean_answer total_answer reached_answer figure_shares pooled_answer pooled_shares figure_table
  tight_bounds =
      record {
        share = λ class year. ap₂ (answer_by (share_cause s class year)) (share_tight_lem false year (class - 1)) (share_tight_lem true year (class - 1));
        mean = λ year. ap₂ (answer_by (money_cause s year)) (mean_tight_lem false year) (mean_tight_lem true year);
        total = λ year. ap₂ (answer_by (money_cause s year)) (total_tight_lem false year) (total_tight_lem true year);
        reached = λ class year. ap₂ (answer_by (share_cause s class year)) (reached_at_start false year (class - 1)) (reached_at_start true year (class - 1));
        shares = λ high year k. tab s.classes (λ j. share_tight_lem high year j k);
        pooled_figures = λ book figure year. ap₂ (answer_by (pooled_cause s book figure year)) (pooled_tight false book figure year) (pooled_tight true book figure year);
        pooled_sheet = λ high book year k. tab s.classes (λ j. pooled_tight high book (Figure.share (j + 1)) year k);
        table = λ high k. tab (table_size s) (table_entry s (λ t j. share_tight_lem high t j k) (λ t. mean_tight_lem high t k) (total_tight_lem high s.horizon k));
        kept = λ near t low high exact. kept_tight (accepted_sound s ok);
        kept_back = λ near t low high exact. kept_same (chain_covers (accepted_sound s ok)) (covers_chain (accepted_sound s ok));
      }
