-- Accepted schemes with the same values have the same figures.
use Prim.Native.Nat.{ℕ, suc, ◌+◌, ◌-◌, ◌*◌, ◌/◌, ◌%◌, ◌<◌}
use Rattle.std.specs.Prelude.{◌≡◌, refl, Bool, List, ltb}
use Rattle.std.proofs.Math.Path.{ap}
use Rattle.std.proofs.Common.{◌∙◌, arith}
use Rattle.std.proofs.Math.Bool.{cond}
use Rattle.setchain.specs.Sums.{at}
use Rattle.setchain.specs.Years.{years_figure, share_figure, CENT, tenths, mean_figure, total_figure}
use Rattle.setchain.specs.Rounding.{rounded}
use Rattle.setchain.specs.Pooled.{pooled_figure}
use Rattle.setchain.proofs.Laws.Pooled.{pooled_agree}
use Rattle.setchain.proofs.Laws.Agreeing.{Agree, obeys_agree, years_agree}
use Rattle.setchain.specs.Reached.{reached_figure}
use Rattle.setchain.proofs.Laws.Reached.{reached_obeys}
use Rattle.scheme.specs.declared.Scheme.{Scheme}
use Rattle.scheme.specs.Tables.{tab}
use Rattle.scheme.specs.Access.{premium_at}
use Rattle.scheme.specs.Cause.{cause_of}
use Rattle.scheme.specs.Rows.{chain_of}
use Rattle.scheme.specs.Values.{SameValues}
use Rattle.scheme.proofs.Laws.Judged.{accepted_cause}
use Rattle.scheme.proofs.Laws.Values.{lower_same, upper_same}
use Rattle.bounds_spec.specs.Answers.{start_of, figure_shares}
use Rattle.bounds_spec.specs.Pooled.{Figure, units_of, class_figure, pooled, pooled_shares}
use Rattle.bounds_spec.specs.Table.{table_entry, figure_table}

-- The figures of accepted schemes with the same values.
module _ {s s' : Scheme} (v : SameValues s s') (none : cause_of s ≡ 0) where
  within : start_of s < s.classes
  within = let ok = accepted_cause s none in omega (arith, ok.start.positive, ok.start.within)

  rows : (i : ℕ) → i < s.classes → Agree s.classes ((chain_of s).row i) ((chain_of s').row i)
  rows i l = record { lower = λ j m. lower_same v i l j; upper = λ j m. upper_same v i l j }

  start : start_of s ≡ start_of s'
  start = ap (λ x. x - 1) v.others.start

  module _ (high : Bool) {payoff payoff' gain gain' : ℕ → ℕ}
      (payoffs : (i : ℕ) → i < s.classes → payoff i ≡ payoff' i) (gains : (i : ℕ) → i < s.classes → gain i ≡ gain' i) (t : ℕ) where
    figure_at : (i : ℕ) → i < s.classes → years_figure high (chain_of s) payoff gain t i ≡ years_figure high (chain_of s') payoff' gain' t i
    figure_at = years_agree v.others.classes rows payoffs gains high t

    figure_start : years_figure high (chain_of s) payoff gain t (start_of s) ≡ years_figure high (chain_of s') payoff' gain' t (start_of s')
    figure_start = figure_at (start_of s) within ∙ ap (years_figure high (chain_of s') payoff' gain' t) start

  premiums : (i : ℕ) → i < s.classes → tenths (premium_at s) i ≡ tenths (premium_at s') i
  premiums i l = ap (λ x. x * CENT) (v.others.premiums i l)

  module _ (high : Bool) where
    pub share_same : (t j : ℕ) → share_figure high (chain_of s) j t (start_of s) ≡ share_figure high (chain_of s') j t (start_of s')
    share_same t j = figure_start high (λ i l. refl) (λ i l. refl) t

    pub mean_same : (t : ℕ) → mean_figure high (chain_of s) (premium_at s) t (start_of s) ≡ mean_figure high (chain_of s') (premium_at s') t (start_of s')
    mean_same t = ap (rounded high CENT) (figure_start high premiums (λ i l. refl) t)

    pub total_same : (t : ℕ) → total_figure high (chain_of s) (premium_at s) t (start_of s) ≡ total_figure high (chain_of s') (premium_at s') t (start_of s')
    total_same t = ap (rounded high CENT) (figure_start high (λ i l. refl) premiums t)

    pub reached_same : (t j : ℕ) → reached_figure high (chain_of s) j t (start_of s) ≡ reached_figure high (chain_of s') j t (start_of s')
    reached_same t j =
        obeys_agree v.others.classes rows (reached_obeys high (chain_of s) j) (reached_obeys high (chain_of s') j) (λ i l. refl) (λ i l. refl) t (start_of s) within
        ∙ ap (reached_figure high (chain_of s') j t) start

    -- Pooled figures.
    class_same : (figure : Figure) (t i : ℕ) → i < s.classes → class_figure high s figure t i ≡ class_figure high s' figure t i
    class_same (Figure.share class) t = figure_at high (λ i l. refl) (λ i l. refl) t
    class_same Figure.mean t = figure_at high premiums (λ i l. refl) t
    class_same Figure.total t = figure_at high (λ i l. refl) premiums t

    pub pooled_same : (book : List ℕ) (figure : Figure) (t : ℕ) → pooled high s book figure t ≡ pooled high s' book figure t
    pooled_same book figure t =
        pooled_agree high (units_of figure) s.classes (at book) (at book) (class_figure high s figure t) (class_figure high s' figure t) (λ j l. refl) (class_same figure t)
        ∙ ap (λ n. pooled_figure high (units_of figure) n (at book) (class_figure high s' figure t)) v.others.classes

    pub pooled_shares_same : (book : List ℕ) (year : ℕ) → pooled_shares high s book year ≡ pooled_shares high s' book year
    unfolding pooled_shares
    pooled_shares_same book year = λ k. tab (v.others.classes k) (λ j. pooled_same book (Figure.share (j + 1)) year k)

    pub shares_same : (year : ℕ) → figure_shares high s year ≡ figure_shares high s' year
    unfolding figure_shares
    shares_same year = λ k. tab (v.others.classes k) (λ j. share_same year j k)

    -- Tables of the same figures.
    pub table_same : figure_table high s ≡ figure_table high s'
    unfolding figure_table table_entry
    table_same =
        λ k.
        let row : ℕ = suc (v.others.classes k) in
        let place : ℕ = suc (v.others.horizon k) * row in
        tab (place + 1) (λ p. cond (ltb p place) (cond (ltb (p % row) (v.others.classes k)) (share_same (p / row) (p % row) k) (mean_same (p / row) k)) (total k))
      where
        total : total_figure high (chain_of s) (premium_at s) s.horizon (start_of s) ≡ total_figure high (chain_of s') (premium_at s') s'.horizon (start_of s')
        total = total_same s.horizon ∙ ap (λ t. total_figure high (chain_of s') (premium_at s') t (start_of s')) v.others.horizon
