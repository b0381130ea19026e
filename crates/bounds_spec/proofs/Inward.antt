-- Narrower bands move bounds inward (document 02, item 1), of what the calls answer: "The trimmed scheme's low figures must be no smaller and its high
-- figures no larger", for every class, year, mean and total, pooled or not, for every chance of having reached a class, and for each number of a share sheet and of all figures.
use Prim.Native.Nat.{ℕ, suc, ◌+◌, ◌-◌, ◌*◌, ◌/◌, ◌%◌, ◌≤◌, ◌<◌}
use Rattle.std.specs.Prelude.{◌≡◌, refl, Bool, cond, List, ltb, length}
use Rattle.std.proofs.Common.{ap, sym, subst, arith, le_refl}
use Rattle.std.proofs.Math.Path.{ap₂}
use Rattle.std.proofs.Math.Bool.{true, false}
use Rattle.setchain.specs.Sums.{at}
use Rattle.setchain.specs.Step.{NotAfter}
use Rattle.setchain.specs.Years.{years_figure, nothing, share_payoff, share_figure, CENT, tenths, mean_figure, total_figure}
use Rattle.setchain.proofs.Laws.NotAfter.{not_after_same}
use Rattle.setchain.specs.Pooled.{pooled_figure}
use Rattle.setchain.proofs.Inward.{rounded_inward, years_inward}
use Rattle.setchain.proofs.PooledTheorems.{pooled_inward}
use Rattle.setchain.specs.Reached.{reached_figure}
use Rattle.setchain.proofs.ReachedTheorems.{reached_inward}
use Rattle.scheme.specs.declared.Scheme.{Scheme}
use Rattle.scheme.specs.Access.{premium_at}
use Rattle.scheme.specs.Accepted.{Accepted}
use Rattle.scheme.specs.Rows.{chain_of}
use Rattle.scheme.specs.Values.{SameButBands, Trimmed}
use Rattle.scheme.proofs.Laws.FirstCause.{test_related, cause_related}
use Rattle.scheme.proofs.Laws.Sound.{accepted_sound}
use Rattle.scheme.proofs.Laws.Tab.{tab_related}
use Rattle.scheme.proofs.Laws.Values.{SameCause}
use Rattle.scheme.proofs.Laws.Trimmed.{trimmed_covers, trimmed_cause}
use Rattle.bounds_spec.specs.Causes.{total_place, table_size}
use Rattle.bounds_spec.specs.Answers.{answer_by, start_of, share_answer, mean_answer, total_answer, sheet_cause, sheet_slice, figure_shares}
use Rattle.bounds_spec.specs.Table.{table_entry, figure_table, table_cause}
use Rattle.bounds_spec.specs.Pooled.{Figure, units_of, class_figure, pooled, pooled_answer, pooled_sheet_cause, pooled_shares}
use Rattle.bounds_spec.specs.Reached.{reached_answer}
use Rattle.bounds_spec.proofs.Laws.Causes.{share_cause_lem, money_cause_lem, sheet_cause_lem, pooled_cause_lem, pooled_sheet_cause_lem, table_cause_lem}
pub use Rattle.bounds_spec.specs.Inward.{BoundsInward, Slices, SlicesInward, sheet_slices, pooled_slices, table_slices, AnswersInward}

-- Low and high by their cause.
answer_inward : {n n' low low' high high' : ℕ} → n ≡ n' → low ≤ low' → high' ≤ high → BoundsInward (answer_by n low high) (answer_by n' low' high')
answer_inward e low high =
    cause_related BoundsInward e (λ z. record { number = refl; low = low; high = high }) (record { number = e; low = le_refl 0; high = le_refl 0 })

-- One slice by its cause.
slice_inward : (high : Bool) {n n' : ℕ} (l l' before : List ℕ) → n ≡ n' → ((j : ℕ) → NotAfter high (at l j) (at l' j)) → (j : ℕ)
    → NotAfter high (at (sheet_slice n l before) j) (at (sheet_slice n' l' before) j)
slice_inward high l l' before e figures j =
    cause_related (λ l l'. NotAfter high (at l j) (at l' j)) e (λ z. figures j) (not_after_same high refl)

-- A number of the table, where shares, means and totals are related.
entry_inward : (high : Bool) {s s' : Scheme} → SameButBands s s' → (share share' : ℕ → ℕ → ℕ) (mean mean' : ℕ → ℕ) (total total' : ℕ)
    → ((t j : ℕ) → NotAfter high (share t j) (share' t j)) → ((t : ℕ) → NotAfter high (mean t) (mean' t)) → NotAfter high total total'
    → (p : ℕ) → NotAfter high (table_entry s share mean total p) (table_entry s' share' mean' total' p)
unfolding table_entry
entry_inward high {s} {s'} v share share' mean mean' total total' shares means totals p =
    subst (λ e. NotAfter high e (table_entry s' share' mean' total' p)) (sym same)
    (test_related (NotAfter high) (ltb p (total_place s')) (test_related (NotAfter high) (ltb (p % suc s'.classes) s'.classes) (shares _ _) (means _)) totals)
  where
    same : table_entry s share mean total p ≡ table_entry s' share mean total p
    same =
        ap₂ (λ n h. cond (ltb p (suc h * suc n)) (cond (ltb (p % suc n) n) (share (p / suc n) (p % suc n)) (mean (p / suc n))) total) v.classes v.horizon

-- The figures of trimmed schemes, at the start class.
module _ {wide narrow : Scheme} (okWide : Accepted wide) (okNarrow : Accepted narrow) (trimmed : Trimmed wide narrow) where
  cause : SameCause wide narrow
  cause = trimmed_cause trimmed okWide okNarrow

  start_same : start_of wide ≡ start_of narrow
  start_same = ap (λ x. x - 1) trimmed.others.start

  start_within : start_of wide < wide.classes
  start_within = omega (arith, okWide.start.positive, okWide.start.within)

  module _ (high : Bool) where
    -- Any payoff and gain, each no further out: of every class, and of the start class.
    module _ (payoff payoff' gain gain' : ℕ → ℕ)
        (payoffs : (i : ℕ) → i < wide.classes → NotAfter high (payoff i) (payoff' i)) (gains : (i : ℕ) → i < wide.classes → NotAfter high (gain i) (gain' i)) (t : ℕ) where
      class_inward : (i : ℕ) → i < wide.classes → NotAfter high (years_figure high (chain_of wide) payoff gain t i) (years_figure high (chain_of narrow) payoff' gain' t i)
      class_inward = years_inward high (accepted_sound wide okWide) (accepted_sound narrow okNarrow) (trimmed_covers trimmed) payoff payoff' gain gain' payoffs gains t

      pub figure_inward : NotAfter high (years_figure high (chain_of wide) payoff gain t (start_of wide)) (years_figure high (chain_of narrow) payoff' gain' t (start_of narrow))
      figure_inward =
          subst (λ i. NotAfter high (years_figure high (chain_of wide) payoff gain t (start_of wide)) (years_figure high (chain_of narrow) payoff' gain' t i))
          start_same
          (class_inward (start_of wide) start_within)

    abbrev share : Scheme → (t j : ℕ) → ℕ
    share s t j = share_figure high (chain_of s) j t (start_of s)

    abbrev mean : Scheme → (t : ℕ) → ℕ
    mean s t = mean_figure high (chain_of s) (premium_at s) t (start_of s)

    abbrev total : Scheme → (t : ℕ) → ℕ
    total s t = total_figure high (chain_of s) (premium_at s) t (start_of s)

    same : (f : ℕ → ℕ) (i : ℕ) → i < wide.classes → NotAfter high (f i) (f i)
    same f i l = not_after_same high refl

    premiums : (i : ℕ) → i < wide.classes → NotAfter high (tenths (premium_at wide) i) (tenths (premium_at narrow) i)
    premiums i l = not_after_same high (ap (λ x. x * CENT) (trimmed.others.premiums i l))

    share_inward : (t j : ℕ) → NotAfter high (share wide t j) (share narrow t j)
    share_inward t j = figure_inward (share_payoff j) (share_payoff j) nothing nothing (same (share_payoff j)) (same nothing) t

    mean_inward : (t : ℕ) → NotAfter high (mean wide t) (mean narrow t)
    mean_inward t =
        rounded_inward high CENT _ _ (figure_inward (tenths (premium_at wide)) (tenths (premium_at narrow)) nothing nothing premiums (same nothing) t)

    total_inward : (t : ℕ) → NotAfter high (total wide t) (total narrow t)
    total_inward t =
        rounded_inward high CENT _ _ (figure_inward nothing nothing (tenths (premium_at wide)) (tenths (premium_at narrow)) (same nothing) premiums t)

    reached_figure_inward : (t j : ℕ) → NotAfter high (reached_figure high (chain_of wide) j t (start_of wide)) (reached_figure high (chain_of narrow) j t (start_of narrow))
    reached_figure_inward t j =
        subst (λ i. NotAfter high (reached_figure high (chain_of wide) j t (start_of wide)) (reached_figure high (chain_of narrow) j t i)) start_same
        (reached_inward high (accepted_sound wide okWide) (accepted_sound narrow okNarrow) (trimmed_covers trimmed) j t (start_of wide) start_within)

    -- Pooled figures.
    class_figure_inward : (figure : Figure) (t i : ℕ) → i < wide.classes → NotAfter high (class_figure high wide figure t i) (class_figure high narrow figure t i)
    class_figure_inward (Figure.share class) = class_inward (share_payoff (class - 1)) (share_payoff (class - 1)) nothing nothing (same (share_payoff (class - 1))) (same nothing)
    class_figure_inward Figure.mean = class_inward (tenths (premium_at wide)) (tenths (premium_at narrow)) nothing nothing premiums (same nothing)
    class_figure_inward Figure.total = class_inward nothing nothing (tenths (premium_at wide)) (tenths (premium_at narrow)) (same nothing) premiums

    pooled_figure_inward : (book : List ℕ) (figure : Figure) (t : ℕ) → NotAfter high (pooled high wide book figure t) (pooled high narrow book figure t)
    pooled_figure_inward book figure t =
        subst (λ n. NotAfter high (pooled high wide book figure t) (pooled_figure high (units_of figure) n (at book) (class_figure high narrow figure t))) trimmed.others.classes
        (pooled_inward high (units_of figure) wide.classes (at book) (class_figure high wide figure t) (class_figure high narrow figure t) (class_figure_inward figure t))

    pooled_shares_inward : (book : List ℕ) (year j : ℕ) → NotAfter high (at (pooled_shares high wide book year) j) (at (pooled_shares high narrow book year) j)
    unfolding pooled_shares
    pooled_shares_inward book year =
        tab_related (NotAfter high) (not_after_same high refl) trimmed.others.classes _ _ (λ j l. pooled_figure_inward book (Figure.share (j + 1)) year)

    shares_inward : (year j : ℕ) → NotAfter high (at (figure_shares high wide year) j) (at (figure_shares high narrow year) j)
    unfolding figure_shares
    shares_inward year = tab_related (NotAfter high) (not_after_same high refl) trimmed.others.classes _ _ (λ j l. share_inward year j)

    table_inward : (p : ℕ) → NotAfter high (at (figure_table high wide) p) (at (figure_table high narrow) p)
    unfolding figure_table
    table_inward =
        tab_related (NotAfter high) (not_after_same high refl) size _ _
        (λ p l. entry_inward high trimmed.others _ _ _ _ _ _ share_inward mean_inward at_horizon p)
      where
        size : table_size wide ≡ table_size narrow
        size = ap₂ (λ n h. suc h * suc n + 1) trimmed.others.classes trimmed.others.horizon

        at_horizon : NotAfter high (total wide wide.horizon) (total narrow narrow.horizon)
        at_horizon = subst (λ t. NotAfter high (total wide wide.horizon) (total narrow t)) trimmed.others.horizon (total_inward wide.horizon)

    -- One slice of a share sheet, of a pooled one, and of all figures.
    sheet_slice_lem : (year : ℕ) (before : List ℕ) {n n' : ℕ} → n ≡ n' → (j : ℕ)
        → NotAfter high (at (sheet_slice n (figure_shares high wide year) before) j) (at (sheet_slice n' (figure_shares high narrow year) before) j)
    sheet_slice_lem year before e = slice_inward high (figure_shares high wide year) (figure_shares high narrow year) before e (shares_inward year)

    pooled_slice_lem : (book : List ℕ) (year : ℕ) (before : List ℕ) {n n' : ℕ} → n ≡ n' → (j : ℕ)
        → NotAfter high (at (sheet_slice n (pooled_shares high wide book year) before) j) (at (sheet_slice n' (pooled_shares high narrow book year) before) j)
    pooled_slice_lem book year before e = slice_inward high (pooled_shares high wide book year) (pooled_shares high narrow book year) before e (pooled_shares_inward book year)

    table_slice : (before : List ℕ) {n n' : ℕ} → n ≡ n' → (j : ℕ)
        → NotAfter high (at (sheet_slice n (figure_table high wide) before) j) (at (sheet_slice n' (figure_table high narrow) before) j)
    table_slice before e = slice_inward high (figure_table high wide) (figure_table high narrow) before e table_inward

  -- Item 1 on what the calls answer.
  pub answers_inward : AnswersInward wide narrow
  unfolding share_answer mean_answer total_answer reached_answer sheet_cause pooled_answer pooled_sheet_cause table_cause
  answers_inward =
      record {
        share = λ class year. answer_inward (share_cause_lem cause class year) (share_inward false year (class - 1)) (share_inward true year (class - 1));
        mean = λ year. answer_inward (money_cause_lem cause year) (mean_inward false year) (mean_inward true year);
        total = λ year. answer_inward (money_cause_lem cause year) (total_inward false year) (total_inward true year);
        reached = λ class year.
            answer_inward (share_cause_lem cause class year) (reached_figure_inward false year (class - 1)) (reached_figure_inward true year (class - 1));
        sheet = λ year low high.
            let e = sheet_cause_lem cause year (length low) (length high) in
            record { number = e; low = sheet_slice_lem false year low e; high = sheet_slice_lem true year high e };
        pooled_figures = λ book figure year.
            answer_inward (pooled_cause_lem cause book figure year) (pooled_figure_inward false book figure year) (pooled_figure_inward true book figure year);
        pooled_sheet = λ book year low high.
            let e = pooled_sheet_cause_lem cause book year (length low) (length high) in
            record { number = e; low = pooled_slice_lem false book year low e; high = pooled_slice_lem true book year high e };
        table = λ low high.
            let e = table_cause_lem cause (length low) (length high) in
            record { number = e; low = table_slice false low e; high = table_slice true high e };
      }
