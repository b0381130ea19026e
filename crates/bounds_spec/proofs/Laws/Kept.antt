-- The answers keep their promises: setchain's theorems at an accepted scheme's chain and start class.
use Rattle.std.specs.Prelude.{ℕ, ◌-◌, ◌≡◌, List, Bool, true, false, get_or, length}
use Rattle.std.proofs.Common.{ap, sym, ◌∙◌, subst, subst₂, arith}
use Rattle.std.proofs.Math.Decide.{ℕ_discrete}
use Rattle.setchain.specs.Fractions.{Fraction}
use Rattle.setchain.specs.Picks.{Matrix, PicksFor, exact_mean, exact_total}
use Rattle.setchain.specs.Years.{share_figure, low_share, high_share, low_mean, high_mean, low_total, high_total}
use Rattle.setchain.specs.Promise.{share_in_parts, Nearness, Promise, KeptBy}
use Rattle.setchain.proofs.Theorems.{share_promise, mean_promise, total_promise, some_picks}
use Rattle.setchain.proofs.Kept.{at_state}
use Rattle.scheme.specs.declared.Scheme.{Scheme}
use Rattle.scheme.specs.Access.{premium_at}
use Rattle.scheme.specs.Accepted.{Accepted}
use Rattle.scheme.specs.Rows.{chain_of}
use Rattle.scheme.proofs.Laws.FirstCause.{declined, answered}
use Rattle.scheme.proofs.Laws.Judged.{accepted_cause}
use Rattle.scheme.proofs.Laws.Sound.{accepted_sound}
use Rattle.scheme.proofs.Laws.Tab.{get_d_tab}
use Rattle.bounds_spec.specs.Answers.{Answered, Refused, number_of, low_of, high_of, answer_by, start_of, share_answer, mean_answer, total_answer, sheet_cause, sheet_slice, figure_shares, low_shares, high_shares}
use Rattle.bounds_spec.specs.Promises.{ShareKept, MoneyKept, start_share, start_mean, start_total, SharePromise, MeanPromise, TotalPromise, SheetPromise, TableKept, FiguresPromise}
use Rattle.bounds_spec.specs.Table.{low_table, high_table, table_cause}
use Rattle.bounds_spec.proofs.Laws.Table.{share_at, mean_at, total_at}
use Rattle.bounds_spec.specs.Causes.{share_cause, money_cause}
use Rattle.bounds_spec.proofs.Laws.Causes.{of_share, of_money, of_sheet, of_table}

-- A promise for every state, at the start class.
pub at_start : (s : Scheme) → Accepted s → {near : Nearness} (t : ℕ) (low high : ℕ → ℕ) (exact : List Matrix → ℕ → Fraction) → Promise (chain_of s) t near low high exact
    → KeptBy (chain_of s) t near (λ ps. exact ps (start_of s)) (low (start_of s)) (high (start_of s))
at_start s ok t low high exact = at_state (start_of s) (omega (arith, ok.start.positive, ok.start.within))

-- The three figures of a state, each by its theorem.
module _ (s : Scheme) (ok : Accepted s) (t : ℕ) where
  share_at_start : (j : ℕ) → ShareKept s t (start_share s j) (low_share (chain_of s) j t (start_of s)) (high_share (chain_of s) j t (start_of s))
  share_at_start j = at_start s ok t (low_share (chain_of s) j t) (high_share (chain_of s) j t) (share_in_parts s.classes j) (share_promise (chain_of s) (accepted_sound s ok) j t)

  mean_at_start : MoneyKept s t (start_mean s) (low_mean (chain_of s) (premium_at s) t (start_of s)) (high_mean (chain_of s) (premium_at s) t (start_of s))
  mean_at_start =
      at_start s ok t (low_mean (chain_of s) (premium_at s) t) (high_mean (chain_of s) (premium_at s) t) (exact_mean s.classes (premium_at s))
      (mean_promise (chain_of s) (accepted_sound s ok) (premium_at s) t)

  total_at_start : MoneyKept s t (start_total s) (low_total (chain_of s) (premium_at s) t (start_of s)) (high_total (chain_of s) (premium_at s) t (start_of s))
  total_at_start =
      at_start s ok t (low_total (chain_of s) (premium_at s) t) (high_total (chain_of s) (premium_at s) t) (exact_total s.classes (premium_at s))
      (total_promise (chain_of s) (accepted_sound s ok) (premium_at s) t)

-- An answer's number is its cause.
pub answer_number : (n low high : ℕ) → number_of (answer_by n low high) ≡ n
answer_number n low high = by (ℕ_discrete n 0)
  where
    by : Dec (n ≡ 0) → number_of (answer_by n low high) ≡ n
    by (yes z) = ap number_of (answered n (Answered low high) (Refused n) z) ∙ sym z
    by (no h) = ap number_of (declined n (Answered low high) (Refused n) h)

-- Where there is no cause the figures are those of the definition.
pub kept_answer : (kept : (low high : ℕ) → Type 0) (n low high : ℕ) → (n ≡ 0 → kept low high)
    → number_of (answer_by n low high) ≡ 0 → kept (low_of (answer_by n low high)) (high_of (answer_by n low high))
kept_answer kept n low high k e =
    let z : n ≡ 0 = sym (answer_number n low high) ∙ e in
    subst (λ r. kept (low_of r) (high_of r)) (sym (answered n (Answered low high) (Refused n) z)) (k z)

pub share_kept : (s : Scheme) (class year : ℕ) → SharePromise s class year (share_answer s class year)
unfolding share_answer
share_kept s class year =
    kept_answer (ShareKept s year (start_share s (class - 1))) (share_cause s class year) _ _
    (λ z. share_at_start s (accepted_cause s (of_share s class year z)) year (class - 1))

pub mean_kept : (s : Scheme) (year : ℕ) → MeanPromise s year (mean_answer s year)
unfolding mean_answer
mean_kept s year =
    kept_answer (MoneyKept s year (start_mean s)) (money_cause s year) _ _
    (λ z. mean_at_start s (accepted_cause s (of_money s year z)) year)

pub total_kept : (s : Scheme) (year : ℕ) → TotalPromise s year (total_answer s year)
unfolding total_answer
total_kept s year =
    kept_answer (MoneyKept s year (start_total s)) (money_cause s year) _ _
    (λ z. total_at_start s (accepted_cause s (of_money s year z)) year)

-- Of the slices as a share sheet leaves them.
pub sheet_kept : (s : Scheme) (year : ℕ) (low high : List ℕ)
    → SheetPromise s year (sheet_cause s year low high)
    (sheet_slice (sheet_cause s year low high) (low_shares s year) low)
    (sheet_slice (sheet_cause s year low high) (high_shares s year) high)
unfolding sheet_cause figure_shares
sheet_kept s year low high z j l = subst₂ (ShareKept s year (start_share s j)) (sym (written false low)) (sym (written true high)) (share_at_start s ok year j)
  where
    number : ℕ
    number = sheet_cause s year low high

    ok : Accepted s
    ok = accepted_cause s (of_sheet s year (length low) (length high) z)

    written : (side : Bool) (before : List ℕ) → get_or (sheet_slice number (figure_shares side s year) before) j 0 ≡ share_figure side (chain_of s) j year (start_of s)
    written side before =
        ap (λ x. get_or x j 0) (answered number (figure_shares side s year) before z) ∙ get_d_tab s.classes (λ k. share_figure side (chain_of s) k year (start_of s)) j 0 l

-- The promises are not empty: picks for any number of years exist.
pub picks_exist : (s : Scheme) → Accepted s → (t : ℕ) → (ps : List Matrix) × PicksFor (chain_of s) t ps
picks_exist s ok t = some_picks (chain_of s) (accepted_sound s ok) t

-- Of an accepted scheme's tables.
table_kept : (s : Scheme) → Accepted s → TableKept s (low_table s) (high_table s)
table_kept s ok =
    record {
      shares = λ t j h l. subst₂ (ShareKept s t (start_share s j)) (sym (share_at false s t h j l)) (sym (share_at true s t h j l)) (share_at_start s ok t j);
      means = λ t h. subst₂ (MoneyKept s t (start_mean s)) (sym (mean_at false s t h)) (sym (mean_at true s t h)) (mean_at_start s ok t);
      total = subst₂ (MoneyKept s s.horizon (start_total s)) (sym (total_at false s)) (sym (total_at true s)) (total_at_start s ok s.horizon);
    }

-- Of the slices as a call for all figures leaves them.
pub figures_kept : (s : Scheme) (low high : List ℕ)
    → FiguresPromise s (table_cause s low high)
    (sheet_slice (table_cause s low high) (low_table s) low)
    (sheet_slice (table_cause s low high) (high_table s) high)
unfolding table_cause
figures_kept s low high z =
    subst₂ (λ a b. TableKept s a b)
    (sym (answered (table_cause s low high) (low_table s) low z))
    (sym (answered (table_cause s low high) (high_table s) high z))
    (table_kept s (accepted_cause s (of_table s (length low) (length high) z)))
