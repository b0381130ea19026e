-- The calls that answer low and high: what a cause of 0 tells, and their answers, with what these promise.
-- Assumes nothing.
use Prim.Native.Nat.{ℕ, ◌*◌, ◌-◌, ◌≤◌}
use mathlib.Core.Path.{◌≡◌, ap, ap₂, sym, ◌∙◌, subst}
use mathlib.Core.Bool.{Bool, true, false}
use mathlib.Core.List.{List}
use mir.Syntax.{w64}
use mir.Val.{Fits}
use native.Mathlib.Omega.{arith}
use lib.Dec.{ltb}
use borrow.Author.Tests.{ltb-false}
use Rattle.std.specs.Prelude.{Result, IsErr, IsErrAnd}
use Rattle.setchain.specs.Years.{share_figure}
use Rattle.scheme.specs.declared.Cause.{Cause}
use Rattle.scheme.specs.declared.Scheme.{Scheme}
use Rattle.scheme.specs.Accepted.{Accepted}
use Rattle.scheme.specs.FirstCause.{or_else}
use Rattle.scheme.specs.Number.{cause_number}
use Rattle.scheme.specs.Cause.{outside, cause_of, class_cause, year_cause}
use Rattle.scheme.specs.Rows.{chain_of}
use Rattle.scheme.proofs.Laws.FirstCause.{first_none, second_none, test_none, by_cause, declined}
use Rattle.scheme.proofs.Laws.Cause.{outside_false}
use Rattle.scheme.proofs.Laws.Judged.{accepted_cause}
use Rattle.scheme.proofs.Laws.Number.{cause_some, passed_whole}
use Rattle.bounds_spec.specs.declared.Bounds.{Bounds}
use Rattle.bounds_spec.specs.Answers.{BoundsAnswer, Answered, Refused, bounds_answer_of, answer_by, start_of, share_answer, mean_answer, total_answer}
use Rattle.bounds_spec.specs.Promises.{SharePromise, MeanPromise, TotalPromise}
use Rattle.bounds_spec.proofs.Laws.Kept.{share_kept, mean_kept, total_kept}
use Rattle.bounds.specs.Series.{SharePayoffPost, start_figure, SeriesPre}
use Rattle.bounds.specs.Money.{TenthsPost, in_cents}
use Rattle.bounds.proofs.FrontLaws.{zeros}
use Rattle.bounds.proofs.PayoffsLaws.{share_fits, share_figure_lem, mean_fits, mean_figure_lem, total_fits, total_figure_lem}
use Rattle.bounds.proofs.MoneyLaws.{cents_answer}
use Rattle.bounds_spec.specs.Causes.{share_cause, money_cause}

-- Answers with the same cause are the same, where their figures are.
pub answer_same : {n m low high low' high' : ℕ} → n ≡ m → (n ≡ 0 → low ≡ low') → (n ≡ 0 → high ≡ high') → answer_by n low high ≡ answer_by m low' high'
answer_same e p q = by_cause e (λ z. ap₂ Answered (p z) (q z)) (ap Refused e)

-- A call to which `?` passed a cause on answers by that cause.
pub refused : (r : Result Bounds Cause) (cause : Cause) {n : ℕ} (low high : ℕ) → IsErr r × IsErrAnd r (λ e. e ≡ cause) → cause_number cause ≡ n
    → bounds_answer_of r ≡ answer_by n low high
refused r cause {n} low high passed same =
    ap bounds_answer_of (passed_whole r cause passed) ∙ ap Refused same
    ∙ sym (declined n (Answered low high) (Refused n) (λ z. cause_some cause (same ∙ z)))

-- An answer keeps the promise that the definition's answer keeps.
pub with_promise : (P : BoundsAnswer → Type 0) {a r : BoundsAnswer} → P a → r ≡ a → (r ≡ a) × P r
with_promise P kept e = (e, subst P (sym e) kept)

-- The share of a class.
module _ (s : Scheme) (class year : ℕ) {n : ℕ} (e : n ≡ share_cause s class year) where
  pub share_accepted : n ≡ 0 → Accepted s
  share_accepted z = accepted_cause s (first_none (cause_of s) (or_else (class_cause s class) (year_cause s year)) (sym e ∙ z))

  pub class_inside : n ≡ 0 → (1 ≤ class) × (class ≤ 32)
  class_inside z =
      let inside : (1 ≤ class) × (class ≤ s.classes) =
      outside_false s.classes class
      (test_none (outside s.classes class) 11 (omega arith)
      (first_none (class_cause s class) (year_cause s year) (second_none (cause_of s) (or_else (class_cause s class) (year_cause s year)) (sym e ∙ z)))) in
      (inside.0, omega (arith, inside.1, (share_accepted z).size.classes))

  module _ {payoff : List ℕ} (held : SharePayoffPost class payoff) where
    pub share_ready : Fits w64 (year * 1) → n ≡ 0 → SeriesPre s zeros payoff year 1
    share_ready counted z =
        record {
          accepted = share_accepted z;
          fits = share_fits s (share_accepted z) held (class_inside z).0 (class_inside z).1 year;
          apart = omega arith;
          counted = counted;
        }

    pub share_answer_lem : {r : BoundsAnswer} → r ≡ answer_by n (start_figure false s zeros payoff year) (start_figure true s zeros payoff year)
        → (r ≡ share_answer s class year) × SharePromise s class year r
    unfolding share_answer
    share_answer_lem b =
        with_promise (SharePromise s class year) (share_kept s class year) (b ∙ answer_same e (λ z. figure z false) (λ z. figure z true))
      where
        figure : n ≡ 0 → (high : Bool) → start_figure high s zeros payoff year ≡ share_figure high (chain_of s) (class - 1) year (start_of s)
        figure z = share_figure_lem s (share_accepted z) held (class_inside z).0 (class_inside z).1 year

-- The mean premium, and the total of premiums.
module _ (s : Scheme) (year : ℕ) {n : ℕ} (e : n ≡ money_cause s year) where
  pub money_accepted : n ≡ 0 → Accepted s
  money_accepted z = accepted_cause s (first_none (cause_of s) (year_cause s year) (sym e ∙ z))

  year_inside : n ≡ 0 → year ≤ 100
  year_inside z =
      let inside : year ≤ s.horizon =
      ltb-false s.horizon year (test_none (ltb s.horizon year) 12 (omega arith) (second_none (cause_of s) (year_cause s year) (sym e ∙ z))) in
      omega (arith, (money_accepted z).horizon.within)

  module _ {premiums : List ℕ} (are : TenthsPost s.premiums premiums) where
    pub mean_ready : Fits w64 (year * 1) → n ≡ 0 → SeriesPre s zeros premiums year 1
    mean_ready counted z = record { accepted = money_accepted z; fits = mean_fits s (money_accepted z) are year; apart = omega arith; counted = counted }

    pub mean_answer_lem : {b r : BoundsAnswer} → b ≡ answer_by n (start_figure false s zeros premiums year) (start_figure true s zeros premiums year) → r ≡ in_cents b
        → (r ≡ mean_answer s year) × MeanPromise s year r
    unfolding mean_answer
    mean_answer_lem b c =
        with_promise (MeanPromise s year) (mean_kept s year)
        (c ∙ ap in_cents b ∙ cents_answer n _ _ ∙ answer_same e (λ z. mean_figure_lem s (money_accepted z) are year false) (λ z. mean_figure_lem s (money_accepted z) are year true))

    pub total_ready : Fits w64 (year * 1) → n ≡ 0 → SeriesPre s premiums zeros year 1
    total_ready counted z =
        record { accepted = money_accepted z; fits = total_fits s (money_accepted z) are year (year_inside z); apart = omega arith; counted = counted }

    pub total_answer_lem : {b r : BoundsAnswer} → b ≡ answer_by n (start_figure false s premiums zeros year) (start_figure true s premiums zeros year) → r ≡ in_cents b
        → (r ≡ total_answer s year) × TotalPromise s year r
    unfolding total_answer
    total_answer_lem b c =
        with_promise (TotalPromise s year) (total_kept s year)
        (c ∙ ap in_cents b ∙ cents_answer n _ _ ∙ answer_same e (λ z. total_figure_lem s (money_accepted z) are year false) (λ z. total_figure_lem s (money_accepted z) are year true))
