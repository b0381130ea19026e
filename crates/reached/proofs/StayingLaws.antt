-- The scheme whose rules of one class lead to the class itself: it has the same causes, and its share of that class is the chance of having reached it.
-- Assumes nothing.
use Prim.Native.Nat.{ℕ, suc, min, ◌-◌, ◌<◌, ◌≤◌}
use mathlib.Core.Path.{◌≡◌, refl, ap, ap₂, sym, ◌∙◌}
use mathlib.Core.Bool.{Bool, true, false, cond}
use mathlib.Core.List.{List}
use lib.Dec.{eqb}
use native.Mathlib.Decide.{ℕ_discrete}
use native.Mathlib.Omega.{arith}
use borrow.Author.Tests.{ne_eqb}
use Rattle.setchain.specs.Sums.{sum_to, only_if}
use Rattle.setchain.specs.Rows.{ONE}
use Rattle.setchain.specs.Years.{share_figure}
use Rattle.setchain.specs.Reached.{reached_figure}
use Rattle.setchain.proofs.ReachedTheorems.{StaysAt, staying_share}
use Rattle.setchain.proofs.Laws.Sums.{sum_to_eq, sum_to_zero, only_if_false}
use Rattle.setchain.proofs.Laws.Tests.{any_eq}
use Rattle.setchain.proofs.Laws.Agreeing.{Agree}
use Rattle.scheme.specs.declared.Scheme.{Scheme}
use Rattle.scheme.specs.Access.{cell_count, rule_at, lower_at, upper_at}
use Rattle.scheme.specs.Accepted.{SizeFits, Accepted}
use Rattle.scheme.specs.FirstCause.{or_else}
use Rattle.scheme.specs.Cause.{outside, size_out, start_out, horizon_out, rule_out, band_out, sum_out, premium_out, cause_of, class_cause, year_cause}
use Rattle.scheme.specs.Rows.{chain_of}
use Rattle.scheme.proofs.Laws.FirstCause.{first_none, second_none, by_cause}
use Rattle.scheme.proofs.Laws.Cause.{inside_outside, class_fits}
use Rattle.scheme.proofs.Laws.Judged.{size_tells, accepted_cause}
use Rattle.scheme.proofs.Laws.Sound.{accepted_sound}
use Rattle.scheme.proofs.Laws.Values.{size_first}
use Rattle.bounds_spec.specs.Answers.{Answered, Refused, start_of, share_answer}
use Rattle.bounds_spec.specs.Causes.{share_cause}
use Rattle.bounds_spec.specs.Reached.{reached_answer}
use Rattle.bounds_spec.proofs.Laws.Causes.{of_share}
use Rattle.reached.specs.Staying.{staying_rule, StayingRules, with_rules}

-- A rule is outside where it was.
outside_kept : (classes class rule : ℕ) → outside classes class ≡ false → outside classes (staying_rule classes class rule) ≡ outside classes rule
outside_kept classes class rule inside = by (outside classes rule) refl
  where
    by : (b : Bool) → outside classes rule ≡ b → outside classes (cond b rule class) ≡ b
    by true e = e
    by false e = inside

module _ (s : Scheme) (class : ℕ) (rules : List ℕ) (w : StayingRules s.classes class s.rules rules) where
  abbrev staying : Scheme
  staying = with_rules s rules

  -- Each rule passes its test where it did: there is no second rule of acceptance.
  rule_kept : SizeFits s → (i k : ℕ) → i < s.classes → k < cell_count s → outside s.classes (rule_at staying i k) ≡ outside s.classes (rule_at s i k)
  rule_kept size i k l g = by (ℕ_discrete (suc i) class)
    where
      by : Dec (suc i ≡ class) → outside s.classes (rule_at staying i k) ≡ outside s.classes (rule_at s i k)
      by (yes e) =
          ap (outside s.classes) (w.own i k e (omega (arith, size.classes)) (omega (arith, size.columns)))
          ∙ outside_kept s.classes class (rule_at s i k) (inside_outside s.classes class (omega arith) (omega arith))
      by (no other) = ap (outside s.classes) (w.others i k other (omega (arith, size.columns)))

  rules_kept : SizeFits s → rule_out staying ≡ rule_out s
  unfolding rule_out
  rules_kept size = any_eq refl _ _ (λ i l. any_eq refl _ _ (λ k g. rule_kept size i k l g))

  size_kept : size_out s ≡ true → size_out staying ≡ true
  unfolding size_out
  size_kept e = e

  by_rules : rule_out staying ≡ rule_out s → cause_of staying ≡ cause_of s
  unfolding cause_of size_out start_out horizon_out band_out sum_out premium_out
  by_rules e = rw e

  cause_kept : cause_of staying ≡ cause_of s
  cause_kept = by (size_out s) refl
    where
      by : (b : Bool) → size_out s ≡ b → cause_of staying ≡ cause_of s
      by true e = size_first staying (size_kept e) ∙ sym (size_first s e)
      by false e = by_rules (rules_kept ((size_tells s).fits e))

  share_cause_kept : (year : ℕ) → share_cause staying class year ≡ share_cause s class year
  share_cause_kept year = ap (λ c. or_else c (or_else (class_cause s class) (year_cause s year))) cause_kept

  -- An accepted scheme, and one of its classes.
  module _ (none : cause_of s ≡ 0) (positive : 1 ≤ class) (within : class ≤ s.classes) where
    ok : Accepted s
    ok = accepted_cause s none

    -- Every cell of the class leads to it.
    led : (k : ℕ) → k < cell_count s → rule_at staying (class - 1) k ≡ class
    led k g =
        w.own (class - 1) k (omega arith) (omega (arith, ok.size.classes)) (omega (arith, ok.size.columns))
        ∙ ap (λ b. cond b (rule_at s (class - 1) k) class)
        (inside_outside s.classes (rule_at s (class - 1) k) (ok.rules.positive (class - 1) k (omega arith) g) (ok.rules.within (class - 1) k (omega arith) g))

    no_band : (j : ℕ) → (j ≡ class - 1 → ⊥) → (k : ℕ) → k < cell_count s → only_if (eqb (rule_at staying (class - 1) k - 1) j) (upper_at s (class - 1) k) ≡ 0
    no_band j other k g =
        only_if_false (eqb (rule_at staying (class - 1) k - 1) j) (upper_at s (class - 1) k) (ne_eqb (rule_at staying (class - 1) k - 1) j (λ e. other (omega (arith, led k g))))

    stays : class - 1 < s.classes → StaysAt s.classes (class - 1) ((chain_of staying).row (class - 1))
    stays l =
        record {
          sound = accepted_sound staying (accepted_cause staying (cause_kept ∙ none)) (class - 1) l;
          itself = λ j m other.
              ap (min ONE) (sum_to_eq (cell_count s) _ (λ k. 0) (no_band j other) ∙ sum_to_zero (cell_count s));
        }

    -- The other classes keep their rows.
    into_kept : (i : ℕ) → i < s.classes → (i ≡ class - 1 → ⊥) → (band : ℕ → ℕ) (j : ℕ)
        → sum_to (cell_count s) (λ k. only_if (eqb (rule_at staying i k - 1) j) (band k)) ≡ sum_to (cell_count s) (λ k. only_if (eqb (rule_at s i k - 1) j) (band k))
    into_kept i l other band j =
        sum_to_eq (cell_count s) _ _
        (λ k g. ap (λ rule. only_if (eqb (rule - 1) j) (band k)) (w.others i k (λ e. other (omega arith)) (omega (arith, ok.size.columns))))

    rows_kept : (i : ℕ) → i < s.classes → (i ≡ class - 1 → ⊥) → Agree s.classes ((chain_of staying).row i) ((chain_of s).row i)
    rows_kept i l other =
        record { lower = λ j m. into_kept i l other (lower_at s i) j; upper = λ j m. ap (min ONE) (into_kept i l other (upper_at s i) j) }

    chance_is_share : (high : Bool) (year : ℕ) → reached_figure high (chain_of s) (class - 1) year (start_of s) ≡ share_figure high (chain_of staying) (class - 1) year (start_of s)
    chance_is_share high year =
        sym (staying_share {c = chain_of s} {d = chain_of staying} refl stays rows_kept high year (start_of s) (omega (arith, ok.start.positive, ok.start.within)))

  -- The chance of having reached the class is its share there, declined or not.
  pub reached_by_share : (year : ℕ) → reached_answer s class year ≡ share_answer staying class year
  unfolding reached_answer share_answer
  reached_by_share year =
      by_cause (sym (share_cause_kept year)) (λ z. ap₂ Answered (figure false z) (figure true z)) (ap Refused (sym (share_cause_kept year)))
    where
      figure : (high : Bool) → share_cause s class year ≡ 0
          → reached_figure high (chain_of s) (class - 1) year (start_of s) ≡ share_figure high (chain_of staying) (class - 1) year (start_of s)
      figure high z =
          let query = second_none (cause_of s) (or_else (class_cause s class) (year_cause s year)) z in
          let fits = class_fits s.classes class (first_none (class_cause s class) (year_cause s year) query) in
          chance_is_share (of_share s class year z) fits.0 fits.1 high year
