-- What is true of the chances that are answered (document 02, item 9): ONE for the start class itself, and never less in a later year.
use Rattle.std.specs.Prelude.{ℕ, suc, ◌-◌, ◌≤◌, ◌≡◌, refl, Bool, true, false, ltb}
use Rattle.std.proofs.Common.{ap₂, sym, ◌∙◌, subst₂, arith, ltb-false}
use Rattle.setchain.specs.Rows.{ONE}
use Rattle.setchain.specs.Reached.{reached_figure}
use Rattle.setchain.proofs.ReachedTheorems.{own_figure, never_falls}
use Rattle.scheme.specs.declared.Scheme.{Scheme}
use Rattle.scheme.specs.Accepted.{Accepted}
use Rattle.scheme.specs.FirstCause.{or_else}
use Rattle.scheme.specs.Cause.{cause_of, class_cause, year_cause}
use Rattle.scheme.specs.Rows.{chain_of}
use Rattle.scheme.proofs.Laws.FirstCause.{answered, first_none, second_none, test_none}
use Rattle.scheme.proofs.Laws.Cause.{class_fits}
use Rattle.scheme.proofs.Laws.Judged.{accepted_cause}
use Rattle.scheme.proofs.Laws.Sound.{accepted_sound}
use Rattle.bounds_spec.specs.Answers.{Answered, number_of, answer_by, start_of}
use Rattle.bounds_spec.specs.Causes.{share_cause}
use Rattle.bounds_spec.specs.Reached.{reached_answer}
use Rattle.bounds_spec.proofs.Laws.Answered.{no_share_cause}
use Rattle.bounds_spec.proofs.Laws.Causes.{of_share}
use Rattle.bounds_spec.proofs.Laws.Kept.{answer_number}
pub use Rattle.bounds_spec.specs.Chances.{Rises}

-- The start class itself: ONE and ONE in every year to the horizon.
pub own_class : (s : Scheme) → Accepted s → (t : ℕ) → t ≤ s.horizon → reached_answer s s.start t ≡ Answered ONE ONE
unfolding reached_answer
own_class s ok t h =
    answered (share_cause s s.start t) _ _ (no_share_cause s ok s.start t ok.start.positive ok.start.within h)
    ∙ ap₂ Answered (own_figure false (chain_of s) (start_of s) t) (own_figure true (chain_of s) (start_of s) t)

-- Where the later year is answered, so is the year before it.
year_before_lem : (s : Scheme) (class year : ℕ) → share_cause s class (suc year) ≡ 0 → share_cause s class year ≡ 0
year_before_lem s class year z =
    let query = second_none (cause_of s) (or_else (class_cause s class) (year_cause s (suc year))) z in
    let fits = class_fits s.classes class (first_none (class_cause s class) (year_cause s (suc year)) query) in
    let late = test_none (ltb s.horizon (suc year)) 12 (omega arith) (second_none (class_cause s class) (year_cause s (suc year)) query) in
    no_share_cause s (accepted_cause s (of_share s class (suc year) z)) class year fits.0 fits.1 (omega (arith, ltb-false s.horizon (suc year) late))

-- Of two answers without a cause, by their figures.
rising : {n n' low low' high high' : ℕ} → n ≡ 0 → n' ≡ 0 → low ≤ low' → high ≤ high' → Rises (answer_by n low high) (answer_by n' low' high')
rising {low = low} {low' = low'} {high = high} {high' = high'} e e' lows highs =
    subst₂ (λ a b. Rises (answer_by a low high) (answer_by b low' high')) (sym e) (sym e') (record { number = refl; low = lows; high = highs })

pub chances_rise : (s : Scheme) (class year : ℕ) → number_of (reached_answer s class (suc year)) ≡ 0 → Rises (reached_answer s class year) (reached_answer s class (suc year))
unfolding reached_answer
chances_rise s class year answered =
    let z = sym (answer_number (share_cause s class (suc year)) _ _) ∙ answered in
    let ok = accepted_cause s (of_share s class (suc year) z) in
    rising (year_before_lem s class year z) z (rise ok false) (rise ok true)
  where
    rise : Accepted s → (high : Bool) → reached_figure high (chain_of s) (class - 1) year (start_of s) ≤ reached_figure high (chain_of s) (class - 1) (suc year) (start_of s)
    rise ok high = never_falls (chain_of s) (accepted_sound s ok) (class - 1) high year (start_of s) (omega (arith, ok.start.positive, ok.start.within))
