-- Document 01's examples that are marked (m), under one theorem; and Example A's share sheet and table, computed.
use Prim.Native.Nat.{ℕ, zero, suc, ◌*◌, ◌≤◌}
use Rattle.std.specs.Prelude.{◌≡◌, Bool, true, false, [], ◌∷◌}
use Rattle.std.proofs.Math.Path.{refl}
use Rattle.std.proofs.Common.{ap, ap₂, sym, ◌∙◌, subst, le_refl}
use native.Mathlib.Omega.{arith}
use Rattle.setchain.specs.Sums.{sum_to, only_if}
use Rattle.setchain.specs.Tests.{any_below}
use Rattle.setchain.specs.Rows.{ONE, IntervalRow, SoundRow, SetChain, SoundChain}
use Rattle.setchain.specs.Step.{capacity_before, fill_row, step_figure}
use Rattle.setchain.specs.Years.{years_figure, share_figure, tenths, total_tenths}
use Rattle.setchain.proofs.Examples.{StepExamples, step_examples}
use Rattle.setchain.proofs.ReachedTheorems.{stay_step}
use Rattle.scheme.specs.declared.Scheme.{Scheme}
use Rattle.scheme.specs.Tables.{tab}
use Rattle.scheme.specs.Accepted.{Accepted}
use Rattle.scheme.specs.Cause.{size_out, start_out, horizon_out, rule_out, band_out, sum_out, premium_out, cause_of, year_cause}
use Rattle.scheme.specs.Rows.{chain_of}
use Rattle.scheme.specs.Access.{premium_at}
use Rattle.scheme.proofs.Examples.{padded, scheme_a, single, RowsA, rows_a}
use Rattle.scheme.proofs.RowExamples.{RowAnswersA, row_answers_a}
use Rattle.scheme.proofs.Laws.FirstCause.{answered, second_cause}
use Rattle.scheme.proofs.Laws.Judged.{accepted_cause, cause_accepted}
use Rattle.scheme.proofs.Laws.Sound.{accepted_sound}
use Rattle.bounds_spec.specs.Answers.{Answered, Refused, start_of, share_answer, mean_answer, total_answer, figure_shares, low_shares, high_shares}
use Rattle.bounds_spec.specs.Table.{table_entry, figure_table, low_table, high_table}
use Rattle.bounds_spec.specs.Causes.{share_cause, money_cause}
use Rattle.bounds_spec.proofs.Laws.Answered.{no_year_cause, no_share_cause}

-- "Both classes 0→1, 1+→2; bands …, each lower = upper; premiums 10, 11".
abbrev pub fixed_bands : (first second : ℕ) → Scheme
fixed_bands first second =
    record {
      classes = 2;
      columns = 2;
      start = 1;
      horizon = 1;
      rules = padded 246 (1 ∷ 2 ∷ 0 ∷ 0 ∷ 0 ∷ 0 ∷ 0 ∷ 0 ∷ 1 ∷ 2 ∷ []);
      lowers = padded 6 (first ∷ second ∷ []);
      uppers = padded 6 (first ∷ second ∷ []);
      premiums = padded 30 (10 ∷ 11 ∷ []);
    }

-- "bands 333333333 and 666666667".
abbrev scheme_thirds : Scheme
scheme_thirds = fixed_bands 333333333 666666667

-- With one state the row cannot leave it, so a step changes nothing.
one_step : (high : Bool) (r : IntervalRow) → SoundRow 1 r → (f : ℕ → ℕ) → step_figure high 1 r f ≡ f 0
one_step high r sound f = stay_step high (le_refl 1) (record { sound = sound; itself = λ k l other. absurd (other (omega arith)) }) f

module _ (high : Bool) (c : SetChain) (sound : SoundChain c) (one : c.states ≡ 1) where
  only_step : (f : ℕ → ℕ) → step_figure high c.states (c.row 0) f ≡ f 0
  only_step f =
      subst (λ n. SoundRow n (c.row 0) → step_figure high n (c.row 0) f ≡ f 0) (sym one) (λ w. one_step high (c.row 0) w f) (sound 0 (omega arith))

  only_share : (t : ℕ) → share_figure high c 0 t 0 ≡ ONE
  unfolding years_figure only_if
  only_share zero = refl
  only_share (suc t) = omega (arith, only_step (share_figure high c 0 t), only_share t)

  only_total : (premium : ℕ → ℕ) (t : ℕ) → total_tenths high c premium t 0 ≡ t * tenths premium 0
  unfolding years_figure
  only_total premium zero = omega arith
  only_total premium (suc t) = omega (arith, only_step (total_tenths high c premium t), only_total premium t)

-- 100 years of the largest premium: 10,000,000,000 tenths, which is the payoff limit of the one-year step (document 02, item 6).
abbrev dearest : Scheme
dearest = single 1 0 1000000000 10000000

pub largest_total : (high : Bool) → total_tenths high (chain_of dearest) (premium_at dearest) 100 0 ≡ 10000000000
unfolding cause_of size_out start_out horizon_out rule_out band_out sum_out premium_out any_below sum_to
largest_total high = only_total high (chain_of dearest) (accepted_sound dearest (accepted_cause dearest refl)) refl (premium_at dearest) 100

one_class : (s : Scheme) → Accepted s → s.classes ≡ 1 → (t : ℕ) → t ≤ s.horizon → share_answer s 1 t ≡ Answered ONE ONE
unfolding share_answer
one_class s ok one t h =
    answered (share_cause s 1 t) _ _ (no_share_cause s ok 1 t (le_refl 1) ok.size.some_class h)
    ∙ ap₂ Answered (whole false) (whole true)
  where
    first : start_of s ≡ 0
    first = omega (arith, ok.start.within, one)

    whole : (high : Bool) → share_figure high (chain_of s) 0 t (start_of s) ≡ ONE
    whole high = ap (share_figure high (chain_of s) 0 t) first ∙ only_share high (chain_of s) (accepted_sound s ok) one t

horizon_zero_lem : (s : Scheme) → Accepted s → s.horizon ≡ 0 → total_answer s 0 ≡ Answered 0 0
unfolding total_answer years_figure
horizon_zero_lem s ok none =
    answered (money_cause s 0) (Answered 0 0) (Refused (money_cause s 0))
    (second_cause (cause_of s) (year_cause s 0) (cause_accepted s ok) ∙ no_year_cause s 0 (omega arith))

-- The examples of document 01, "Sheet program and examples", that are marked (m).
pub record DocumentExamples : Type 0 where
  -- "A, class 1 row … Class 2".
  pub rows : RowsA
  -- "A, year 1 and year 2 shares".
  pub year1_class1 : share_answer scheme_a 1 1 ≡ Answered 800000000 900000000
  pub year1_class2 : share_answer scheme_a 2 1 ≡ Answered 100000000 200000000
  pub year2_class1 : share_answer scheme_a 1 2 ≡ Answered 920000000 990000000
  pub year2_class2 : share_answer scheme_a 2 2 ≡ Answered 10000000 80000000
  -- "A, year 2 mean"; "A, total".
  pub year2_mean : mean_answer scheme_a 2 ≡ Answered 10050 10400
  pub total : total_answer scheme_a 2 ≡ Answered 25500 26000
  -- "payoff 30 10 20: low 15, high 23 … Lower all 0: low 14, high 24".
  pub steps : StepExamples
  -- "One class: share ONE in each year."
  pub one_class : (s : Scheme) → Accepted s → s.classes ≡ 1 → (t : ℕ) → t ≤ s.horizon → share_answer s 1 t ≡ Answered ONE ONE
  -- "Horizon 0: total 0 and 0."
  pub horizon_zero : (s : Scheme) → Accepted s → s.horizon ≡ 0 → total_answer s 0 ≡ Answered 0 0
  -- "year 1 mean 10 to 11".
  pub thirds : mean_answer scheme_thirds 1 ≡ Answered 10 11

pub document_examples : DocumentExamples
unfolding share_answer mean_answer total_answer cause_of size_out start_out horizon_out rule_out band_out sum_out premium_out any_below years_figure step_figure fill_row capacity_before sum_to only_if
document_examples =
    record {
      rows = rows_a;
      year1_class1 = refl;
      year1_class2 = refl;
      year2_class1 = refl;
      year2_class2 = refl;
      year2_mean = refl;
      total = refl;
      steps = step_examples;
      one_class = one_class;
      horizon_zero = horizon_zero_lem;
      thirds = refl;
    }

-- Beside document 01's interval rows, the rows that are answered for Example A: its tight rows (document 02, item 2).
pub tight_rows_a : RowAnswersA
tight_rows_a = row_answers_a

-- Example A's share sheet of year 1, and all figures of its sheet: "YEAR 0 …" to "TOTAL 25500 26000".
pub record SheetsA : Type 0 where
  pub low_shares1 : low_shares scheme_a 1 ≡ 800000000 ∷ 100000000 ∷ []
  pub high_shares1 : high_shares scheme_a 1 ≡ 900000000 ∷ 200000000 ∷ []
  pub lows : low_table scheme_a ≡ 0 ∷ 1000000000 ∷ 15000 ∷ 800000000 ∷ 100000000 ∷ 10500 ∷ 920000000 ∷ 10000000 ∷ 10050 ∷ 25500 ∷ []
  pub highs : high_table scheme_a ≡ 0 ∷ 1000000000 ∷ 15000 ∷ 900000000 ∷ 200000000 ∷ 11000 ∷ 990000000 ∷ 80000000 ∷ 10400 ∷ 26000 ∷ []

pub sheets_a : SheetsA
unfolding figure_shares figure_table table_entry tab years_figure step_figure fill_row capacity_before sum_to only_if
sheets_a = record { low_shares1 = refl; high_shares1 = refl; lows = refl; highs = refl }
