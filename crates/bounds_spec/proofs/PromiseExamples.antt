-- What the promises forbid, on Example A (document 01, "Worthless versions"): each bound that is too wide, too tight, or of another class or year breaks its promise.
use Rattle.std.specs.Prelude.{ℕ, refl, [], ◌∷◌}
use Rattle.std.proofs.Common.{arith}
use Rattle.setchain.specs.Fractions.{whole, ◌≼◌, ◌≺◌}
use Rattle.setchain.specs.Rows.{ONE, SoundChain}
use Rattle.setchain.proofs.Theorems.{exact_proper}
use Rattle.setchain.specs.Promise.{cent_and_tenths}
use Rattle.setchain.proofs.Kept.{Pinned, pinned_no_further, pinned_nearer}
use Rattle.scheme.specs.Access.{premium_at}
use Rattle.scheme.specs.Rows.{chain_of}
use Rattle.scheme.proofs.Examples.{scheme_a, rows_a}
use Rattle.scheme.proofs.Laws.Judged.{accepted_cause}
use Rattle.scheme.proofs.Laws.Sound.{accepted_sound}
use Rattle.bounds_spec.specs.Answers.{Answered}
use Rattle.bounds_spec.specs.Promises.{ShareKept, MoneyKept, start_share, start_mean, start_total, SharePromise, MeanPromise, TotalPromise, SheetPromise, TableKept}
use Rattle.bounds_spec.specs.Table.{high_table}
use Rattle.bounds_spec.proofs.Examples.{document_examples}
use Rattle.bounds_spec.proofs.Laws.Kept.{share_kept, mean_kept, total_kept}

sound : SoundChain (chain_of scheme_a)
sound = accepted_sound scheme_a (accepted_cause scheme_a rows_a.accepted)

-- Example A's own figures keep their promises.
share_a_lem : ShareKept scheme_a 2 (start_share scheme_a 0) 920000000 990000000
share_a_lem = rw document_examples.year2_class1 at (share_kept scheme_a 1 2) refl

mean_a : MoneyKept scheme_a 2 (start_mean scheme_a) 10050 10400
mean_a = rw document_examples.year2_mean at (mean_kept scheme_a 2) refl

total_a : MoneyKept scheme_a 2 (start_total scheme_a) 25500 26000
total_a = rw document_examples.total at (total_kept scheme_a 2) refl

-- So what else keeps them is no further than 2 parts from these, and nearer than one cent plus 2 tenths.
share_pinned : {low high : ℕ} → ShareKept scheme_a 2 (start_share scheme_a 0) low high → Pinned ◌≼◌ (whole 2) 920000000 990000000 low high
share_pinned = pinned_no_further (λ ps picks. (exact_proper (chain_of scheme_a) sound (premium_at scheme_a) 0 2 ps picks 1 (omega arith)).0) share_a_lem

mean_pinned : {low high : ℕ} → MoneyKept scheme_a 2 (start_mean scheme_a) low high → Pinned ◌≺◌ (cent_and_tenths 2) 10050 10400 low high
mean_pinned = pinned_nearer (λ ps picks. (exact_proper (chain_of scheme_a) sound (premium_at scheme_a) 0 2 ps picks 1 (omega arith)).1) mean_a

total_pinned : {low high : ℕ} → MoneyKept scheme_a 2 (start_total scheme_a) low high → Pinned ◌≺◌ (cent_and_tenths 2) 25500 26000 low high
total_pinned = pinned_nearer (λ ps picks. (exact_proper (chain_of scheme_a) sound (premium_at scheme_a) 0 2 ps picks 1 (omega arith)).2) total_a

-- The share of class 1 and of class 2 after 2 years, the mean and the total: what may not be answered.
pub record Forbidden : Type 0 where
  -- "always 0 and ONE for a share", low and high each by itself: shut out by closeness.
  pub zero : SharePromise scheme_a 1 2 (Answered 0 990000000) → ⊥
  pub one : SharePromise scheme_a 1 2 (Answered 920000000 ONE) → ⊥
  -- 3 parts too wide, and 3 parts too tight.
  pub low_wide : SharePromise scheme_a 1 2 (Answered 919999997 990000000) → ⊥
  pub high_wide : SharePromise scheme_a 1 2 (Answered 920000000 990000003) → ⊥
  pub low_tight : SharePromise scheme_a 1 2 (Answered 920000003 990000000) → ⊥
  pub high_tight : SharePromise scheme_a 1 2 (Answered 920000000 989999997) → ⊥
  -- "year 1 worked, then repeated each year".
  pub repeated : SharePromise scheme_a 1 2 (Answered 800000000 900000000) → ⊥
  -- In a share sheet, the figures of class 2 at class 1.
  pub sheet : SheetPromise scheme_a 2 0 (10000000 ∷ 10000000 ∷ []) (80000000 ∷ 80000000 ∷ []) → ⊥
  -- The lowest and the highest premium for the mean, and twice each for the total.
  pub mean_low : MeanPromise scheme_a 2 (Answered 10000 10400) → ⊥
  pub mean_high : MeanPromise scheme_a 2 (Answered 10050 15000) → ⊥
  pub total_low : TotalPromise scheme_a 2 (Answered 20000 26000) → ⊥
  pub total_high : TotalPromise scheme_a 2 (Answered 25500 30000) → ⊥
  -- 2 cents too wide, and 2 cents too tight.
  pub mean_wide : (MeanPromise scheme_a 2 (Answered 10048 10400) → ⊥) × (MeanPromise scheme_a 2 (Answered 10050 10402) → ⊥)
  pub mean_tight : (MeanPromise scheme_a 2 (Answered 10052 10400) → ⊥) × (MeanPromise scheme_a 2 (Answered 10050 10398) → ⊥)
  pub total_wide : (TotalPromise scheme_a 2 (Answered 25498 26000) → ⊥) × (TotalPromise scheme_a 2 (Answered 25500 26002) → ⊥)
  pub total_tight : (TotalPromise scheme_a 2 (Answered 25502 26000) → ⊥) × (TotalPromise scheme_a 2 (Answered 25500 25998) → ⊥)

pub forbidden : Forbidden
forbidden =
    record {
      zero = λ h. omega (arith, (share_pinned (h refl)).low_below);
      one = λ h. omega (arith, (share_pinned (h refl)).high_above);
      low_wide = λ h. omega (arith, (share_pinned (h refl)).low_below);
      high_wide = λ h. omega (arith, (share_pinned (h refl)).high_above);
      low_tight = λ h. omega (arith, (share_pinned (h refl)).low_above);
      high_tight = λ h. omega (arith, (share_pinned (h refl)).high_below);
      repeated = λ h. omega (arith, (share_pinned (h refl)).low_below);
      sheet = λ h. omega (arith, (share_pinned (h refl 0 (omega arith))).low_below);
      mean_low = λ h. omega (arith, (mean_pinned (h refl)).low_below);
      mean_high = λ h. omega (arith, (mean_pinned (h refl)).high_above);
      total_low = λ h. omega (arith, (total_pinned (h refl)).low_below);
      total_high = λ h. omega (arith, (total_pinned (h refl)).high_above);
      mean_wide = (λ h. omega (arith, (mean_pinned (h refl)).low_below), λ h. omega (arith, (mean_pinned (h refl)).high_above));
      mean_tight = (λ h. omega (arith, (mean_pinned (h refl)).low_above), λ h. omega (arith, (mean_pinned (h refl)).high_below));
      total_wide = (λ h. omega (arith, (total_pinned (h refl)).low_below), λ h. omega (arith, (total_pinned (h refl)).high_above));
      total_tight = (λ h. omega (arith, (total_pinned (h refl)).low_above), λ h. omega (arith, (total_pinned (h refl)).high_below));
    }

-- Example A's table with one number of the low figures changed: a share of year 2, its mean by 2 cents, or the total by 2.
pub record ForbiddenTables : Type 0 where
  pub share : TableKept scheme_a (0 ∷ 1000000000 ∷ 15000 ∷ 800000000 ∷ 100000000 ∷ 10500 ∷ 0 ∷ 10000000 ∷ 10050 ∷ 25500 ∷ []) (high_table scheme_a) → ⊥
  pub mean : TableKept scheme_a (0 ∷ 1000000000 ∷ 15000 ∷ 800000000 ∷ 100000000 ∷ 10500 ∷ 920000000 ∷ 10000000 ∷ 10048 ∷ 25500 ∷ []) (high_table scheme_a) → ⊥
  pub total : TableKept scheme_a (0 ∷ 1000000000 ∷ 15000 ∷ 800000000 ∷ 100000000 ∷ 10500 ∷ 920000000 ∷ 10000000 ∷ 10050 ∷ 25498 ∷ []) (high_table scheme_a) → ⊥

pub forbidden_tables : ForbiddenTables
forbidden_tables =
    record {
      share = λ h. omega (arith, (share_pinned (h.shares 2 0 (omega arith) (omega arith))).low_below);
      mean = λ h. omega (arith, (mean_pinned (h.means 2 (omega arith))).low_below);
      total = λ h. omega (arith, (total_pinned h.total).low_below);
    }
