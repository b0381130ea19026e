-- The call for a share sheet: what a cause of 0 tells of its slices, and what it leaves in each case.
-- Assumes nothing.
use Prim.Native.Nat.{ℕ}
use mathlib.Core.Path.{◌≡◌, refl, sym, ◌∙◌}
use mathlib.Core.List.{List}
use lib.ListN.{length}
use Rattle.scheme.specs.declared.Scheme.{Scheme}
use Rattle.scheme.specs.Cause.{slices_cause}
use Rattle.scheme.proofs.Laws.FirstCause.{first_none, second_none}
use Rattle.bounds_spec.specs.Causes.{sheet_lengths_cause, money_cause}
use Rattle.bounds_spec.specs.Answers.{sheet_cause, low_shares, high_shares}
use Rattle.bounds_spec.specs.Promises.{SheetPromise}
use Rattle.bounds_spec.proofs.Laws.Kept.{sheet_kept}
use Rattle.bounds.specs.Sheets.{WritePre}
use Rattle.bounds.proofs.StartBoundsLaws.{money_accepted}
use Rattle.bounds.proofs.SlicesLaws.{slices_ready, SlicesLeft, slices_declined, slices_written}

module _ (s : Scheme) (year : ℕ) (low high : List ℕ) {n : ℕ} (e : n ≡ sheet_lengths_cause s year (length low) (length high)) where
  -- The code's cause is the definition's.
  is : n ≡ sheet_cause s year low high
  unfolding sheet_cause
  is = e

  abbrev Left : ℕ → List ℕ → List ℕ → Type 0
  Left = SlicesLeft (SheetPromise s year) (sheet_cause s year low high) (low_shares s year) (high_shares s year) low high (sheet_kept s year low high)

  pub sheet_ready : n ≡ 0 → WritePre s s.classes low × WritePre s s.classes high
  sheet_ready z =
      slices_ready s.classes low high
      (money_accepted s year refl (first_none (money_cause s year) (slices_cause s.classes (length low) (length high)) (sym e ∙ z)))
      (second_none (money_cause s year) (slices_cause s.classes (length low) (length high)) (sym e ∙ z))

  pub sheet_declined : (n ≡ 0 → ⊥) → Left n low high
  sheet_declined = slices_declined (SheetPromise s year) (sheet_cause s year low high) (low_shares s year) (high_shares s year) low high (sheet_kept s year low high) is

  pub sheet_written : {low' high' : List ℕ} → n ≡ 0 → low' ≡ low_shares s year → high' ≡ high_shares s year → Left 0 low' high'
  sheet_written = slices_written (SheetPromise s year) (sheet_cause s year low high) (low_shares s year) (high_shares s year) low high (sheet_kept s year low high) is
