-- The call for all figures: what a cause of 0 tells of its slices, and what it leaves in each case.
-- Assumes nothing.
use Prim.Native.Nat.{ℕ}
use mathlib.Core.Path.{◌≡◌, sym, ◌∙◌}
use mathlib.Core.List.{List}
use lib.ListN.{length}
use Rattle.scheme.specs.declared.Scheme.{Scheme}
use Rattle.scheme.specs.Cause.{cause_of, slices_cause}
use Rattle.scheme.proofs.Laws.FirstCause.{first_none, second_none}
use Rattle.scheme.proofs.Laws.Judged.{accepted_cause}
use Rattle.bounds_spec.specs.Causes.{table_lengths_cause, table_size}
use Rattle.bounds_spec.specs.Table.{low_table, high_table, table_cause}
use Rattle.bounds_spec.specs.Promises.{FiguresPromise}
use Rattle.bounds_spec.proofs.Laws.Kept.{figures_kept}
use Rattle.bounds.specs.Sheets.{WritePre}
use Rattle.bounds.proofs.SlicesLaws.{slices_ready, SlicesLeft, slices_declined, slices_written}

module _ (s : Scheme) (low high : List ℕ) {n : ℕ} (e : n ≡ table_lengths_cause s (length low) (length high)) where
  -- The code's cause is the definition's.
  is : n ≡ table_cause s low high
  unfolding table_cause
  is = e

  abbrev Left : ℕ → List ℕ → List ℕ → Type 0
  Left = SlicesLeft (FiguresPromise s) (table_cause s low high) (low_table s) (high_table s) low high (figures_kept s low high)

  pub figures_ready : n ≡ 0 → WritePre s (table_size s) low × WritePre s (table_size s) high
  figures_ready z =
      slices_ready (table_size s) low high
      (accepted_cause s (first_none (cause_of s) (slices_cause (table_size s) (length low) (length high)) (sym e ∙ z)))
      (second_none (cause_of s) (slices_cause (table_size s) (length low) (length high)) (sym e ∙ z))

  pub figures_declined : (n ≡ 0 → ⊥) → Left n low high
  figures_declined = slices_declined (FiguresPromise s) (table_cause s low high) (low_table s) (high_table s) low high (figures_kept s low high) is

  pub figures_written : {low' high' : List ℕ} → n ≡ 0 → low' ≡ low_table s → high' ≡ high_table s → Left 0 low' high'
  figures_written = slices_written (FiguresPromise s) (table_cause s low high) (low_table s) (high_table s) low high (figures_kept s low high) is
