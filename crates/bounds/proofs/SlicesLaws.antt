-- Two lent slices, filled where there is no cause: what a cause of 0 tells of them, and what a call leaves in each case.
-- Assumes nothing.
use Prim.Native.Nat.{ℕ}
use mathlib.Core.Path.{◌≡◌, sym, ◌∙◌, subst, subst₂}
use mathlib.Core.List.{List}
use lib.ListN.{length}
use Rattle.scheme.specs.declared.Scheme.{Scheme}
use Rattle.scheme.specs.Cause.{slices_cause}
use Rattle.scheme.specs.Accepted.{Accepted}
use Rattle.scheme.proofs.Laws.FirstCause.{declined}
use Rattle.scheme.proofs.Laws.Cause.{slices_fit}
use Rattle.bounds_spec.specs.Answers.{sheet_slice}
use Rattle.bounds.specs.Sheets.{WritePre}

-- Two slices without a cause are of the wanted size.
pub slices_ready : {s : Scheme} (size : ℕ) (low high : List ℕ) → Accepted s → slices_cause size (length low) (length high) ≡ 0
    → WritePre s size low × WritePre s size high
slices_ready size low high ok z =
    let fits = slices_fit size (length low) (length high) z in
    (record { accepted = ok; size = fits.0 }, record { accepted = ok; size = fits.1 })

-- A call with a promise, whose cause is 0 where it fills the slices `low` and `high` with `lows` and `highs`.
module _ (Promise : ℕ → List ℕ → List ℕ → Type 0) (cause : ℕ) (lows highs low high : List ℕ)
    (kept : Promise cause (sheet_slice cause lows low) (sheet_slice cause highs high)) where
  -- What it ensures of its number and of the slices that it leaves.
  abbrev pub SlicesLeft : ℕ → List ℕ → List ℕ → Type 0
  SlicesLeft n low' high' = (n ≡ cause) × ((low' ≡ sheet_slice n lows low) × ((high' ≡ sheet_slice n highs high) × Promise n low' high'))

  -- The promise follows from the rest.
  slices_left : {n : ℕ} {low' high' : List ℕ} → n ≡ cause → low' ≡ sheet_slice n lows low → high' ≡ sheet_slice n highs high → SlicesLeft n low' high'
  slices_left {n} e p q =
      (e, (p, (q, subst₂ (Promise n) (sym p) (sym q) (subst (λ m. Promise m (sheet_slice m lows low) (sheet_slice m highs high)) (sym e) kept))))

  pub slices_declined : {n : ℕ} → n ≡ cause → (n ≡ 0 → ⊥) → SlicesLeft n low high
  slices_declined {n} e h = slices_left e (sym (declined n lows low h)) (sym (declined n highs high h))

  pub slices_written : {n : ℕ} {low' high' : List ℕ} → n ≡ cause → n ≡ 0 → low' ≡ lows → high' ≡ highs → SlicesLeft 0 low' high'
  slices_written e z p q = slices_left (sym z ∙ e) p q
