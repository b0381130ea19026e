-- Narrower bands move the row that is answered inward (document 02, items 1 and 2): lower ends no smaller, upper ends no larger.
use Rattle.std.specs.Prelude.{ℕ, ◌-◌, ◌≤◌, ◌<◌, ◌≡◌, refl, true, false}
use Rattle.std.proofs.Common.{sym, subst, arith, le_refl}
use Rattle.setchain.specs.Sums.{at}
use Rattle.setchain.specs.Rows.{IntervalRow, SoundRow, Covers}
use Rattle.setchain.specs.Tight.{tight_row}
use Rattle.setchain.proofs.Tightened.{tight_inward}
use Rattle.scheme.specs.declared.Scheme.{Scheme}
use Rattle.scheme.specs.Accepted.{Accepted}
use Rattle.scheme.specs.Cause.{cause_of, class_cause}
use Rattle.scheme.specs.Rows.{chain_of}
use Rattle.scheme.specs.RowAnswer.{row_cause, row_answered, row_at, row_answer}
use Rattle.scheme.specs.Values.{Trimmed}
use Rattle.scheme.proofs.Laws.FirstCause.{second_none, cause_related}
use Rattle.scheme.proofs.Laws.Cause.{class_fits}
use Rattle.scheme.proofs.Laws.RowAnswer.{entry_related}
use Rattle.scheme.proofs.Laws.Sound.{accepted_sound}
use Rattle.scheme.proofs.Laws.Tab.{tab_related}
use Rattle.scheme.proofs.Laws.Trimmed.{trimmed_covers, trimmed_cause}
use Rattle.scheme.proofs.Laws.Values.{next_same, class_same}
pub use Rattle.scheme.specs.Inward.{RowInward}

-- Of two rows over n classes.
answered_inward : (n : ℕ) (wide narrow : IntervalRow) → SoundRow n wide → SoundRow n narrow → Covers n wide narrow
    → RowInward (row_answered n (tight_row n wide)) (row_answered n (tight_row n narrow))
unfolding row_answered
answered_inward n wide narrow soundWide soundNarrow covers =
    record { number = refl; lower = λ j. omega (arith, lowers j); upper = λ j. omega (arith, uppers j) }
  where
    lowers : (j : ℕ) → at (row_answered n (tight_row n wide)).lower j ≤ at (row_answered n (tight_row n narrow)).lower j
    lowers = tab_related ◌≤◌ (le_refl 0) refl _ _ (λ j l. entry_related ◌≤◌ (le_refl 0) n _ _ (tight_inward false soundWide soundNarrow covers) j)

    uppers : (j : ℕ) → at (row_answered n (tight_row n narrow)).upper j ≤ at (row_answered n (tight_row n wide)).upper j
    uppers = tab_related ◌≤◌ (le_refl 0) refl _ _ (λ j l. entry_related ◌≤◌ (le_refl 0) n _ _ (tight_inward true soundWide soundNarrow covers) j)

module _ {wide narrow : Scheme} (okWide : Accepted wide) (okNarrow : Accepted narrow) (trimmed : Trimmed wide narrow) (class : ℕ) where
  cause : row_cause wide class ≡ row_cause narrow class
  cause = next_same (trimmed_cause trimmed okWide okNarrow) (λ v. class_same v class)

  pub row_inward : RowInward (row_answer wide class) (row_answer narrow class)
  row_inward = cause_related RowInward cause inward (record { number = cause; lower = λ j. le_refl _; upper = λ j. le_refl _ })
    where
      inward : row_cause wide class ≡ 0 → RowInward (row_at wide (class - 1)) (row_at narrow (class - 1))
      inward z =
          let fits = class_fits wide.classes class (second_none (cause_of wide) (class_cause wide class) z) in
          let i : class - 1 < wide.classes = omega arith in
          let same = trimmed.others.classes in
          subst (λ n. RowInward (row_at wide (class - 1)) (row_answered n (tight_row n ((chain_of narrow).row (class - 1))))) same
          (answered_inward wide.classes ((chain_of wide).row (class - 1)) ((chain_of narrow).row (class - 1)) (accepted_sound wide okWide (class - 1) i)
          (subst (λ n. SoundRow n ((chain_of narrow).row (class - 1))) (sym same) (accepted_sound narrow okNarrow (class - 1) (omega arith)))
          ((trimmed_covers trimmed).rows (class - 1) i))
