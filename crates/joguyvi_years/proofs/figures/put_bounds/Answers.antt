-- `put_bounds` meets its contract: the answer's cause, the buffer's, or low and high.
-- Assumes nothing.
use Rattle.std.proofs.Common.{refl, sym}
use Rattle.scheme.proofs.Laws.Cause.{slice_fits}
use Rattle.scheme.proofs.Laws.Number.{cause_some, passed_on}
use Rattle.bounds_spec.specs.Answers.{bounds_answer_of}
use Rattle.joguyvi_years.proofs.FiguresLaws.{bounds_refused, bounds_slice, bounds_put}
use Rattle.joguyvi_years.proofs.figures.put_bounds.Goals as goal

pub returns-in_err-bounds : goal.returns-in_err-bounds
returns-in_err-bounds c = rw (c.in_err-bounds.was, passed_on _ _ c.from_residual.ensures) (bounds_refused _ _ refl (cause_some _))

pub returns-in_err-check_slice : goal.returns-in_err-check_slice
returns-in_err-check_slice c =
    rw (c.in_ok-bounds.was, passed_on _ _ c.from_residual-in_err-check_slice.ensures) (bounds_slice _ _ refl refl c.in_err-check_slice.ensures (cause_some _))

pub returns : goal.returns
returns c = rw c.in_ok-bounds.was (bounds_put _ _ refl refl (slice_fits 2 _ (sym c.in_ok-check_slice.ensures)) refl refl)
