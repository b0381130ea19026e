-- `check` meets its contract: the frame's cause, or the scheme's.
use Rattle.std.proofs.Common.{sym}
use Rattle.record_spec.proofs.Laws.Frame.{frame_clear}
use Rattle.record.proofs.check.Goals as goal

pub parsed-requires : goal.parsed-requires
parsed-requires c = frame_clear _ (sym c.in_ok-check_frame.ensures)
