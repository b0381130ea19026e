-- `mixing` meets its contract: the cause of reading, or the count put into its buffer.
-- Assumes nothing.
use Rattle.std.proofs.Common.{refl}
use Rattle.scheme.proofs.Laws.Number.{cause_some, passed_on}
use Rattle.joguyvi_rows.proofs.LibLaws.{mixing_stopped, mixing_passed}
use Rattle.joguyvi_rows.proofs.row_buffers.mixing.Goals as goal

pub returns-in_err-read : goal.returns-in_err-read
returns-in_err-read c =
    rw (passed_on _ _ c.from_residual.ensures) (mixing_stopped c.args.bytes.now c.args.count.now c.in_err-read.ensures (cause_some _))

pub returns : goal.returns
returns c = mixing_passed c.args.bytes.now c.args.count.now c.in_ok-read.ensures refl c.mixing.ensures c.put_count.ensures
