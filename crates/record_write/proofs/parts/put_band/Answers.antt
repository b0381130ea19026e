-- `parts::put_band` meets its contract.
use mathlib.Core.Path.{◌∙◌}
use native.Mathlib.Omega.{arith}
use Rattle.record_write.specs.Laws.Numbers.{put_band}
use Rattle.record_write.proofs.parts.put_band.Goals as goal

pub returns : goal.returns
returns c =
    let start = c.args in
    c.put_number-2.ensures
    ∙ rw c.put_number.ensures (put_band start.out.now start.at start.lower start.upper (omega arith))
