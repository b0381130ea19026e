-- `parts::bands` meets its contract: the bands passed stand at the head of the loop.
use mathlib.Core.Path.{◌∙◌}
use Rattle.record_spec.specs.Layout.{BAND_WIDTH}
use Rattle.record_write.specs.Laws.Lists.{join_none, join_more}
use Rattle.record_write.specs.Laws.Numbers.{length_band}
use Rattle.record_write.proofs.parts.bands.Goals as goal

pub loop-k-init : goal.loop-k-init
loop-k-init c = join_none _ _ _

pub loop-k-preserved : goal.loop-k-preserved
loop-k-preserved c =
    let start = c.args in
    let turn = c.loop-k in
    c.put_band.ensures ∙ rw turn.invariant (join_more BAND_WIDTH _ start.out.now start.from turn.k (λ j lt. length_band _ _))
