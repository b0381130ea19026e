-- `tighten` meets its contract: after j turns the first j entries are tight, and the others as they were.
use Rattle.std.proofs.Common.{min, max, ap, ◌∙◌, arith}
use Rattle.rows.specs.Laws.Tight.{tight_more, tight_all}
use Rattle.rows.proofs.tight.tighten.Goals as goal

pub loop-j-preserved : goal.loop-j-preserved
loop-j-preserved c =
    tight_more c.requires.sizes (omega (arith, c.loop-j.invariant.lowers.filled.long)) c.loop-j.invariant
    c.total-lower_sum.ensures c.total-upper_sum.ensures
    (c.max.ensures ∙ ap (max _) c.left_by_others.ensures)
    (c.min.ensures ∙ ap (min _) c.left_by_others-in-loop-j.ensures)

pub returns : goal.returns
returns c = tight_all c.requires.sizes (omega (arith, c.loop-j.invariant.lowers.filled.long)) c.loop-j.invariant
