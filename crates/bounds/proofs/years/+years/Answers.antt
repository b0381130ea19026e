-- The figures of t years: those of the year before, and one year more, by the high step or the low one; of no years the payoff.
-- Assumes nothing.
use Rattle.std.proofs.Common.{arith}
use Rattle.bounds.specs.Joined.{joined}
use Rattle.bounds.specs.Years.{YearsPost}
use Rattle.bounds.proofs.YearsLaws.{years_none, years_more, years_stored, years_step}
use Rattle.bounds.proofs.years.+years.Goals as goal
use Rattle.bounds.proofs.years.+years.Goals.{then-t-ne0+then-high, then-t-ne0+else-high, else-t-ne0}

pub advance-requires : goal.advance-requires
advance-requires t c = years_step c.requires _ (omega arith) c.years.ensures

pub advance-requires-else-high : goal.advance-requires-else-high
advance-requires-else-high t c = years_step c.requires _ (omega arith) c.years.ensures

-- Where the ways meet the figures are those of t years.
pub returns : goal.returns
returns t c =
    let a = c.args in
    let pre = c.requires in
    let met : YearsPost (joined a.entries.now) a.gain.now a.figures.now a.high a.t a.state a.stride a.t c.if-t-ne0.order c.if-t-ne0.figures a.out.now c.if-t-ne0.out =
    elim c.if-t-ne0.branch [
      | then-t-ne0+then-high w ↦
          rw (w.order-is, w.figures-is, w.out-is) (years_more pre _ (omega arith) w.years.ensures (omega arith) w.if-high.true w.advance.ensures.figures w.advance.ensures.order)
      | then-t-ne0+else-high w ↦
          rw (w.order-is, w.figures-is, w.out-is) (years_more pre _ (omega arith) w.years.ensures (omega arith) w.if-high.false w.advance-else-high.ensures.figures w.advance-else-high.ensures.order)
      | else-t-ne0 w ↦ rw (w.order-is, w.figures-is, w.out-is) (years_none pre w.if-t-ne0.false)
    ] in
    rw c.store_figure.ensures (years_stored pre met)
