-- `ready::tenths` meets its contract: each table is its scale of specs/, entry by entry.
-- Assumes nothing.
use Rattle.std.proofs.Common.{arith}
use Rattle.ready_spec.specs.Scales.{scale1, scale2, scale3}
use Rattle.ready_spec.proofs.Laws.{chosen_first, chosen_second, chosen_third}
use Rattle.ready.proofs.tenths.Goals as goal

pub returns-in-1 : goal.returns-in-1
unfolding scale1
returns-in-1 c = rw (chosen_first _ scale1 scale2 scale3 c.in-1.is) c.from.ensures

pub returns-in-2 : goal.returns-in-2
unfolding scale2
returns-in-2 c = rw (chosen_second c.args.number scale1 scale2 scale3 (λ e. omega (arith, e, c.in-2.is)) c.in-2.is) c.from-in-2.ensures

pub returns-in_default : goal.returns-in_default
unfolding scale3
returns-in_default c = rw (chosen_third c.args.number scale1 scale2 scale3 (λ e. omega (arith, e)) (λ e. omega (arith, e))) c.from-in_default.ensures
