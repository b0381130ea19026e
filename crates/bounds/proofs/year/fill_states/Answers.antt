-- `fill_states` fills the states in turn, along the order.
-- Assumes nothing.
use native.Mathlib.Omega.{arith}
use Rattle.std.proofs.Common.{rules}
use Rattle.bounds.proofs.JoinedLaws.{fills_counted, filled_counted}
use Rattle.bounds.proofs.YearLaws.{states_none, places, state_read, state_fills, states_more, states_all}
use Rattle.bounds.proofs.year.fill_states.Goals as goal

pub loop-k-init : goal.loop-k-init
loop-k-init c = states_none c.requires

pub fill_state-requires : goal.fill_state-requires
fill_state-requires c =
    let a = c.args in
    fills_counted a.entries.now (search rules) (search rules) (search rules) c.state-j.result
    (state_fills c.requires c.loop-k.invariant (omega (arith, places a.high a.order.now c.requires))
    (state_read a.high a.order.now c.requires (omega arith) c.class_at.ensures c.state-j.ensures))

pub loop-k-preserved : goal.loop-k-preserved
loop-k-preserved c =
    let a = c.args in
    states_more c.requires c.loop-k.invariant (omega (arith, places a.high a.order.now c.requires))
    (state_read a.high a.order.now c.requires (omega arith) c.class_at.ensures c.state-j.ensures)
    (filled_counted a.entries.now (search rules) (search rules) (search rules) c.state-j.result c.fill_state.ensures)

pub returns : goal.returns
returns c = let a = c.args in states_all c.requires (omega (arith, places a.high a.order.now c.requires)) c.loop-k.invariant
