-- `ends` meets its contract: column by column its value, and in the last what the other kind's values leave.
-- Assumes nothing.
use Prim.Native.Nat.{◌+◌, ◌-◌, ◌≤◌}
use mathlib.Core.Path.{◌≡◌}
use mathlib.Core.Bool.{not}
use native.Mathlib.Omega.{arith}
use Rattle.setchain.specs.Rows.{ONE}
use Rattle.poisson_spec.specs.Laws.Values.{value_most}
use Rattle.poisson.proofs.ValuesLaws.{run_start, sum_most, run_more, run_end}
use Rattle.poisson.proofs.values.ends.Goals as goal

pub overflow_cast-out : goal.overflow_cast-out
overflow_cast-out c =
    let most : c.start.result ≤ ONE = rw c.start.ensures (value_most c.args.free c.requires.1 c.args.high 0) in
    omega arith

pub loop-k-init : goal.loop-k-init
loop-k-init c = run_start c.requires.2 c.start.ensures c.start-own.ensures c.start-other.ensures

pub overflow_cast-out-in-loop-k : goal.overflow_cast-out-in-loop-k
overflow_cast-out-in-loop-k c =
    let most : c.next-own.result ≤ ONE = rw c.next-own.ensures (value_most c.args.claimed c.requires.0 c.args.high _) in
    omega arith

pub overflow_add-sum : goal.overflow_add-sum
overflow_add-sum c =
    let most : c.next-other.result ≤ ONE = rw c.next-other.ensures (value_most c.args.claimed c.requires.0 (not c.args.high) _) in
    omega (arith, sum_most c.loop-k.invariant c.requires.3 c.requires.0)

pub loop-k-preserved : goal.loop-k-preserved
loop-k-preserved c = run_more c.loop-k.invariant c.requires.3 (omega arith) c.next-own.ensures c.next-other.ensures

pub returns : goal.returns
returns c =
    let last : c.args.columns - 1 ≡ c.loop-k.k + 1 = omega (arith, c.loop-k.invariant.inside) in
    rw last (run_end c.loop-k.invariant c.requires.3 (omega arith) c.rest.ensures)
