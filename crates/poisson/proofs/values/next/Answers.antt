-- `next` meets its contract: rounded outward, no value is above ONE.
-- Assumes nothing.
use mathlib.Core.Path.{ap, sym, ◌∙◌}
use Prim.Native.Nat.{◌+◌, ◌*◌, ◌≤◌}
use native.Mathlib.Omega.{arith}
use native.Mathlib.Numerals.{add-one}
use native.Mathlib.Nat.{mul-le-mul}
use Rattle.setchain.specs.Rows.{ONE}
use Rattle.setchain.specs.Rounding.{rounded}
use Rattle.poisson_spec.specs.Laws.Values.{value_most, value_next}
use Rattle.poisson.proofs.values.next.Goals as goal

pub overflow_mul-before : goal.overflow_mul-before
overflow_mul-before c =
    let most : c.args.before ≤ ONE = rw c.requires.2 (value_most c.args.f c.requires.0 c.args.high c.args.k) in
    let product : c.args.before * c.args.f ≤ 1000000000000 = mul-le-mul most c.requires.0 in
    omega arith

pub returns : goal.returns
returns c =
    let product = ap (λ x. rounded c.args.high (1000 * (c.args.k + 1)) (x * c.args.f)) c.requires.2 in
    c.round.ensures ∙ product ∙ rw add-one (sym (value_next c.args.f c.requires.0 c.args.high c.args.k))
