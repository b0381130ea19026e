-- `premium_width` meets its contract.
use mathlib.Core.Path.{ap, sym}
use native.Mathlib.Omega.{arith}
use Rattle.record_spec.proofs.Laws.Layout.{first_layout, second_layout}
use Rattle.record.proofs.premium_width.Goals as goal

pub returns-in-2 : goal.returns-in-2
returns-in-2 c = sym (ap (λ y. y.width) (second_layout c.in-2.is))

pub returns-in_default : goal.returns-in_default
returns-in_default c = sym (ap (λ y. y.width) (first_layout (λ e. omega (arith, e))))
