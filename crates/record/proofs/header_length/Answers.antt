-- `header_length` meets its contract.
use mathlib.Core.Path.{ap, sym}
use native.Mathlib.Omega.{arith}
use Rattle.record_spec.specs.Layout.{header_length}
use Rattle.record_spec.proofs.Laws.Layout.{first_layout, second_layout}
use Rattle.record.proofs.header_length.Goals as goal

pub returns-in-2 : goal.returns-in-2
returns-in-2 c = sym (ap header_length (second_layout c.in-2.is))

pub returns-in_default : goal.returns-in_default
returns-in_default c = sym (ap header_length (first_layout (λ e. omega (arith, e))))
