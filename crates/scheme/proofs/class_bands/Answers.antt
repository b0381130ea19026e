-- `class_bands` meets its contract: the front of the list, or all of it where it is shorter.
use mathlib.Core.Path.{refl, sym}
use native.Mathlib.Omega.{arith}
use lib.Seq.{take_all}
use Rattle.scheme.specs.Access.{class_bands}
use Rattle.scheme.proofs.class_bands.Goals as goal

pub returns-then-ends-cells : goal.returns-then-ends-cells
unfolding class_bands
returns-then-ends-cells c = let start = c.args in sym (take_all start.cells start.ends.now (omega arith))

pub returns : goal.returns
unfolding class_bands
returns c = refl
