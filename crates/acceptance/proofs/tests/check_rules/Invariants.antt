-- `check_rules` meets its contract: no class before i has a rule outside 1 to s.
use Rattle.std.proofs.Common.{◌≡◌, ◌+◌, ◌*◌, false, get_or}
use Rattle.setchain.specs.Tests.{any_below}
use Rattle.scheme.specs.Access.{CELL_STRIDE}
use Rattle.scheme.specs.Cause.{outside}
use Rattle.acceptance.proofs.tests.check_rules.Given as goal

abbrev pub invariant-loop-i : goal.invariant-loop-i
invariant-loop-i l = any_below l.i (λ a. any_below l.columns (λ k. outside l.classes (get_or l.rules (a * CELL_STRIDE + k) 0))) ≡ false
