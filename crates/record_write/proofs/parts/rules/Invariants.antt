-- `parts::rules` meets its contract: the rows of the classes passed stand at the head of the loop.
use mathlib.Core.Path.{◌≡◌}
use lib.Seq.{sets}
use Rattle.scheme.specs.Access.{rule_at}
use Rattle.scheme.specs.Tables.{tab}
use Rattle.record_spec.specs.Joined.{joined}
use Rattle.record_write.proofs.parts.rules.Given as goal

abbrev pub invariant-loop-i : goal.invariant-loop-i
invariant-loop-i l = l.out ≡ sets l.initial.out l.from (joined l.i (λ j. tab l.m (rule_at l.scheme j)))
