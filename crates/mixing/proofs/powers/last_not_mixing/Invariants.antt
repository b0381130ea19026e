-- `last_not_mixing` meets its contract: the count does not mix, and 2 to the power of k years more do.
use Rattle.std.proofs.Common.{◌≡◌, [], get_or}
use Rattle.mixing.specs.Matrices.{rows_of, size_of}
use Rattle.mixing.specs.Powers.{Halving}
use Rattle.mixing.proofs.powers.last_not_mixing.Given as goal

abbrev pub invariant-loop-k : goal.invariant-loop-k
invariant-loop-k l = (l.within.n ≡ size_of l.squares) × Halving (size_of l.squares) (get_or (rows_of l.squares) 0 []) l.levels l.k l.within.rows l.count
