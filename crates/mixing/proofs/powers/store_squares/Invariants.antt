-- `store_squares` meets its contract: k counts do not mix, and the matrices of k + 1 are stored.
use Rattle.std.proofs.Common.{[], get_or}
use Rattle.mixing.specs.Matrices.{rows_of, size_of, SameSize}
use Rattle.mixing.specs.Powers.{Squaring}
use Rattle.mixing.proofs.powers.store_squares.Given as goal

abbrev pub invariant-loop-k : goal.invariant-loop-k
invariant-loop-k l =
    (SameSize (size_of l.initial.squares) l.squares) × Squaring (size_of l.initial.squares) (get_or (rows_of l.initial.squares) 0 []) l.k (rows_of l.squares)
