-- `first_count` meets its contract: 1, none, or one more than the last count that does not mix.
use Rattle.std.proofs.Common.{ap, subst, arith, [], get_or}
use Rattle.mixing.specs.Matrices.{rows_of}
use Rattle.mixing.specs.Powers.{counted, LastPost}
use Rattle.mixing.specs.Laws.Powers.{first_at_once, first_never, first_after_last, counted_some}
use Rattle.mixing.proofs.MatrixLaws.{size_first}
use Rattle.mixing.proofs.powers.first_count.Goals as goal

pub returns-then-levels-eq0 : goal.returns-then-levels-eq0
returns-then-levels-eq0 c = counted_some (omega arith) (first_at_once c.store_squares-levels.ensures.rows (omega arith))

pub returns-then-levels-gt-LAST : goal.returns-then-levels-gt-LAST
returns-then-levels-gt-LAST c = ap counted (first_never c.store_squares-levels.ensures.rows (omega arith))

pub returns : goal.returns
returns c =
    let squared = c.store_squares-levels.ensures in
    let found = subst (λ n. LastPost n (get_or (rows_of c.store_squares-levels.new.squares) 0 []) c.last_not_mixing.result) (size_first squared.sizes) c.last_not_mixing.ensures in
    counted_some (omega arith) (omega (arith, first_after_last squared.rows found))
