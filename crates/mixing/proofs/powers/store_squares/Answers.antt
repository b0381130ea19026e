-- `store_squares` meets its contract: k counts do not mix, and the matrices of k + 1 are stored.
use Rattle.std.proofs.Common.{◌≡◌, refl, sym, subst, ◌∙◌, arith, [], get_or, ◌+◌}
use Rattle.std.proofs.lemmas.List.{map-set}
use Rattle.mixing.specs.Matrices.{rows_of, size_of}
use Rattle.mixing.specs.Powers.{Squaring}
use Rattle.mixing.specs.Laws.Powers.{squaring_none, squaring_stops, squaring_more, squaring_ends}
use Rattle.mixing.proofs.MatrixLaws.{size_at, full_at, square_at, sized_set}
use Rattle.mixing.proofs.powers.store_squares.Goals as goal

pub loop-k-init : goal.loop-k-init
loop-k-init c = (c.requires.0, squaring_none c.requires.1)

pub returns-then-is_full-clause-rows : goal.returns-then-is_full-clause-rows
returns-then-is_full-clause-rows c =
    let w = c.loop-k.invariant in
    squaring_stops w.1 refl (full_at w.0 (omega arith) c.index-squares-k.result c.is_full.ensures) c.if-is_full.true

pub loop-k-preserved : goal.loop-k-preserved
loop-k-preserved c =
    let w = c.loop-k.invariant in
    let power = c.index-squares-k.result in
    let squared = c.product.result in
    let stored = squaring_more w.1 refl (full_at w.0 (omega arith) power c.is_full.ensures) c.if-is_full.false (omega arith)
    (square_at w.0 (omega arith) power c.product.ensures.rows) in (
      sized_set w.0 (omega arith) squared (c.product.ensures.n ∙ size_at w.0 (omega arith) power),
      subst (Squaring (size_of c.args.squares.now) (get_or (rows_of c.args.squares.now) 0 []) (c.loop-k.k + 1))
          (sym (map-set (λ m. m.rows) c.loop-k.squares (c.loop-k.k + 1) squared)) stored,
    )

pub returns-then-is_full-2-clause-rows : goal.returns-then-is_full-2-clause-rows
returns-then-is_full-2-clause-rows c =
    let w = c.loop-k.invariant in
    let last : c.loop-k.k ≡ 10 = omega (arith, w.1.few) in
    squaring_stops (subst (λ k. Squaring (size_of c.args.squares.now) (get_or (rows_of c.args.squares.now) 0 []) k (rows_of c.loop-k.squares)) last w.1) refl
    (full_at w.0 (omega arith) c.index-squares-10.result c.is_full-2.ensures) c.if-is_full-2.true

pub returns-else-is_full-2-clause-rows : goal.returns-else-is_full-2-clause-rows
returns-else-is_full-2-clause-rows c =
    let w = c.loop-k.invariant in
    let last : c.loop-k.k ≡ 10 = omega (arith, w.1.few) in
    squaring_ends (subst (λ k. Squaring (size_of c.args.squares.now) (get_or (rows_of c.args.squares.now) 0 []) k (rows_of c.loop-k.squares)) last w.1) refl
    (full_at w.0 (omega arith) c.index-squares-10.result c.is_full-2.ensures) c.if-is_full-2.false (omega arith)
