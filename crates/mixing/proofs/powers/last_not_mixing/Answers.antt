-- `last_not_mixing` meets its contract: the count does not mix, and 2 to the power of k years more do.
use Prim.Native.Nat.{◌-◌, ◌*◌, ◌%◌, ◌^◌, ◌≤◌, ◌<◌, ℕ}
use Rattle.std.proofs.Common.{◌≡◌, refl, subst, ◌∙◌, arith, [], get_or}
use Rattle.mixing.specs.Matrices.{rows_of, size_of}
use Rattle.mixing.specs.Powers.{Halving}
use Rattle.mixing.specs.Laws.Bits.{one_shifted}
use Rattle.mixing.specs.Laws.Powers.{halving_start, halving_on, halving_stays, halving_ends}
use Rattle.mixing.proofs.MatrixLaws.{told_full, told_product, size_at, rows_at}
use Rattle.mixing.proofs.powers.last_not_mixing.Goals as goal

pub loop-k-init : goal.loop-k-init
loop-k-init c =
    let sized = c.requires.0 in
    let pre = c.requires.1 in
    let k = c.args.levels - 1 in
    let count : ℕ = (1 * 2 ^ k) % 18446744073709551616 in
    let first = c.index-squares-levels.result in
    let inside : k < 11 = omega (arith, pre.some, pre.few) in
    let start = halving_start pre {count = count} (one_shifted k (omega (arith, pre.few))) in (
      size_at sized inside first,
      subst (λ within. Halving (size_of c.args.squares.now) (get_or (rows_of c.args.squares.now) 0 []) c.args.levels k within count) (rows_at sized inside first) start,
    )

pub loop-k-preserved-then-not-is_full : goal.loop-k-preserved-then-not-is_full
loop-k-preserved-then-not-is_full c =
    let w = c.loop-k.invariant in
    let pre = c.requires.1 in
    let few : c.loop-k.k ≤ 10 = omega (arith, w.1.level, pre.few) in
    let half : (1 * 2 ^ (c.loop-k.k - 1)) % 18446744073709551616 ≡ 2 ^ (c.loop-k.k - 1) = one_shifted (c.loop-k.k - 1) (omega (arith, few)) in
    let size = c.product-further.ensures.n ∙ w.0 in (
      size,
      halving_on pre w.1 (omega arith)
          (told_product c.loop-k.within w.0 refl (rows_at c.requires.0 (omega (arith, few)) c.index-squares-k.result) c.product-further.ensures.rows)
          (told_full c.product-further.result size refl c.is_full.ensures) half c.if-not-is_full.true,
    )

pub loop-k-preserved : goal.loop-k-preserved
loop-k-preserved c =
    let w = c.loop-k.invariant in
    let pre = c.requires.1 in
    let few : c.loop-k.k ≤ 10 = omega (arith, w.1.level, pre.few) in
    let size = c.product-further.ensures.n ∙ w.0 in (
      w.0,
      halving_stays pre w.1 (omega arith)
          (told_product c.loop-k.within w.0 refl (rows_at c.requires.0 (omega (arith, few)) c.index-squares-k.result) c.product-further.ensures.rows)
          (told_full c.product-further.result size refl c.is_full.ensures) c.if-not-is_full.false,
    )

pub returns : goal.returns
returns c = halving_ends c.requires.1 c.loop-k.invariant.1 (omega arith)
