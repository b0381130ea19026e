-- `put_bands` meets its contract: 13 for the buffers, or the ends of the bands in them.
-- Assumes nothing.
use Prim.Native.Nat.{ℕ, ◌≤◌}
use mathlib.Core.Path.{◌≡◌, sym, ◌∙◌}
use mathlib.Core.List.{List}
use native.Mathlib.Omega.{arith}
use lib.ListN.{length, get_or, take}
use lib.Seq.{length-take-le}
use Rattle.std.proofs.Common.{rules}
use Rattle.std.proofs.lemmas.List.{get_or-take}
use Rattle.scheme.specs.Tables.{tab}
use Rattle.scheme.proofs.Laws.Tab.{as_tab}
use Rattle.joguyvi_rows.proofs.row_buffers.put_bands.Goals as goal

-- The ends of the first columns, as a rule gives them.
ends : (all : List ℕ) {columns n : ℕ} {part : List ℕ} → n ≡ columns → n ≤ length all → part ≡ take n all → part ≡ tab columns (λ k. get_or all k 0)
ends all {n = n} many room is =
    is ∙ as_tab 0 (take n all) n (λ k. get_or all k 0) (length-take-le n all room) (λ k lt. get_or-take n all k 0 lt) ∙ rw many

pub returns : goal.returns
returns c =
    let lowers : length c.args.scheme.lowers ≡ 8 = search rules in
    let uppers : length c.args.scheme.uppers ≡ 8 = search rules in
    record {
      answer = rw c.from-columns.ensures at c.in_ok-check_slices.ensures;
      filled = ends c.args.scheme.lowers c.from-columns.ensures (omega arith) c.copy_from_slice.ensures.after;
      other_filled = ends c.args.scheme.uppers c.from-columns.ensures (omega arith) c.copy_from_slice-2.ensures.after;
    }
