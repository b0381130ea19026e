-- `copy_front` meets its contract: a buffer that is too long is left, and any other is the front of the list.
-- Assumes nothing.
use Rattle.std.specs.Prelude.{ℕ, ◌≡◌, ◌≤◌, List, ◌++◌, length, take, drop}
use Rattle.std.proofs.Common.{ap, sym, ◌∙◌, arith, length-take-le}
use Rattle.std.proofs.lemmas.List.{append-nil, get_or-take}
use lib.Seq.{drop-length}
use Rattle.setchain.specs.Sums.{at}
use Rattle.scheme.proofs.Laws.Tab.{as_tab}
use Rattle.joguyvi_spec.specs.Buffers.{copied_front}
use Rattle.joguyvi_spec.proofs.Laws.Buffers.{front_copied}
use Rattle.joguyvi_buffers.proofs.copy_front.Goals as goal

-- The front of a list is what is copied, and so it is before the rest of a buffer of which no place is left over.
module _ (from before : List ℕ) (room : length before ≤ length from) where
  whole : take (length before) from ≡ copied_front from before
  whole =
      as_tab 0 (take (length before) from) (length before) (at from) (length-take-le (length before) from room) (λ k lt. get_or-take (length before) from k 0 lt)
      ∙ sym (front_copied from before room)

  part : {n : ℕ} → n ≡ length before → take n from ++ drop n before ≡ copied_front from before
  part {n} e = rw e (ap (λ l. take (length before) from ++ l) (drop-length before) ∙ append-nil _ ∙ whole)

ruleset fronts = (arith, whole, part)

pub returns : goal.returns
returns c =
    let from = c.args.from.now in
    let out = c.args.out.now in
    let room : length out ≤ length from = omega arith in
    rw c.copy_from_slice.ensures.after (search fronts)
