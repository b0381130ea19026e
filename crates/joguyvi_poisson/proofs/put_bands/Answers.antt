-- `put_bands` meets its contract: the bands' cause, 13 for the buffers, or the bands in them.
-- Assumes nothing.
use Rattle.std.proofs.Common.{◌≡◌, length, sym, ◌∙◌, rules}
use Rattle.joguyvi_spec.proofs.Laws.Buffers.{buffer_sizes, all_copied}
use Rattle.joguyvi_poisson.proofs.put_bands.Goals as goal

pub returns : goal.returns
returns c =
    let fit = buffer_sizes 8 c.args.lower.now c.args.upper.now (sym c.in_ok-check_slices.ensures) in
    let lowers : length c.in_ok-bands.bands.lower ≡ 8 = search rules in
    let uppers : length c.in_ok-bands.bands.upper ≡ 8 = search rules in
    rw c.in_ok-bands.was
    (record {
      answer = c.in_ok-check_slices.ensures;
      filled = c.copy_front.ensures ∙ all_copied _ _ (fit.0 ∙ sym lowers);
      other_filled = c.copy_front-2.ensures ∙ all_copied _ _ (fit.1 ∙ sym uppers);
    })
