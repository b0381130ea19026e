-- `next` meets its contract: the cursor moves on where a band came, which is one of at most 8 columns.
use Rattle.std.proofs.Common.{ap, arith}
use Rattle.record_spec.specs.Reader.{handed_out}
use Rattle.record_parts.specs.Laws.Reader.{after_within}
use Rattle.record_parts.proofs.ReaderIterator.next.Goals as goal

pub overflow_add-self : goal.overflow_add-self
overflow_add-self c =
    omega (arith, ap handed_out c.in_ok-band.ensures.answer, after_within c.args.self.now.bytes.now c.args.self.now.at)
