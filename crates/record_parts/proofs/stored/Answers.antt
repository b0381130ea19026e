-- `stored` meets its contract: an accepted record has a byte 4.
use Rattle.std.proofs.Common.{sym, arith}
use Rattle.record_spec.proofs.Laws.Read.{read_framed}
use Rattle.record_parts.specs.Laws.Checked.{passed_none}
use Rattle.record_parts.proofs.stored.Goals as goal

pub bounds-bytes-4 : goal.bounds-bytes-4
bounds-bytes-4 c = omega (arith, read_framed c.args.bytes.now (passed_none _ (sym c.if-is_ok.ensures.value) c.check.ensures))
