-- `check_rule_row` meets its contract: an accepted record has a byte 3.
use Rattle.std.proofs.Common.{sym, arith}
use Rattle.record_spec.proofs.Laws.Read.{read_framed}
use Rattle.record_parts.proofs.check_rule_row.Goals as goal

pub bounds-bytes-3 : goal.bounds-bytes-3
bounds-bytes-3 c = omega (arith, read_framed c.args.bytes.now (sym c.in_ok-check.ensures))
