-- `reading::check_last_column` meets its contract.
use mathlib.Core.Path.{ap}
use native.Mathlib.Omega.{arith}
use Rattle.record_spec.specs.Layout.{header_length}
use Rattle.record_spec.proofs.Laws.Layout.{second_layout}
use Rattle.record_spec.proofs.Laws.Frame.{none_further, last_differs, last_same}
use Rattle.record.proofs.reading.check_last_column.Goals as goal

pub returns-then-bytes-ne2 : goal.returns-then-bytes-ne2
returns-then-bytes-ne2 c = none_further c.args.bytes.now c.if-bytes-ne2.true

pub bounds-bytes-7 : goal.bounds-bytes-7
bounds-bytes-7 c = omega (arith, ap header_length (second_layout c.if-bytes-ne2.false), c.requires.0)

pub returns-then-bytes : goal.returns-then-bytes
returns-then-bytes c = last_differs c.args.bytes.now c.if-bytes-ne2.false c.if-bytes.true

pub returns : goal.returns
returns c = last_same c.args.bytes.now c.if-bytes-ne2.false c.if-bytes.false
