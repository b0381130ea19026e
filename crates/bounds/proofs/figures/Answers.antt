-- `figures` answers by the definition, and leaves the slices alone where it declines.
-- Assumes nothing.
use Rattle.std.proofs.Common.{refl, ◌∙◌}
use Rattle.scheme.proofs.Laws.Number.{passed_on}
use Rattle.bounds_spec.specs.Table.{table_cause}
use Rattle.bounds.proofs.FiguresLaws.{figures_ready, figures_written}
use Rattle.bounds.proofs.figures.Goals as goal

pub returns-in_err-check_table-clause-answer : goal.returns-in_err-check_table-clause-answer
unfolding table_cause
returns-in_err-check_table-clause-answer c = passed_on _ _ c.from_residual.ensures ∙ c.in_err-check_table.ensures

pub write_table-requires : goal.write_table-requires
write_table-requires c = (figures_ready c.args.scheme c.args.low.now c.args.high.now c.in_ok-check_table.ensures refl).0

pub write_table-requires-2 : goal.write_table-requires-2
write_table-requires-2 c = (figures_ready c.args.scheme c.args.low.now c.args.high.now c.in_ok-check_table.ensures refl).1

pub returns-clause-answer : goal.returns-clause-answer
returns-clause-answer c =
    (figures_written c.args.scheme c.args.low.now c.args.high.now c.in_ok-check_table.ensures refl
    c.write_table.ensures c.write_table-2.ensures).0

pub returns-clause-promise : goal.returns-clause-promise
returns-clause-promise c =
    (figures_written c.args.scheme c.args.low.now c.args.high.now c.in_ok-check_table.ensures refl
    c.write_table.ensures c.write_table-2.ensures).1.1.1
