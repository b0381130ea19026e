-- `list_row` sums the row's ends by target at the fronts of two arrays, and adds its entries.
-- Assumes nothing.
use Rattle.bounds.proofs.ListRowLaws.{row_adds, row_added, row_slack}
use Rattle.bounds.proofs.entries.list_row.Goals as goal

pub add_row-requires : goal.add_row-requires
add_row-requires c =
    row_adds c.args.rules.now c.args.lowers.now c.args.uppers.now _ _
    c.requires c.sum_by_target.ensures c.sum_by_target-2.ensures

pub returns-clause-entries : goal.returns-clause-entries
returns-clause-entries c =
    row_added c.args.rules.now c.args.lowers.now c.args.uppers.now _ _
    c.requires c.sum_by_target.ensures c.sum_by_target-2.ensures c.add_row.ensures

pub returns-clause-slack : goal.returns-clause-slack
returns-clause-slack c =
    row_slack c.args.rules.now c.args.lowers.now c.args.uppers.now _ _
    c.requires c.sum_by_target.ensures c.sum_by_target-2.ensures c.slack.ensures
