-- `row` meets its contract, by the cases of `Laws.Tight`.
use Rattle.std.proofs.Common.{refl, ap, ◌∙◌}
use Rattle.scheme.specs.RowAnswer.{row_answer_of}
use Rattle.scheme.proofs.Laws.Number.{cause_some, passed_whole}
use Rattle.rows.specs.Laws.Tight.{row_refused_lem, row_tightens, row_tight}
use Rattle.rows.proofs.row.Goals as goal

pub returns-in_err-interval : goal.returns-in_err-interval
returns-in_err-interval c =
    ap row_answer_of (passed_whole _ _ c.from_residual.ensures) ∙ row_refused_lem c.args.scheme c.args.class c.in_err-interval.ensures (cause_some _)

pub tightened-requires : goal.tightened-requires
tightened-requires c = row_tightens c.args.scheme c.args.class c.in_ok-interval.ensures refl

pub returns : goal.returns
returns c = c.tightened.ensures ∙ row_tight c.args.scheme c.args.class c.in_ok-interval.ensures refl
