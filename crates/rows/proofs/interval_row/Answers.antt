-- `interval_row` meets its contract, by the cases of `Laws.Entries`.
use Rattle.std.proofs.Common.{refl, sym, ◌∙◌}
use Rattle.scheme.proofs.Laws.Cause.{outside_false}
use Rattle.scheme.proofs.Laws.Judged.{accepted_cause}
use Rattle.rows.specs.Laws.Entries.{row_answered_lem}
use Rattle.rows.proofs.interval_row.Goals as goal

pub answered-requires : goal.answered-requires
answered-requires c =
    let ok = accepted_cause c.args.scheme (sym c.in_ok-check.ensures) in
    let range = outside_false c.args.scheme.classes c.args.class (sym c.class_out.ensures ∙ c.if-class_out.false) in
    (range.0, range.1, ok.size.classes, ok.size.columns)

pub returns : goal.returns
returns c =
    c.answered.ensures ∙ row_answered_lem c.args.scheme c.args.class _ c.in_ok-check.ensures refl (sym c.class_out.ensures ∙ c.if-class_out.false)
