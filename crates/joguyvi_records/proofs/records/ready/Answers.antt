-- `ready` meets its contract: 1 for the version, the ready scheme's cause, or its record.
-- Assumes nothing.
use Rattle.std.proofs.Common.{ap, sym, ◌∙◌}
use Rattle.scheme.specs.Cause.{cause_of}
use Rattle.scheme.proofs.Laws.Judged.{cause_accepted}
use Rattle.ready_spec.proofs.Theorems.{answered_accepted}
use Rattle.joguyvi_records.proofs.records.ready.Goals as goal

pub put_record-requires : goal.put_record-requires
put_record-requires c =
    let is = c.in_ok-ready.ensures in (
      sym c.other_version.ensures ∙ c.if-other_version.false,
      ap (λ r. cause_of r.scheme) is ∙ cause_accepted _ (answered_accepted c.args.number c.args.base (sym (ap (λ r. r.number) is))),
    )
