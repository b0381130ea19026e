-- `sheet` meets its contract: the refusal of the bytes, or their sheet.
use Rattle.std.proofs.Common.{refl}
use Rattle.scheme.proofs.Laws.Number.{cause_some}
use Rattle.record_spec.proofs.Laws.Read.{read_cause_lem, read_passed, read_in}
use Rattle.sheet_spec.proofs.Laws.Space.{read_accepted}
use Rattle.sheet_text.specs.Laws.Answer.{sheet_refused, sheet_accepted}
use Rattle.sheet_text.proofs.sheet.Goals as goal

pub accepted-requires : goal.accepted-requires
accepted-requires c =
    let bytes = c.args.bytes.now in
    rw (read_in bytes c.in-Ok.ensures refl) (read_accepted bytes (read_passed bytes c.in-Ok.ensures refl))

pub returns-in-Ok : goal.returns-in-Ok
returns-in-Ok c =
    let bytes = c.args.bytes.now in
    let all = sheet_accepted bytes (read_passed bytes c.in-Ok.ensures refl) (read_in bytes c.in-Ok.ensures refl) c.accepted.ensures in
    record { answer = all.0; leaves = all.1.0; promise = all.1.1 }

pub returns-in-Err : goal.returns-in-Err
returns-in-Err c =
    let bytes = c.args.bytes.now in
    let all = sheet_refused bytes (read_cause_lem bytes c.in-Err.ensures) (cause_some _) c.refused.ensures in
    record { answer = all.0; leaves = all.1.0; promise = all.1.1 }
