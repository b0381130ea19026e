-- `reading::check_frame` meets its contract: the tests of the frame's table, in their order.
use Rattle.record_spec.specs.Read.{frame_cause}
use Rattle.scheme.proofs.Laws.Number.{first_declines, second_declines}
use Rattle.record.proofs.reading.check_frame.Goals as goal

pub returns-in_err-check_version : goal.returns-in_err-check_version
unfolding frame_cause
returns-in_err-check_version c = first_declines _ _ _ c.from_residual.ensures c.in_err-check_version.ensures

pub returns-in_err-check_length_field : goal.returns-in_err-check_length_field
unfolding frame_cause
returns-in_err-check_length_field c =
    second_declines c.in_ok-check_version.ensures (first_declines _ _ _ c.from_residual-in_err-check_length_field.ensures c.in_err-check_length_field.ensures)

pub returns-in_err-check_sizes : goal.returns-in_err-check_sizes
unfolding frame_cause
returns-in_err-check_sizes c =
    second_declines c.in_ok-check_version.ensures (second_declines c.in_ok-check_length_field.ensures
    (first_declines _ _ _ c.from_residual-in_err-check_sizes.ensures c.in_err-check_sizes.ensures))

pub returns-in_err-check_length : goal.returns-in_err-check_length
unfolding frame_cause
returns-in_err-check_length c =
    second_declines c.in_ok-check_version.ensures (second_declines c.in_ok-check_length_field.ensures (second_declines c.in_ok-check_sizes.ensures
    (first_declines _ _ _ c.from_residual-in_err-check_length.ensures c.in_err-check_length.ensures)))

pub returns : goal.returns
unfolding frame_cause
returns c =
    second_declines c.in_ok-check_version.ensures (second_declines c.in_ok-check_length_field.ensures (second_declines c.in_ok-check_sizes.ensures
    (second_declines c.in_ok-check_length.ensures c.check_last_column.ensures)))
