-- `bands` meets its contract: the first cause, or the ends of both sides.
-- Assumes nothing.
use Rattle.std.proofs.Common.{ap, sym, ◌∙◌}
use Rattle.scheme.proofs.Laws.FirstCause.{cause_first, cause_second}
use Rattle.scheme.proofs.Laws.Number.{cause_some, passed_whole}
use Rattle.poisson_spec.specs.Answer.{bands_answer_of}
use Rattle.poisson.proofs.BandsLaws.{bands_declined, bands_answered}
use Rattle.poisson.proofs.bands.Goals as goal

pub returns-in_err-check_columns-clause-answer : goal.returns-in_err-check_columns-clause-answer
returns-in_err-check_columns-clause-answer c =
    let a = c.args in
    ap bands_answer_of (passed_whole _ _ c.from_residual.ensures)
    ∙ (bands_declined a.first a.second a.columns (cause_first _ c.in_err-check_columns.ensures (cause_some _)) (cause_some _)).0

pub returns-in_err-check_frequencies-clause-answer : goal.returns-in_err-check_frequencies-clause-answer
returns-in_err-check_frequencies-clause-answer c =
    let a = c.args in
    ap bands_answer_of (passed_whole _ _ c.from_residual-in_err-check_frequencies.ensures)
    ∙ (bands_declined a.first a.second a.columns (cause_second (sym c.in_ok-check_columns.ensures) c.in_err-check_frequencies.ensures) (cause_some _)).0

pub returns-clause-answer : goal.returns-clause-answer
returns-clause-answer c =
    let a = c.args in
    let none = sym (cause_second (sym c.in_ok-check_columns.ensures) c.in_ok-check_frequencies.ensures) in
    (bands_answered a.first a.second a.columns none c.ends.ensures c.ends-2.ensures).0

pub returns-clause-promise : goal.returns-clause-promise
returns-clause-promise c =
    let a = c.args in
    let none = sym (cause_second (sym c.in_ok-check_columns.ensures) c.in_ok-check_frequencies.ensures) in
    (bands_answered a.first a.second a.columns none c.ends.ensures c.ends-2.ensures).1
