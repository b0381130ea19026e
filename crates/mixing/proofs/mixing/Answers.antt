-- `mixing` meets its contract: declined, no count, or the first.
use Rattle.std.proofs.Common.{refl, ap, sym, ◌∙◌}
use Rattle.scheme.proofs.Laws.Number.{cause_some, passed_whole}
use Rattle.mixing_spec.specs.MixingAnswer.{mixing_answer_of}
use Rattle.mixing_spec.proofs.Laws.{scheme_declined}
use Rattle.mixing.specs.Powers.{counted}
use Rattle.mixing.specs.Laws.Powers.{bits_held, scheme_first, counted_answer}
use Rattle.mixing.proofs.mixing.Goals as goal

pub returns-in_err-check : goal.returns-in_err-check
returns-in_err-check c =
    ap mixing_answer_of (passed_whole _ _ c.from_residual.ensures) ∙ scheme_declined c.args.scheme c.in_err-check.ensures (cause_some _)

pub first_count-requires : goal.first_count-requires
first_count-requires c = rw c.edges.ensures.n (bits_held c.edges.ensures.rows)

pub returns : goal.returns
returns c =
    let first = scheme_first c.args.scheme c.edges.ensures.rows refl in
    ap mixing_answer_of c.ok_or.ensures.value
    ∙ counted_answer c.args.scheme (sym c.in_ok-check.ensures) ((rw c.edges.ensures.n at c.first_count.ensures) ∙ ap counted first)
