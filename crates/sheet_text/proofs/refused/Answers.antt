-- `refused` meets its contract: declined for want of space, or the line.
use Rattle.std.proofs.Common.{arith, rules}
use Rattle.scheme.proofs.Laws.Number.{cause_most}
use Rattle.sheet_spec.proofs.Laws.Widths.{refused_line_within}
use Rattle.sheet_text.specs.Laws.Answer.{answered_written, answered_space}
use Rattle.sheet_text.proofs.refused.Goals as goal

pub put_refused_line-requires : goal.put_refused_line-requires
put_refused_line-requires c = rw c.number.ensures (answered_space {space = 11} (omega arith) (refused_line_within _ (cause_most c.args.cause)).fits)

pub returns : goal.returns
returns c = answered_written (omega arith) (refused_line_within _ (cause_most c.args.cause)).fits (rw (← c.number.ensures) (search rules))
