-- `accepted` meets its contract: declined for want of space, or the sheet.
use native.Mathlib.Omega.{arith}
use borrow.Author.Rules.{rules}
use Rattle.sheet_spec.proofs.Laws.Space.{sheet_within, space_coded}
use Rattle.sheet_text.specs.Laws.Answer.{answered_declined, answered_written, answered_space}
use Rattle.sheet_text.proofs.accepted.Goals as goal

pub returns-then-out-space : goal.returns-then-out-space
returns-then-out-space c = answered_declined (grind (arith, space_coded c.args.scheme c.requires))

pub put_sheet-requires : goal.put_sheet-requires
put_sheet-requires c = (answered_space (grind (arith, space_coded c.args.scheme c.requires)) (sheet_within c.args.scheme c.requires).fits, c.requires)

pub returns : goal.returns
returns c = answered_written (grind (arith, space_coded c.args.scheme c.requires)) (sheet_within c.args.scheme c.requires).fits (search rules)
