-- `reached` meets its contract: the answer is the share in the scheme in which nobody leaves the class, and the promise is its theorem.
use mathlib.Core.Path.{sym, ◌∙◌, subst}
use Rattle.bounds_spec.specs.Reached.{ReachedPromise}
use Rattle.bounds_spec.proofs.Laws.Reached.{reached_kept}
use Rattle.reached.proofs.StayingLaws.{reached_by_share}
use Rattle.reached.proofs.reached.Goals as goal

pub returns-clause-answer : goal.returns-clause-answer
returns-clause-answer c =
    let a = c.args in
    let same = c.share.ensures.answer ∙ sym (reached_by_share a.scheme a.class c.staying_rules.result c.staying_rules.ensures a.year) in
    same

pub returns-clause-promise : goal.returns-clause-promise
returns-clause-promise c =
    let a = c.args in
    let same = c.share.ensures.answer ∙ sym (reached_by_share a.scheme a.class c.staying_rules.result c.staying_rules.ensures a.year) in
    subst (ReachedPromise a.scheme a.class a.year) (sym same) (reached_kept a.scheme a.class a.year)
