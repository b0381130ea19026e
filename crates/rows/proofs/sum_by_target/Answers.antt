-- `sum_by_target` meets its contract: after so many cells each entry is what those cells come to.
use Rattle.std.proofs.Common.{length, rules, ap, ap₂, sym, ◌∙◌}
use Rattle.std.proofs.lemmas.List.{length_push}
use Rattle.std.proofs.lemmas.Slice.Zip.{zip_turn, zip_end}
use Rattle.scheme.specs.SumByTarget.{added_to_target}
use Rattle.rows.specs.Laws.AddToTarget.{summed_to, loop_begins, loop_turn, loop_capped, loop_ends}
use Rattle.rows.proofs.sum_by_target.Goals as goal

pub loop-rule-init : goal.loop-rule-init
loop-rule-init c = loop_begins _ _ (length c.args.out.now) _ (c.fill.ensures.after (λ y e. e))

pub add_to_target-requires : goal.add_to_target-requires
add_to_target-requires c = loop_capped _ _ _ _ _ c.loop-rule.invariant

pub loop-rule-preserved : goal.loop-rule-preserved
loop-rule-preserved c =
    let read = zip_turn c.args.rules.now c.args.band.now c.loop-rule.yielded _ _ c.next.new.self _ (search rules) (search rules) c.loop-rule.yielded_by _ c.in-Some.is c.next.ensures.steps in
    loop_turn _ _ (length c.fill.new.self) _ _ _ c.loop-rule.invariant (c.add_to_target.ensures ∙ ap₂ (added_to_target c.loop-rule.out) (read.2 0) (read.3 0))
    ∙ ap (summed_to _ _ _) (sym (length_push c.loop-rule.yielded _))

pub returns : goal.returns
returns c =
    let all = zip_end c.args.rules.now c.args.band.now c.loop-rule.yielded _ _ c.next.new.self _ (search rules) (search rules) c.loop-rule.yielded_by c.in-None.is c.next.ensures.steps in
    (loop_ends _ _ (length c.args.out.now) _ _ _ (c.fill.ensures.after (λ y e. e)) c.loop-rule.invariant all).1
