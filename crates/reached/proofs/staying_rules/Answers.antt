-- `staying_rules` leads the rules of one class to itself, as a part of the rules of all classes.
-- Assumes nothing.
use Rattle.std.proofs.Common.{◌≡◌, ◌+◌, ◌-◌, ℕ, sym, ◌∙◌, arith, rules}
use Rattle.order.proofs.Laws.Written.{rewritten_none, rewritten_more}
use Rattle.reached.proofs.PartLaws.{cells_size, led_part}
use Rattle.reached.proofs.staying_rules.Goals as goal

-- How long a part is that ends so far behind its beginning.
part_length : (first many : ℕ) → first + many - first ≡ many
part_length first many = omega arith

pub loop-rule-init : goal.loop-rule-init
loop-rule-init c = rewritten_none (rw part_length (cells_size c.args.class c.args.rules (search rules) (sym c.class_out.ensures ∙ c.if-class_out.false)))

pub loop-rule-preserved : goal.loop-rule-preserved
loop-rule-preserved c = rewritten_more _ _ _ _ _ _ (omega (arith, c.loop-rule.invariant.size)) c.staying_rule.ensures c.loop-rule.invariant

pub returns : goal.returns
returns c =
    rw part_length
    (led_part c.args.class c.args.rules (search rules) (sym c.class_out.ensures ∙ c.if-class_out.false) (omega (arith, c.loop-rule.invariant.size)) (rw part_length at c.loop-rule.invariant))
