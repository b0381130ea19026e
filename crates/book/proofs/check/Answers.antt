-- `check` meets its contract: the counts yielded so far are within the limit, and summed.
-- Assumes nothing.
use Rattle.std.proofs.Common.{◌∙◌, arith, length-append, rules}
use Rattle.std.proofs.lemmas.Iterator.{YieldsList-from_slice, YieldsList-from_take}
use Rattle.std.proofs.lemmas.Iterator.Consumers.{YieldsList-turn, YieldsList-end}
use Rattle.book.proofs.BookLaws.{counted_none, counted_most, counted_more, counted_out, counted_empty, counted_all, counted_rest, yielded_inside, yielded_count}
use Rattle.book.proofs.check.Goals as goal

pub loop-count-init : goal.loop-count-init
loop-count-init c = counted_none

pub returns-then-count-gt-MOST_COUNT : goal.returns-then-count-gt-MOST_COUNT
returns-then-count-gt-MOST_COUNT c =
    let turn = YieldsList-turn (YieldsList-from_take c.args.classes (YieldsList-from_slice c.args.book (search rules)) (search rules)) c.loop-count.yielded c.loop-count.count-iterator c.loop-count.yielded_by c.next.result c.next.new.self c.in-Some.count c.in-Some.is c.next.ensures.steps in
    counted_out c.loop-count.invariant (yielded_inside c.args.book c.args.classes turn.0) (c.from-count.ensures ∙ yielded_count c.args.book c.args.classes turn.0 turn.1) c.if-count-gt-MOST_COUNT.true

pub overflow_add-chambers : goal.overflow_add-chambers
overflow_add-chambers c =
    let turn = YieldsList-turn (YieldsList-from_take c.args.classes (YieldsList-from_slice c.args.book (search rules)) (search rules)) c.loop-count.yielded c.loop-count.count-iterator c.loop-count.yielded_by c.next.result c.next.new.self c.in-Some.count c.in-Some.is c.next.ensures.steps in
    record { fits = omega (arith, counted_most c.loop-count.invariant, yielded_inside c.args.book c.args.classes turn.0, c.ranges.classes.fits, c.if-count-gt-MOST_COUNT.false) }

pub loop-count-preserved : goal.loop-count-preserved
loop-count-preserved c =
    let turn = YieldsList-turn (YieldsList-from_take c.args.classes (YieldsList-from_slice c.args.book (search rules)) (search rules)) c.loop-count.yielded c.loop-count.count-iterator c.loop-count.yielded_by c.next.result c.next.new.self c.in-Some.count c.in-Some.is c.next.ensures.steps in
    simp length-append (counted_more c.loop-count.invariant (yielded_inside c.args.book c.args.classes turn.0) (c.from-count.ensures ∙ yielded_count c.args.book c.args.classes turn.0 turn.1) c.if-count-gt-MOST_COUNT.false)

pub returns-then-chambers-eq0 : goal.returns-then-chambers-eq0
returns-then-chambers-eq0 c =
    let end = YieldsList-end (YieldsList-from_take c.args.classes (YieldsList-from_slice c.args.book (search rules)) (search rules)) c.loop-count.yielded c.loop-count.count-iterator c.loop-count.yielded_by c.next.result c.next.new.self c.in-None.is c.next.ensures.steps in
    counted_empty (counted_rest end.1 c.loop-count.invariant) (omega arith) c.if-chambers-eq0.true

pub returns : goal.returns
returns c =
    let end = YieldsList-end (YieldsList-from_take c.args.classes (YieldsList-from_slice c.args.book (search rules)) (search rules)) c.loop-count.yielded c.loop-count.count-iterator c.loop-count.yielded_by c.next.result c.next.new.self c.in-None.is c.next.ensures.steps in
    counted_all (counted_rest end.1 c.loop-count.invariant) (omega arith) c.if-chambers-eq0.false
