-- `entries_above_zero` meets its contract: the bits of the entries passed, the last entry first.
use mir.Val.{bool_byte}
use Rattle.std.proofs.Common.{◌≡◌, ◌∙◌, Bool, true, false, arith, ltb, refl, length-append}
use Rattle.std.proofs.lemmas.Iterator.Adapters.{YieldsList-from_rev_slice}
use Rattle.std.proofs.lemmas.Iterator.Consumers.{YieldsList-turn, YieldsList-end}
use Rattle.mixing.specs.Bits.{digit}
use Rattle.mixing.proofs.EntryLaws.{bits_from_end, bits_room, bits_from_more, bits_from_all}
use Rattle.mixing.proofs.edges.entries_above_zero.Goals as goal

-- A test as a number is its binary digit.
as_digit : (passes : Bool) → bool_byte passes ≡ digit passes
as_digit false = refl
as_digit true = refl

pub loop-entry-init : goal.loop-entry-init
loop-entry-init c = bits_from_end c.args.entries.now

pub overflow_mul-bits : goal.overflow_mul-bits
overflow_mul-bits c =
    let turn = YieldsList-turn (YieldsList-from_rev_slice c.args.entries.now (cc)) c.loop-entry.yielded c.loop-entry.entry-iterator c.loop-entry.yielded_by c.next.result c.next.new.self c.in-Some.entry c.in-Some.is c.next.ensures.steps in
    let room = bits_room c.loop-entry.invariant {bit = digit (ltb 0 c.in-Some.entry.now)} c.requires turn.0 turn.1 refl in
    record { fits = omega (arith, room) }

pub overflow_add-bits : goal.overflow_add-bits
overflow_add-bits c =
    let turn = YieldsList-turn (YieldsList-from_rev_slice c.args.entries.now (cc)) c.loop-entry.yielded c.loop-entry.entry-iterator c.loop-entry.yielded_by c.next.result c.next.new.self c.in-Some.entry c.in-Some.is c.next.ensures.steps in
    let room = bits_room c.loop-entry.invariant c.requires turn.0 turn.1 (c.from.ensures ∙ as_digit (ltb 0 c.in-Some.entry.now)) in
    record { fits = omega (arith, room) }

pub loop-entry-preserved : goal.loop-entry-preserved
loop-entry-preserved c =
    let turn = YieldsList-turn (YieldsList-from_rev_slice c.args.entries.now (cc)) c.loop-entry.yielded c.loop-entry.entry-iterator c.loop-entry.yielded_by c.next.result c.next.new.self c.in-Some.entry c.in-Some.is c.next.ensures.steps in
    simp length-append (bits_from_more c.loop-entry.invariant c.requires turn.0 turn.1 (c.from.ensures ∙ as_digit (ltb 0 c.in-Some.entry.now)))

pub returns : goal.returns
returns c =
    let end = YieldsList-end (YieldsList-from_rev_slice c.args.entries.now (cc)) c.loop-entry.yielded c.loop-entry.entry-iterator c.loop-entry.yielded_by c.next.result c.next.new.self c.in-None.is c.next.ensures.steps in
    bits_from_all c.loop-entry.invariant end.1
