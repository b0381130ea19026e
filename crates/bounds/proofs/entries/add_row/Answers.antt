-- `add_row` stores one entry in the list of each state that it leads to.
-- Assumes nothing.
use native.Mathlib.Omega.{arith}
use lib.ListN.{length-append}
use Rattle.std.proofs.Common.{rules}
use Rattle.bounds.proofs.AddRowLaws.{adding_skip}
use Rattle.bounds.proofs.JoinedLaws.{place_free, adding_stored}
use Rattle.bounds.proofs.ZipLaws.{counted_turn}
use Rattle.bounds.proofs.entries.add_row.Goals as goal

pub bounds-entries-place : goal.bounds-entries-place
bounds-entries-place c =
    let turn =
    counted_turn c.args.lower.now c.args.upper.now c.loop-j.yielded _ _ c.next.new.self _ (search rules) (search rules) (search rules)
    c.loop-j.yielded_by _ c.in-Some.is c.next.ensures.steps in
    rw turn.0 (omega (arith, place_free c.loop-j.entries (search rules) (search rules) (search rules) c.requires.1 c.loop-j.invariant turn.1))

pub bounds-entries-place-then-high-gt0 : goal.bounds-entries-place-then-high-gt0
bounds-entries-place-then-high-gt0 c =
    let turn =
    counted_turn c.args.lower.now c.args.upper.now c.loop-j.yielded _ _ c.next.new.self _ (search rules) (search rules) (search rules)
    c.loop-j.yielded_by _ c.in-Some.is c.next.ensures.steps in
    rw turn.0 (omega (arith, place_free c.loop-j.entries (search rules) (search rules) (search rules) c.requires.1 c.loop-j.invariant turn.1))

pub bounds-entries-place-then-high-gt0-2 : goal.bounds-entries-place-then-high-gt0-2
bounds-entries-place-then-high-gt0-2 c =
    let turn =
    counted_turn c.args.lower.now c.args.upper.now c.loop-j.yielded _ _ c.next.new.self _ (search rules) (search rules) (search rules)
    c.loop-j.yielded_by _ c.in-Some.is c.next.ensures.steps in
    rw turn.0 (omega (arith, place_free c.loop-j.entries (search rules) (search rules) (search rules) c.requires.1 c.loop-j.invariant turn.1))

pub overflow_add-entries : goal.overflow_add-entries
overflow_add-entries c =
    let turn =
    counted_turn c.args.lower.now c.args.upper.now c.loop-j.yielded _ _ c.next.new.self _ (search rules) (search rules) (search rules)
    c.loop-j.yielded_by _ c.in-Some.is c.next.ensures.steps in
    rw turn.0 (omega (arith, place_free c.loop-j.entries (search rules) (search rules) (search rules) c.requires.1 c.loop-j.invariant turn.1))

pub loop-j-preserved-then-high-gt0 : goal.loop-j-preserved-then-high-gt0
loop-j-preserved-then-high-gt0 c =
    let turn =
    counted_turn c.args.lower.now c.args.upper.now c.loop-j.yielded _ _ c.next.new.self _ (search rules) (search rules) (search rules)
    c.loop-j.yielded_by _ c.in-Some.is c.next.ensures.steps in
    simp length-append (rw (turn.0, turn.2, turn.3) (adding_stored c.loop-j.entries (search rules) (search rules) (search rules) c.requires.1 c.loop-j.invariant turn.1))

pub loop-j-preserved : goal.loop-j-preserved
loop-j-preserved c =
    let turn =
    counted_turn c.args.lower.now c.args.upper.now c.loop-j.yielded _ _ c.next.new.self _ (search rules) (search rules) (search rules)
    c.loop-j.yielded_by _ c.in-Some.is c.next.ensures.steps in
    simp length-append (adding_skip c.requires.1 c.loop-j.invariant turn.1 (omega (arith, turn.3, c.if-high-gt0.false)))
