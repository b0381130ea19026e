-- `copy` meets its contract: nothing, or the part of the one slice in place of as many bytes of the other.
use Prim.Native.Nat.{ℕ, ◌+◌, ◌-◌, ◌≤◌}
use mathlib.Core.Path.{◌≡◌, sym, ◌∙◌}
use mathlib.Core.List.{List, append_assoc}
use native.Mathlib.Omega.{arith}
use borrow.Author.Tests.{leb-true}
use borrow.Rule.Slice.PartMut.{put_mid, Post-is}
use lib.ListN.{length, take, drop, length-drop}
use lib.Seq.{sets-eq, length-take-le}
use Rattle.big_endian_spec.specs.Numbers.{part_put}
use Rattle.big_endian_spec.proofs.Laws.{part_held, part_none, part_no_room}
use Rattle.big_endian.proofs.copy.Goals as goal

-- The part in place of as many bytes.
placed : (n : ℕ) (from : List ℕ) (at : ℕ) (out : List ℕ) (to : ℕ) {part : List ℕ} → at + n ≤ length from → to + n ≤ length out
    → part ≡ take (at + n - at) (drop at from) → put_mid to (to + n - to) out part ≡ part_put n from at out to
placed n from at out to fits room is =
    let many : at + n - at ≡ n = omega arith in
    let size : length (take n (drop at from)) ≡ n = length-take-le n (drop at from) (omega (arith, length-drop at from)) in
    rw (is, many, Post-is to (to + n) out (omega arith)) (sym
    (part_held n from at out to fits room ∙ sets-eq (take n (drop at from)) out to (omega (arith, size)) ∙ rw (size, append_assoc)))

pub returns-then-not-holds : goal.returns-then-not-holds
returns-then-not-holds c = part_none _ _ _ _ _ (sym c.holds.ensures ∙ c.if-not-holds.true)

pub returns-then-not-holds-2 : goal.returns-then-not-holds-2
returns-then-not-holds-2 c = part_no_room _ _ _ _ _ (sym c.holds-2.ensures ∙ c.if-not-holds-2.true)

pub returns : goal.returns
returns c =
    placed c.args.n c.args.from.now c.args.at c.args.out.now c.args.to
    (leb-true _ _ (sym c.holds.ensures ∙ c.if-not-holds.false)) (leb-true _ _ (sym c.holds-2.ensures ∙ c.if-not-holds-2.false))
    c.copy_from_slice.ensures.after
