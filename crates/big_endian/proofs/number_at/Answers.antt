-- `number_at` meets its contract: 0, or the number of the bytes passed stands at the head of the loop.
use Prim.Native.Nat.{ℕ, ◌+◌, ◌-◌, ◌≤◌, ◌<◌}
use mathlib.Core.Path.{◌≡◌, refl, sym, ◌∙◌}
use mathlib.Core.List.{List}
use native.Mathlib.Omega.{arith}
use borrow.Author.Tests.{leb-true}
use lib.ListN.{length, get_or, take, drop, length-take, length-drop}
use Rattle.std.proofs.lemmas.List.{get_or-take, get_or-drop}
use Rattle.big_endian_spec.specs.Numbers.{be_at}
use Rattle.big_endian_spec.proofs.Laws.{read_held, read_wide, read_none, read_more, read_room, fits_more}
use Rattle.big_endian.proofs.number_at.Goals as goal

-- A byte of the part that is read, where it stands in the whole.
byte_at : (bytes : List ℕ) (at width k : ℕ) {byte : ℕ} → k < length (take (at + width - at) (drop at bytes))
    → byte ≡ get_or (take (at + width - at) (drop at bytes)) k 0 → byte ≡ get_or bytes (at + k) 0
byte_at bytes at width k inside is =
    is ∙ get_or-take (at + width - at) (drop at bytes) k 0 (omega (arith, length-take (at + width - at) (drop at bytes))) ∙ get_or-drop at bytes k 0

pub returns-then-width-gt-MOST_BYTES : goal.returns-then-width-gt-MOST_BYTES
returns-then-width-gt-MOST_BYTES c = read_wide _ _ _ c.if-width-gt-MOST_BYTES.true

pub returns-then-not-holds : goal.returns-then-not-holds
returns-then-not-holds c = read_none _ _ _ (sym c.holds.ensures ∙ c.if-not-holds.true)

pub loop-byte-init : goal.loop-byte-init
unfolding be_at
loop-byte-init c = (refl, omega arith)

-- The number so far leaves room for one byte more.
pub overflow_mul-number : goal.overflow_mul-number
overflow_mul-number c =
    let turn = c.loop-byte in
    let few : turn.byte-index < 4 = omega (arith, c.loop-byte-test.true, length-take (c.args.at + c.args.width - c.args.at) (drop c.args.at c.args.bytes.now)) in
    omega (arith, read_room turn.byte-index turn.number few turn.invariant.1)

pub overflow_add-number : goal.overflow_add-number
overflow_add-number c =
    let start = c.args in
    let turn = c.loop-byte in
    let few : turn.byte-index < 4 = omega (arith, c.loop-byte-test.true, length-take (start.at + start.width - start.at) (drop start.at start.bytes.now)) in
    omega (
      arith,
      read_room turn.byte-index turn.number few turn.invariant.1,
      byte_at start.bytes.now start.at start.width turn.byte-index c.loop-byte-test.true c.from.ensures,
      c.type_inv.bytes (start.at + turn.byte-index),
    )

pub loop-byte-preserved : goal.loop-byte-preserved
loop-byte-preserved c =
    let start = c.args in
    let turn = c.loop-byte in
    let byte = byte_at start.bytes.now start.at start.width turn.byte-index c.loop-byte-test.true c.from.ensures in (
      rw (turn.invariant.0, byte) (sym (read_more turn.byte-index start.bytes.now start.at)),
      fits_more turn.byte-index turn.invariant.1 (omega (arith, byte, c.type_inv.bytes (start.at + turn.byte-index))),
    )

pub returns : goal.returns
returns c =
    let start = c.args in
    let turn = c.loop-byte in
    let fits : start.at + start.width ≤ length start.bytes.now = leb-true _ _ (sym c.holds.ensures ∙ c.if-not-holds.false) in
    let end : turn.byte-index ≡ start.width =
    omega (arith, length-take (start.at + start.width - start.at) (drop start.at start.bytes.now), length-drop start.at start.bytes.now) in
    rw end at turn.invariant.0 ∙ sym (read_held _ _ _ c.if-width-gt-MOST_BYTES.false fits)
