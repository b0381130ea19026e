-- `put_all` meets its contract: the list is copied place by place, and both are of one length.
use Rattle.std.specs.Prelude.{ℕ, ◌+◌, ◌<◌, ◌≤◌, ◌≡◌, List, ◌++◌, length, drop}
use Rattle.std.proofs.Common.{ap, ap₂, ◌∙◌, arith, slice_index_or, slice_set}
use Rattle.std.proofs.lemmas.List.{append-nil, drop_all}
use Rattle.std.proofs.Math.Seq.{paste}
use Rattle.std.proofs.lemmas.List.Edits.{paste_none, paste_more, paste_all}
use Rattle.joguyvi_rows.proofs.row_buffers.put_all.Goals as goal

-- One more of the list copied.
turn : {X : Type 0} (before list : List X) (k : ℕ) {now : List X} {x : X} → now ≡ paste before 0 list k → x ≡ slice_index_or list k x
    → k < length list → length before ≡ length list → slice_set now k x ≡ paste before 0 list (k + 1)
turn before list k {now} {x} is at l size =
    let same : k ≡ 0 + k = omega arith in
    ap (λ a. slice_set a k x) is ∙ ap₂ (slice_set (paste before 0 list k)) same at ∙ paste_more before 0 list k x (omega arith) l

-- All of it copied.
whole : {X : Type 0} (before list : List X) (k : ℕ) {now : List X} → now ≡ paste before 0 list k → length before ≤ k → k ≤ length before → length before ≡ length list → now ≡ list
whole before list k {now} is most least size =
    let all : now ≡ list ++ drop (0 + k) before = is ∙ paste_all before 0 list k (omega arith) in
    all ∙ ap (λ rest. list ++ rest) (drop_all (0 + k) before (omega arith)) ∙ append-nil list

pub loop-k-init : goal.loop-k-init
loop-k-init g c = paste_none c.args.out.now 0 c.args.list.now

pub loop-k-preserved : goal.loop-k-preserved
loop-k-preserved g c = turn c.args.out.now c.args.list.now c.loop-k.k c.loop-k.invariant c.index-list-k.is (omega (arith, c.loop-k-test.true, c.requires)) c.requires

pub returns : goal.returns
returns g c = whole c.args.out.now c.args.list.now c.loop-k.k c.loop-k.invariant c.loop-k-test.false c.loop-k.auto.k-end c.requires
