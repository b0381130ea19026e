-- `parts::header` meets its contract: the bytes in order, seven in version 1 and eight in version 2.
use Prim.Native.Nat.{ℕ, ◌≤◌}
use mathlib.Core.Path.{◌≡◌, ap, sym, ◌∙◌, subst}
use mathlib.Core.List.{List}
use native.Mathlib.Omega.{arith}
use Rattle.record_spec.specs.Layout.{layout_of}
use Rattle.record_spec.specs.Bytes.{header_bytes}
use Rattle.record_spec.proofs.Laws.Layout.{length_most, version_first}
use lib.ListN.{length, set, length-set}
use lib.Seq.{sets}
use Rattle.big_endian_spec.specs.Numbers.{be_bytes}
use Rattle.big_endian_spec.proofs.Laws.{put_held}
use Rattle.record_write.specs.Laws.Numbers.{put_header, put_label_header}
use Rattle.record_write.proofs.parts.header.Goals as goal

pub overflow_cast-size : goal.overflow_cast-size
overflow_cast-size c =
    let small : length c.args.out.now ≤ 455 = subst (λ n. n ≤ 455) (sym c.requires.2) (length_most c.args.version c.requires.0.classes c.requires.0.columns) in
    omega (arith, small)

pub returns-then-version-eq2 : goal.returns-then-version-eq2
returns-then-version-eq2 c =
    let out : List ℕ = c.args.out.now in
    let s = c.args.scheme.now in
    let laid : c.put_number.new.out ≡ sets (set out 0 c.args.version) 1 (be_bytes 2 (length out)) = c.put_number.ensures ∙ put_held 2 _ _ _ (simp length-set (omega arith)) in
    rw laid (put_label_header _ _ _ _ _ _ c.if-version-eq2.true)
    ∙ ap (λ n. sets out 0 (header_bytes (layout_of c.args.version) n s.classes s.columns s.start s.horizon)) c.requires.2

pub returns-else-version-eq2 : goal.returns-else-version-eq2
returns-else-version-eq2 c =
    let out : List ℕ = c.args.out.now in
    let s = c.args.scheme.now in
    let laid : c.put_number.new.out ≡ sets (set out 0 c.args.version) 1 (be_bytes 2 (length out)) = c.put_number.ensures ∙ put_held 2 _ _ _ (simp length-set (omega arith)) in
    rw laid (put_header _ _ _ _ _ _ (version_first c.args.version c.requires.1 c.if-version-eq2.false))
    ∙ ap (λ n. sets out 0 (header_bytes (layout_of c.args.version) n s.classes s.columns s.start s.horizon)) c.requires.2
