-- `write` meets its contract: the version's cause, the scheme's, the slice's, or the record.
use Rattle.std.specs.Prelude.{ℕ, ◌+◌, ◌<◌, ◌≡◌, false, List, length, take}
use Rattle.std.proofs.Common.{ap, sym, ◌∙◌, arith, length-take-le}
use borrow.Author.Tests.{lt-leb}
use Rattle.scheme.proofs.Laws.Judged.{accepted_cause}
use Rattle.scheme.proofs.Laws.Number.{cause_some, passed_whole}
use Rattle.big_endian_spec.specs.Numbers.{number_put}
use Rattle.big_endian_spec.proofs.Laws.{put_none}
use Rattle.record_spec.specs.Layout.{other_version, layout_of}
use Rattle.record_spec.specs.Write.{write_answer_of}
use Rattle.record_spec.proofs.Laws.Layout.{of_both}
use Rattle.record_write.specs.Agreement.{keeps}
use Rattle.record_write.specs.Laws.Write.{declined, by_version, by_scheme, by_slice, written}
use Rattle.record_write.proofs.write.Goals as goal

-- The code puts nothing past its record and needs neither of these two laws: by them a wrong version that puts a premium there is refused for the room it finds.
-- A number for which there is no room leaves the bytes.
no_room : (width : ℕ) (bytes : List ℕ) (place x : ℕ) → length bytes < place + width → number_put width bytes place x ≡ bytes
no_room width bytes place x short = sym (put_none width bytes place x (lt-leb (place + width) (length bytes) short))

-- A premium has some bytes, so that there is no room for it at the slice's end.
some_width : (v : ℕ) → 0 < (layout_of v).width
some_width = of_both (λ y. 0 < y.width) (omega arith) (omega arith)

pub returns-then-other_version : goal.returns-then-other_version
returns-then-other_version c =
    let a = c.args in
    let all = keeps a.scheme a.version a.out.now
    (declined _ _ _ (by_version a.scheme a.version a.out.now (sym c.other_version.ensures ∙ c.if-other_version.true)) (λ e. omega arith)) in
    record { answer = all.0; leaves = all.1.0; promise = all.1.1 }

pub returns-in_err-check : goal.returns-in_err-check
returns-in_err-check c =
    let a = c.args in
    let known : other_version a.version ≡ false = sym c.other_version.ensures ∙ c.if-other_version.false in
    let none = declined _ _ _ (by_scheme a.scheme a.version a.out.now known c.in_err-check.ensures (cause_some _)) (cause_some _) in
    let all = keeps a.scheme a.version a.out.now (ap write_answer_of (passed_whole _ _ c.from_residual.ensures) ∙ none.0, none.1) in
    record { answer = all.0; leaves = all.1.0; promise = all.1.1 }

pub returns-then-out-size : goal.returns-then-out-size
returns-then-out-size c =
    let a = c.args in
    let known : other_version a.version ≡ false = sym c.other_version.ensures ∙ c.if-other_version.false in
    let all = keeps a.scheme a.version a.out.now
    (declined _ _ _
    (by_slice a.scheme a.version a.out.now known (sym c.in_ok-check.ensures) (rw (← c.length_of-size.ensures) c.if-out-size.true)) (λ e. omega arith)) in
    record { answer = all.0; leaves = all.1.0; promise = all.1.1 }

pub whole-requires : goal.whole-requires
whole-requires c =
    let cut : length (take c.length_of-size.result c.args.out.now) ≡ c.length_of-size.result = length-take-le c.length_of-size.result c.args.out.now (omega arith) in
    ((accepted_cause _ (sym c.in_ok-check.ensures)).size, sym c.other_version.ensures ∙ c.if-other_version.false, cut ∙ c.length_of-size.ensures)

pub returns : goal.returns
returns c =
    let a = c.args in
    let known : other_version a.version ≡ false = sym c.other_version.ensures ∙ c.if-other_version.false in
    let all = keeps a.scheme a.version a.out.now
    (written a.scheme a.version a.out.now known (sym c.in_ok-check.ensures) c.length_of-size.ensures (omega arith) (grind (arith, no_room, some_width))) in
    record { answer = all.0; leaves = all.1.0; promise = all.1.1 }
