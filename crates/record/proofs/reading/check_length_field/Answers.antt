-- `reading::check_length_field` meets its contract.
use mathlib.Core.Path.{◌≡◌, sym, ◌∙◌}
use native.Mathlib.Omega.{arith}
use borrow.Author.Tests.{eq-eqb, ne_eqb, le-ltb}
use Rattle.big_endian_spec.specs.Numbers.{be_at}
use Rattle.big_endian_spec.proofs.Laws.{read_held}
use Rattle.record.proofs.reading.check_length_field.Goals as goal

pub returns-then-number_at-bytes : goal.returns-then-number_at-bytes
returns-then-number_at-bytes c =
    let field : c.number_at.result ≡ be_at 2 c.args.bytes.now 1 = c.number_at.ensures ∙ read_held 2 c.args.bytes.now 1 (omega arith) (omega arith) in
    simp (le-ltb _ _ c.if-bytes-lt-HEADER.false, ← field, ne_eqb _ _ c.if-number_at-bytes.true)

pub returns : goal.returns
returns c =
    let field : c.number_at.result ≡ be_at 2 c.args.bytes.now 1 = c.number_at.ensures ∙ read_held 2 c.args.bytes.now 1 (omega arith) (omega arith) in
    simp (le-ltb _ _ c.if-bytes-lt-HEADER.false, eq-eqb _ _ (sym field ∙ c.if-number_at-bytes.false))
