-- `parts::whole` meets its contract: each part is laid where the last one ends.
use Prim.Native.Nat.{ℕ, ◌+◌, ◌*◌, ◌≤◌}
use mathlib.Core.Path.{◌≡◌, ap, sym, ◌∙◌}
use mathlib.Core.List.{List, ◌++◌}
use native.Mathlib.Omega.{arith}
use borrow.Author.Rules.{rules}
use lib.ListN.{length, get_or, take}
use lib.Seq.{sets, drop-length}
use Rattle.std.proofs.lemmas.List.{append-nil}
use Rattle.scheme.specs.declared.Scheme.{Scheme}
use Rattle.scheme.specs.Access.{premium_at}
use Rattle.big_endian_spec.specs.Numbers.{be_bytes}
use Rattle.record_spec.specs.Joined.{joined}
use Rattle.record_spec.specs.Bytes.{header_bytes, header_of, rules_of, bands_of}
use Rattle.record_spec.specs.Write.{record_of, record_length}
use Rattle.record_spec.specs.Layout.{BAND_WIDTH, layout_of, header_length}
use Rattle.record_write.specs.Laws.Lists.{joined_take}
use Rattle.record_write.specs.Laws.Bytes.{wrote}
use Rattle.record_write.proofs.parts.whole.Goals as goal

-- What is laid by the counts that were read, into a slice of the record's length.
laid : (scheme : Scheme) (version : ℕ) (out : List ℕ) {s m header width : ℕ} {headed ruled banded whole : List ℕ} → s ≡ scheme.classes → m ≡ scheme.columns
    → length out ≡ record_length scheme version → s ≤ length scheme.premiums → header ≡ header_length (layout_of version) → width ≡ (layout_of version).width
    → headed ≡ sets out 0 (header_of (layout_of version) scheme)
    → ruled ≡ sets headed header (rules_of scheme)
    → banded ≡ sets ruled (header + s * m) (bands_of scheme 0)
    → whole ≡ sets banded (header + s * m + m * BAND_WIDTH) (joined (length (take s scheme.premiums)) (λ i. be_bytes width (get_or (take s scheme.premiums) i 0)))
    → whole ≡ record_of scheme version
laid scheme version out {s} {m} {header} {width} {headed} {ruled} {banded} {whole} rows columns is few at-rules wide h r b p =
    let headed-by-length : headed ≡ sets out 0 (header_bytes (layout_of version) (length out) scheme.classes scheme.columns scheme.start scheme.horizon) =
    h ∙ ap (λ n. sets out 0 (header_bytes (layout_of version) n scheme.classes scheme.columns scheme.start scheme.horizon)) (sym is)
    in
    let last : whole ≡ sets banded (header + s * m + m * BAND_WIDTH) (joined s (λ i. be_bytes width (premium_at scheme i))) =
    p ∙ ap (λ l. sets banded (header + s * m + m * BAND_WIDTH) l) (joined_take s (be_bytes width) scheme.premiums few)
    in
    wrote scheme version out is (omega arith) at-rules wide headed-by-length r (rw (rows, columns) at b) (rw (rows, columns) at last)
    ∙ ap (λ l. record_of scheme version ++ l) (drop-length out)
    ∙ append-nil (record_of scheme version)

pub returns : goal.returns
returns c =
    laid c.args.scheme c.args.version c.args.out.now c.from-s.ensures c.from-m.ensures c.requires.2 (search rules)
    c.header_length-header_length.ensures c.premium_width-width.ensures
    c.header.ensures c.rules.ensures c.bands.ensures c.premiums.ensures
