-- `reading::parsed` meets its contract: the parts stand where the layout says.
use Prim.Native.Nat.{ℕ, ◌+◌, ◌*◌, ◌≤◌}
use mathlib.Core.Path.{◌≡◌, ap}
use mathlib.Core.List.{List}
use native.Mathlib.Omega.{arith}
use native.Mathlib.Nat.{mul-le-mul}
use lib.ListN.{length, get_or, take}
use Rattle.std.specs.Prelude.{replicate}
use Rattle.std.proofs.Common.{length-take-le}
use Rattle.std.proofs.lemmas.List.{length-replicate}
use Rattle.scheme.specs.Access.{CELL_PLACES, BAND_PLACES}
use Rattle.scheme.specs.declared.Scheme.{Scheme}
use Rattle.scheme.specs.Tables.{tab}
use Rattle.big_endian_spec.specs.Numbers.{be_at}
use Rattle.scheme.specs.Stored.{up_to, rules_up_to, scheme_of}
use Rattle.record_spec.specs.Layout.{version_in, layout_of, header_length, classes_in, columns_in, scheme_in, END_WIDTH, BAND_WIDTH}
use Rattle.record_spec.specs.Frame.{Framed}
use Rattle.record_spec.proofs.Laws.Layout.{further_most, width_most}
use Rattle.scheme.proofs.Laws.Tab.{tab_eq}
use Rattle.scheme.proofs.Laws.Stored.{up_to_eq}
use Rattle.record.specs.Laws.Stored.{stored_front}
use Rattle.record.proofs.reading.parsed.Goals as goal

-- An upper end stands behind the lower end.
upper-places : (bytes : List ℕ) (p n : ℕ)
    → tab BAND_PLACES (up_to n (λ k. be_at END_WIDTH bytes (p + END_WIDTH + k * BAND_WIDTH))) ≡ tab BAND_PLACES (up_to n (λ k. be_at END_WIDTH bytes (p + k * BAND_WIDTH + END_WIDTH)))
upper-places bytes p n =
    tab_eq 0 BAND_PLACES _ _ (λ k lt. up_to_eq n _ _ k (λ less. let e : p + END_WIDTH + k * BAND_WIDTH ≡ p + k * BAND_WIDTH + END_WIDTH = omega arith in ap (be_at END_WIDTH bytes) e))

-- The scheme of the parts that were read.
made : (bytes : List ℕ) {s m version header width : ℕ} {rules lowers uppers premiums : List ℕ} → s ≡ classes_in bytes → m ≡ columns_in bytes → version ≡ version_in bytes
    → header ≡ header_length (layout_of version) → width ≡ (layout_of version).width
    → rules ≡ tab CELL_PLACES (rules_up_to s m (λ i k. get_or bytes (header + i * m + k) 0))
    → lowers ≡ tab BAND_PLACES (up_to m (λ k. be_at END_WIDTH bytes (header + s * m + k * BAND_WIDTH)))
    → uppers ≡ tab BAND_PLACES (up_to m (λ k. be_at END_WIDTH bytes (header + s * m + END_WIDTH + k * BAND_WIDTH)))
    → premiums ≡ tab 32 (up_to s (λ i. be_at width bytes (header + s * m + m * BAND_WIDTH + i * width)))
    → ◌≡◌ {A = Scheme}
    record { classes = classes_in bytes; columns = columns_in bytes; start = get_or bytes 5 0; horizon = get_or bytes 6 0; rules = rules; lowers = lowers; uppers = uppers; premiums = premiums }
    (scheme_in bytes)
unfolding scheme_of
made bytes {s} {m} {header = header} rows columns is h w r l u p = rw (r, l, u, upper-places bytes (header + s * m) m, p, h, w, is, rows, columns)

-- Where the premiums stand, by the record's length.
placed : (bytes : List ℕ) {s m version header width : ℕ} → Framed bytes → s ≡ classes_in bytes → m ≡ columns_in bytes → version ≡ version_in bytes
    → header ≡ header_length (layout_of version) → width ≡ (layout_of version).width
    → (s * m ≤ 32 * 8) × (s ≤ 32) × (header ≤ 8) × (width ≤ 4) × (length bytes ≡ header + s * m + BAND_WIDTH * m + width * s)
placed bytes {version = version} framed rows columns is h w = (
  rw (rows, columns) (mul-le-mul framed.classes framed.columns),
  rw rows framed.classes,
  omega (arith, h, further_most version),
  omega (arith, w, width_most version),
  rw (h, w, is, rows, columns) framed.whole,
)

pub read_numbers-requires-3 : goal.read_numbers-requires-3
read_numbers-requires-3 c =
    let places = placed c.args.bytes.now c.requires c.from-s.ensures c.from-m.ensures c.from-version.ensures c.header_length-header.ensures c.premium_width-width.ensures in
    let lent : length (take c.from-s.result (replicate {A = ℕ} 32 0)) ≡ c.from-s.result = length-take-le c.from-s.result (replicate {A = ℕ} 32 0) (omega (arith, places, length-replicate {A = ℕ} 32 0)) in
    (rw lent (omega (arith, places)), omega (arith, places), omega (arith, places))

pub returns : goal.returns
returns c =
    made c.args.bytes.now c.from-s.ensures c.from-m.ensures c.from-version.ensures
    c.header_length-header.ensures c.premium_width-width.ensures
    c.rules-rules.ensures
    (stored_front BAND_PLACES _ _ _ (omega (arith, c.requires.columns, c.from-m.ensures)) c.read_numbers.ensures)
    (stored_front BAND_PLACES _ _ _ (omega (arith, c.requires.columns, c.from-m.ensures)) c.read_numbers-2.ensures)
    (stored_front 32 _ _ _ (omega (arith, c.requires.classes, c.from-s.ensures)) c.read_numbers-3.ensures)
