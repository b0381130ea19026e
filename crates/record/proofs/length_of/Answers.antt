-- `length_of` meets its contract: each part is small, so that the sum fits.
use Prim.Native.Nat.{ℕ, ◌*◌, ◌≤◌, ◌<◌}
use mathlib.Core.Path.{◌≡◌}
use native.Mathlib.Omega.{arith}
use native.Mathlib.Nat.{mul-le-mul}
use Rattle.record_spec.specs.Layout.{layout_of, header_length}
use Rattle.record_spec.proofs.Laws.Layout.{further_most, width_most}
use Rattle.record.proofs.length_of.Goals as goal

-- What the parts come to at most.
small : (version : ℕ) {classes columns s m header width : ℕ} → classes < 256 → columns < 256 → s ≡ classes → m ≡ columns
    → header ≡ header_length (layout_of version) → width ≡ (layout_of version).width → (s * m ≤ 255 * 255) × (m ≤ 255) × (header ≤ 8) × (width * s ≤ 4 * 255)
small version {s = s} {m} {header} {width} few narrow rows columns front wide =
    let most : s ≤ 255 = omega arith in
    let many : m ≤ 255 = omega arith in
    let thin : width ≤ 4 = omega (arith, width_most version) in
    (mul-le-mul most many, many, omega (arith, further_most version), mul-le-mul thin most)

pub overflow_add-result : goal.overflow_add-result
overflow_add-result c =
    omega (arith, small c.args.version (omega arith) (omega arith) c.from-s.ensures c.from-m.ensures c.header_length-header.ensures c.premium_width-width.ensures)

pub overflow_add-result-2 : goal.overflow_add-result-2
overflow_add-result-2 c =
    omega (arith, small c.args.version (omega arith) (omega arith) c.from-s.ensures c.from-m.ensures c.header_length-header.ensures c.premium_width-width.ensures)

pub overflow_mul-result-3 : goal.overflow_mul-result-3
overflow_mul-result-3 c =
    omega (arith, small c.args.version (omega arith) (omega arith) c.from-s.ensures c.from-m.ensures c.header_length-header.ensures c.premium_width-width.ensures)

pub overflow_add-result-3 : goal.overflow_add-result-3
overflow_add-result-3 c =
    omega (arith, small c.args.version (omega arith) (omega arith) c.from-s.ensures c.from-m.ensures c.header_length-header.ensures c.premium_width-width.ensures)
