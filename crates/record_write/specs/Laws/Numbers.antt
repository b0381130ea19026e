-- The bytes of a band and of the header, put one after another.
use Rattle.std.specs.Prelude.{ℕ, ◌+◌, ◌-◌, ◌≤◌, ◌≡◌, List, length, set}
use Rattle.std.proofs.Common.{arith, length-append}
use Rattle.std.proofs.lemmas.List.Edits.{sets}
use Rattle.std.proofs.Math.Seq.{length-sets}
use Rattle.big_endian_spec.specs.Numbers.{be_bytes, number_put}
use Rattle.scheme.specs.Tables.{tab}
use Rattle.record_spec.specs.Layout.{layout_of, END_WIDTH, BAND_WIDTH}
use Rattle.record_spec.specs.Bytes.{band_bytes, header_bytes}
use Rattle.big_endian_spec.proofs.Laws.{sets_append, length_be_bytes, put_held}

pub length_band : (lower upper : ℕ) → length (band_bytes lower upper) ≡ BAND_WIDTH
length_band lower upper = omega (arith, length-append (be_bytes END_WIDTH lower) (be_bytes END_WIDTH upper), length_be_bytes END_WIDTH lower, length_be_bytes END_WIDTH upper)

pub put_band : (l : List ℕ) (p lower upper : ℕ) → p + BAND_WIDTH ≤ length l → number_put END_WIDTH (number_put END_WIDTH l p lower) (p + END_WIDTH) upper ≡ sets l p (band_bytes lower upper)
put_band l p lower upper fits =
    let low : number_put END_WIDTH l p lower ≡ sets l p (be_bytes END_WIDTH lower) = put_held END_WIDTH l p lower (omega arith) in
    let high : number_put END_WIDTH (sets l p (be_bytes END_WIDTH lower)) (p + END_WIDTH) upper ≡ sets (sets l p (be_bytes END_WIDTH lower)) (p + END_WIDTH) (be_bytes END_WIDTH upper) =
    put_held END_WIDTH (sets l p (be_bytes END_WIDTH lower)) (p + END_WIDTH) upper (rw (length-sets l p (be_bytes END_WIDTH lower)) (omega arith))
    in
    let next : p + END_WIDTH ≡ p + length (be_bytes END_WIDTH lower) = omega (arith, length_be_bytes END_WIDTH lower) in
    rw (low, high, next) (sets_append l p (be_bytes END_WIDTH lower) (be_bytes END_WIDTH upper))

-- The header's bytes, one by one, in version 1 and in version 2.
module _ (l : List ℕ) (size s m start horizon : ℕ) {version : ℕ} where
  pub put_header : version ≡ 1
      → set (set (set (set (sets (set l 0 version) 1 (be_bytes 2 size)) 3 s) 4 m) 5 start) 6 horizon ≡ sets l 0 (header_bytes (layout_of version) size s m start horizon)
  unfolding layout_of header_bytes be_bytes tab
  put_header one = rw one

  pub put_label_header : version ≡ 2
      → set (set (set (set (set (sets (set l 0 version) 1 (be_bytes 2 size)) 3 s) 4 m) 5 start) 6 horizon) 7 (m - 1)
      ≡ sets l 0 (header_bytes (layout_of version) size s m start horizon)
  unfolding layout_of header_bytes be_bytes tab
  put_label_header two = rw two
