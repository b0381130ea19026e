-- The rules, bands and premiums of a record agree with those of the scheme, both ways, over any layout: any header, any width of a premium.
use Prim.Native.Nat.{ℕ, ◌+◌, ◌*◌, ◌^◌, ◌≤◌, ◌<◌}
use Rattle.std.specs.Prelude.{◌≡◌, List, ◌++◌, length, get_or}
use Rattle.std.proofs.Math.Path.{ap, sym}
use Rattle.std.proofs.Common.{ap₂, ◌∙◌, arith, mul-le-mul_right, add_assoc, length-drop, take-add, get_or-append-add}
use Rattle.std.proofs.Math.ListN.{take, drop, get_or-append}
use Rattle.std.proofs.Math.Seq.{drop-drop, take_all}
use Rattle.scheme.specs.declared.Scheme.{Scheme}
use Rattle.scheme.specs.Tables.{tab}
use Rattle.scheme.specs.Access.{rule_at, premium_at, lower_at, upper_at}
use Rattle.scheme.proofs.Laws.Tab.{length_tab, get_d_tab, tab_eq}
use Rattle.big_endian_spec.specs.Numbers.{be_at, be_bytes}
use Rattle.record_spec.specs.Joined.{joined}
use Rattle.scheme.specs.Stored.{scheme_of}
use Rattle.record_spec.specs.Layout.{Layout, header_length, length_of, row_place, band_place, premium_place, scheme_from, END_WIDTH, BAND_WIDTH}
use Rattle.record_spec.specs.Bytes.{band_bytes, rules_of, bands_of, premiums_of}
use Rattle.record_write.specs.Laws.Lists.{tab_part, joined_parts, get_d_joined}
use Rattle.record_spec.proofs.Laws.Joined.{joined_eq}
use Rattle.big_endian_spec.proofs.Laws.{put_read, read_put, be_at_eq, length_be_bytes}
use Rattle.record_write.specs.Laws.Numbers.{length_band}
use Rattle.scheme.proofs.Laws.Stored.{rule_made, lower_made, upper_made, premium_made}
use Rattle.record_write.specs.Laws.Bytes.{length_rules, length_bands}

-- An index below s among s lists of w entries.
within : (s w i k : ℕ) → i < s → k < w → i * w + k < s * w
within s w i k is ks = omega (arith, mul-le-mul_right w is)

-- Put after read: the body of the scheme that was read is the bytes past the header.
module _ (y : Layout) (bytes : List ℕ) (s m : ℕ) (small : (k : ℕ) → get_or bytes k 0 < 256) (most : s ≤ 32) (few : m ≤ 8)
    (whole : length bytes ≡ length_of y s m) where
  abbrev found : Scheme
  found = scheme_from y bytes s m

  rules_put : joined s (λ i. tab m (rule_at found i)) ≡ take (s * m) (drop (header_length y) bytes)
  rules_put =
      joined_eq s _ (λ i. take m (drop (row_place y m i) bytes))
      (λ i is.
      tab_eq 0 m (rule_at found i) (λ k. get_or bytes (row_place y m i + k) 0) (λ k ks. rule_made _ _ _ _ _ _ _ _ i k most few is ks)
      ∙ tab_part m (row_place y m i) bytes (omega (arith, mul-le-mul_right m is)))
      ∙ joined_parts m (header_length y) s bytes

  band_put : (k : ℕ) → k < m → band_bytes (lower_at found 0 k) (upper_at found 0 k) ≡ take BAND_WIDTH (drop (band_place y s m k) bytes)
  band_put k ks =
      let at : ℕ = band_place y s m k in
      let lower : lower_at found 0 k ≡ be_at END_WIDTH bytes at = lower_made _ _ _ _ _ _ _ _ 0 k few ks in
      let upper : upper_at found 0 k ≡ be_at END_WIDTH bytes (at + END_WIDTH) = upper_made _ _ _ _ _ _ _ _ 0 k few ks in
      ap₂ (λ a b. band_bytes a b) lower upper
      ∙ ap₂ (λ a b. a ++ b) (put_read 4 bytes at (omega arith) small) (put_read 4 bytes (at + END_WIDTH) (omega arith) small)
      ∙ sym (take-add 4 4 (drop at bytes) ∙ ap (λ l. take 4 (drop at bytes) ++ take 4 l) (drop-drop 4 at bytes))

  bands_put : joined m (λ k. band_bytes (lower_at found 0 k) (upper_at found 0 k)) ≡ take (m * BAND_WIDTH) (drop (header_length y + s * m) bytes)
  bands_put = joined_eq m _ (λ k. take BAND_WIDTH (drop (band_place y s m k) bytes)) band_put ∙ joined_parts BAND_WIDTH (header_length y + s * m) m bytes

  premiums_put : joined s (λ i. be_bytes y.width (premium_at found i)) ≡ take (s * y.width) (drop (header_length y + s * m + m * BAND_WIDTH) bytes)
  premiums_put =
      joined_eq s _ (λ i. take y.width (drop (premium_place y s m i) bytes))
      (λ i is.
      ap (be_bytes y.width) (premium_made _ _ _ _ _ _ _ _ i most is)
      ∙ put_read y.width bytes (premium_place y s m i) (omega (arith, mul-le-mul_right y.width is)) small)
      ∙ joined_parts y.width (header_length y + s * m + m * BAND_WIDTH) s bytes

  pub body_put : rules_of found ++ bands_of found 0 ++ premiums_of y found ≡ drop (header_length y) bytes
  unfolding scheme_of
  body_put =
      let h : ℕ = header_length y in
      let two : take (s * m) (drop h bytes) ++ take (m * BAND_WIDTH) (drop (h + s * m) bytes) ≡ take (s * m + m * BAND_WIDTH) (drop h bytes) =
      sym (take-add (s * m) (m * BAND_WIDTH) (drop h bytes) ∙ ap (λ l. take (s * m) (drop h bytes) ++ take (m * BAND_WIDTH) l) (drop-drop (s * m) h bytes))
      in
      let rest : drop (s * m + m * BAND_WIDTH) (drop h bytes) ≡ drop (h + s * m + m * BAND_WIDTH) bytes =
      drop-drop (s * m + m * BAND_WIDTH) h bytes ∙ ap (λ n. drop n bytes) (sym (add_assoc h (s * m) (m * BAND_WIDTH)))
      in
      let three : take (s * m + m * BAND_WIDTH) (drop h bytes) ++ take (s * y.width) (drop (h + s * m + m * BAND_WIDTH) bytes) ≡ take (s * m + m * BAND_WIDTH + s * y.width) (drop h bytes) =
      sym (take-add (s * m + m * BAND_WIDTH) (s * y.width) (drop h bytes) ∙ ap (λ l. take (s * m + m * BAND_WIDTH) (drop h bytes) ++ take (s * y.width) l) rest)
      in
      let size : ℕ = s * m + m * BAND_WIDTH + s * y.width in
      let all : take size (drop h bytes) ≡ drop h bytes = take_all size (drop h bytes) (rw (length-drop h bytes) (omega arith)) in
      rw (rules_put, bands_put, premiums_put, two, three, all)

-- Read after put: behind any header, the values of the scheme stand where the layout says, with the bands of class c + 1.
module _ (y : Layout) (s : Scheme) (c : ℕ) (front : List ℕ) (size : length front ≡ header_length y) where
  abbrev laid_out : List ℕ
  laid_out = front ++ (rules_of s ++ (bands_of s c ++ premiums_of y s))

  behind : (p : ℕ) → get_or laid_out (header_length y + p) 0 ≡ get_or (rules_of s ++ (bands_of s c ++ premiums_of y s)) p 0
  behind p = ap (λ n. get_or laid_out (n + p) 0) (sym size) ∙ get_or-append-add front _ p 0

  pub rule_read : (i k : ℕ) → i < s.classes → k < s.columns → get_or laid_out (row_place y s.columns i + k) 0 ≡ rule_at s i k
  rule_read i k is ks =
      let m : ℕ = s.columns in
      ap (λ n. get_or laid_out n 0) (add_assoc (header_length y) (i * m) k) ∙ behind (i * m + k)
      ∙ get_or-append (rules_of s) _ 0 (i * m + k) (omega (arith, length_rules y s, within s.classes m i k is ks))
      ∙ get_d_joined m s.classes (λ j. tab m (rule_at s j)) (λ j lt. length_tab m (rule_at s j)) i k is ks
      ∙ get_d_tab m (rule_at s i) k 0 ks

  past_rules : (p : ℕ) → get_or laid_out (header_length y + s.classes * s.columns + p) 0 ≡ get_or (bands_of s c ++ premiums_of y s) p 0
  past_rules p =
      let n : ℕ = s.classes * s.columns in
      let e : n + p ≡ length (rules_of s) + p = ap (λ k. k + p) (sym (length_rules y s)) in
      ap (λ q. get_or laid_out q 0) (add_assoc (header_length y) n p) ∙ behind (n + p)
      ∙ rw e (get_or-append-add (rules_of s) (bands_of s c ++ premiums_of y s) p 0)

  -- Byte j of the band of column k.
  band_byte : (k j : ℕ) → k < s.columns → j < BAND_WIDTH
      → get_or laid_out (band_place y s.classes s.columns k + j) 0 ≡ get_or (band_bytes (lower_at s c k) (upper_at s c k)) j 0
  band_byte k j ks js =
      let from : ℕ = header_length y + s.classes * s.columns in
      ap (λ q. get_or laid_out q 0) (add_assoc from (k * BAND_WIDTH) j) ∙ past_rules (k * BAND_WIDTH + j)
      ∙ get_or-append (bands_of s c) _ 0 (k * BAND_WIDTH + j) (omega (arith, length_bands y s c, within s.columns BAND_WIDTH k j ks js))
      ∙ get_d_joined BAND_WIDTH s.columns (λ q. band_bytes (lower_at s c q) (upper_at s c q)) (λ q lt. length_band (lower_at s c q) (upper_at s c q)) k j ks js

  pub lower_read : (k : ℕ) → k < s.columns → lower_at s c k < 256 ^ END_WIDTH → be_at END_WIDTH laid_out (band_place y s.classes s.columns k) ≡ lower_at s c k
  lower_read k ks fits =
      let low : List ℕ = be_bytes END_WIDTH (lower_at s c k) in
      be_at_eq 4 laid_out (band_place y s.classes s.columns k) low 0
      (λ j js.
      band_byte k j ks (omega arith)
      ∙ get_or-append low _ 0 j (omega (arith, length_be_bytes END_WIDTH (lower_at s c k)))
      ∙ ap (λ n. get_or low n 0) (zero_plus j))
      ∙ read_put 4 (lower_at s c k) fits
    where
      zero_plus : (j : ℕ) → j ≡ 0 + j
      zero_plus j = omega arith

  pub upper_read : (k : ℕ) → k < s.columns → upper_at s c k < 256 ^ END_WIDTH → be_at END_WIDTH laid_out (band_place y s.classes s.columns k + END_WIDTH) ≡ upper_at s c k
  upper_read k ks fits =
      let low : List ℕ = be_bytes END_WIDTH (lower_at s c k) in
      let high : List ℕ = be_bytes END_WIDTH (upper_at s c k) in
      let from : ℕ = band_place y s.classes s.columns k in
      be_at_eq 4 laid_out (from + END_WIDTH) high 0
      (λ j js.
      ap (λ q. get_or laid_out q 0) (add_assoc from 4 j) ∙ band_byte k (4 + j) ks (omega arith)
      ∙ ap (λ n. get_or (low ++ high) n 0) (past j)
      ∙ get_or-append-add low high (0 + j) 0)
      ∙ read_put 4 (upper_at s c k) fits
    where
      past : (j : ℕ) → 4 + j ≡ length (be_bytes END_WIDTH (lower_at s c k)) + (0 + j)
      past j = omega (arith, length_be_bytes END_WIDTH (lower_at s c k))

  pub premium_read : (i : ℕ) → i < s.classes → premium_at s i < 256 ^ y.width
      → be_at y.width laid_out (premium_place y s.classes s.columns i) ≡ premium_at s i
  premium_read i is fits =
      be_at_eq w laid_out (premium_place y s.classes s.columns i) (be_bytes w (premium_at s i)) 0
      (λ j js.
      ap (λ q. get_or laid_out q 0) (place j) ∙ past_rules (m * BAND_WIDTH + (i * w + j))
      ∙ ap (λ n. get_or (bands_of s c ++ premiums_of y s) n 0) (after j)
      ∙ get_or-append-add (bands_of s c) (premiums_of y s) (i * w + j) 0
      ∙ get_d_joined w s.classes (λ q. be_bytes w (premium_at s q)) (λ q lt. length_be_bytes w (premium_at s q)) i j is js
      ∙ ap (λ n. get_or (be_bytes w (premium_at s i)) n 0) (zero_plus j))
      ∙ read_put w (premium_at s i) fits
    where
      w : ℕ
      w = y.width

      m : ℕ
      m = s.columns

      zero_plus : (j : ℕ) → j ≡ 0 + j
      zero_plus j = omega arith

      place : (j : ℕ) → premium_place y s.classes m i + j ≡ header_length y + s.classes * m + (m * BAND_WIDTH + (i * w + j))
      place j = omega arith

      after : (j : ℕ) → m * BAND_WIDTH + (i * w + j) ≡ length (bands_of s c) + (i * w + j)
      after j = omega (arith, length_bands y s c)
