-- The parts of a record: how long they are, and that laid one by one they make the whole. Over any layout.
use Prim.Native.Nat.{ℕ, ◌+◌, ◌*◌, ◌≤◌, ◌<◌}
use Rattle.std.specs.Prelude.{◌≡◌}
use Rattle.std.proofs.Math.Path.{ap}
use Rattle.std.proofs.Common.{◌∙◌, arith}
use mathlib.Core.List.{List, [], ◌∷◌, ◌++◌}
use Rattle.std.proofs.Math.ListN.{length, get_or, drop, length-append, get_or-append}
use Rattle.std.proofs.lemmas.List.Edits.{sets}
use Rattle.std.proofs.Math.Seq.{get_or-append-add}
use Rattle.scheme.specs.declared.Scheme.{Scheme}
use Rattle.scheme.specs.Access.{CELL_STRIDE, rule_at, premium_at, lower_at, upper_at}
use Rattle.big_endian_spec.specs.Numbers.{be_bytes}
use Rattle.record_spec.specs.Joined.{joined}
use Rattle.record_spec.specs.Write.{record_of, record_length}
use Rattle.scheme.specs.Tables.{tab}
use Rattle.record_spec.specs.Layout.{Layout, HEADER, layout_of, header_length, length_of, BAND_WIDTH}
use Rattle.record_spec.specs.Bytes.{band_bytes, header_bytes, header_of, rules_of, bands_of, premiums_of, bytes_of}
use Rattle.scheme.proofs.Laws.Tab.{length_tab, get_d_tab}
use Rattle.record_write.specs.Laws.Lists.{length_joined, sets_4}
use Rattle.record.specs.Laws.Lists.{sets_front}
use Rattle.big_endian_spec.proofs.Laws.{length_be_bytes}
use Rattle.record_write.specs.Laws.Numbers.{length_band}

module _ (y : Layout) (s : Scheme) where
  pub length_header : length (header_of y s) ≡ header_length y
  unfolding header_bytes be_bytes
  length_header = omega (arith, length_tab y.further (y.holds s.columns))

  -- A further byte of the header, whatever follows it.
  pub further_at : (rest : List ℕ) (k : ℕ) → k < y.further → get_or (header_of y s ++ rest) (HEADER + k) 0 ≡ y.holds s.columns k
  unfolding header_bytes be_bytes
  further_at rest k l =
      let bytes : List ℕ = tab y.further (y.holds s.columns) in
      get_or-append-add (y.version ∷ get_or (header_of y s) 1 0 ∷ get_or (header_of y s) 2 0 ∷ s.classes ∷ s.columns ∷ s.start ∷ s.horizon ∷ []) (bytes ++ rest) k 0
      ∙ get_or-append bytes rest 0 k (omega (arith, length_tab y.further (y.holds s.columns)))
      ∙ get_d_tab y.further (y.holds s.columns) k 0 l

  pub length_rules : length (rules_of s) ≡ s.classes * s.columns
  length_rules = length_joined s.columns s.classes _ (λ i lt. length_tab s.columns (rule_at s i))

  pub length_bands : (i : ℕ) → length (bands_of s i) ≡ s.columns * BAND_WIDTH
  length_bands i = length_joined BAND_WIDTH s.columns _ (λ k lt. length_band (lower_at s i k) (upper_at s i k))

  pub length_premiums : length (premiums_of y s) ≡ s.classes * y.width
  length_premiums = length_joined y.width s.classes _ (λ i lt. length_be_bytes y.width (premium_at s i))

  -- The record is as long as the formula says.
  pub length_bytes : length (bytes_of y s) ≡ length_of y s.classes s.columns
  unfolding bytes_of
  length_bytes =
      let whole : length (bytes_of y s) ≡ length (header_of y s) + length (rules_of s) + length (bands_of s 0) + length (premiums_of y s) = simp length-append in
      omega (arith, whole, length_header, length_rules, length_bands 0, length_premiums)

  -- The parts laid one by one, each where the last one ends.
  pub laid : (l : List ℕ) → length_of y s.classes s.columns ≤ length l
      → sets (sets (sets (sets l 0 (header_of y s)) (header_length y) (rules_of s)) (header_length y + s.classes * s.columns) (bands_of s 0))
      (header_length y + s.classes * s.columns + s.columns * BAND_WIDTH) (premiums_of y s)
      ≡ bytes_of y s ++ drop (length_of y s.classes s.columns) l
  unfolding bytes_of
  laid l fits =
      sets_4 l (header_of y s) (rules_of s) (bands_of s 0) (premiums_of y s) (header_length y) _ _ length_header (ap (λ n. header_length y + n) length_rules)
      (ap (λ n. header_length y + s.classes * s.columns + n) (length_bands 0))
      ∙ sets_front l (bytes_of y s) (omega (arith, length_bytes))
      ∙ ap (λ n. bytes_of y s ++ drop n l) length_bytes

-- What the writer lays, in its own terms.
pub wrote : (s : Scheme) (version : ℕ) (l : List ℕ) {size header width : ℕ} {h r m p : List ℕ} → size ≡ record_length s version → size ≤ length l
    → header ≡ header_length (layout_of version) → width ≡ (layout_of version).width
    → h ≡ sets l 0 (header_bytes (layout_of version) size s.classes s.columns s.start s.horizon)
    → r ≡ sets h header (joined s.classes (λ i. tab s.columns (λ k. get_or s.rules (i * CELL_STRIDE + k) 0)))
    → m ≡ sets r (header + s.classes * s.columns) (joined s.columns (λ k. band_bytes (get_or s.lowers k 0) (get_or s.uppers k 0)))
    → p ≡ sets m (header + s.classes * s.columns + s.columns * BAND_WIDTH) (joined s.classes (λ i. be_bytes width (get_or s.premiums i 0)))
    → p ≡ record_of s version ++ drop size l
wrote s version l es fits at-rules wide eh er em ep = rw (ep, em, er, eh, es, at-rules, wide) (laid (layout_of version) s l (rw es at fits))
