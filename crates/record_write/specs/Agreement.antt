-- Reading and writing agree both ways (document 01, "Record", and document 02, item 5), over any layout that reading finds by its version, whatever a premium's width.
use Rattle.std.specs.Prelude.{ℕ, ◌+◌, ◌*◌, ◌^◌, ◌≤◌, ◌<◌, ◌≡◌, take, drop, false}
use Rattle.std.proofs.Math.Path.{refl, ap}
use Rattle.std.proofs.Common.{ap₂, sym, ◌∙◌, subst, arith, take-append-drop, take-add, take_at}
use mathlib.Core.List.{List, [], ◌∷◌, ◌++◌, append_assoc}
use Rattle.std.proofs.Math.Nat.{mul-le-mul}
use Rattle.std.proofs.Math.ListN.{length, get_or}
use Rattle.scheme.specs.declared.Scheme.{Scheme}
use Rattle.scheme.specs.Tables.{tab}
use Rattle.scheme.specs.Access.{rule_at, lower_at, upper_at, premium_at}
use Rattle.scheme.specs.Cause.{cause_of}
use Rattle.scheme.specs.Accepted.{Accepted}
use Rattle.scheme.proofs.Laws.Judged.{accepted_cause}
use Rattle.scheme.proofs.Laws.Tab.{tab_eq}
use Rattle.scheme.proofs.Laws.Stored.{made_eq, made_cleared}
use Rattle.scheme.proofs.Laws.Values.{cause_same, cleared_values}
use Rattle.big_endian_spec.specs.Numbers.{Bytes, be_at, be_bytes}
use Rattle.scheme.specs.Stored.{scheme_of, cleared}
use Rattle.record_spec.specs.Write.{WriteAnswer, record_of, record_length, write_cause, write_answer, write_leaves, Reread, WritePromise}
use Rattle.record_spec.specs.Layout.{Layout, HEADER, END_WIDTH, other_version, layout_of, header_length, length_of, row_place, band_place, premium_place, version_in, layout_in, classes_in, columns_in, scheme_from, scheme_in}
use Rattle.record_spec.specs.Bytes.{header_bytes, header_of, rules_of, bands_of, premiums_of, bytes_of}
use Rattle.record_spec.specs.Read.{read_cause, read_answer}
use Rattle.record_spec.specs.Frame.{Framed}
use Rattle.record_write.specs.Laws.Lists.{tab_part}
use Rattle.big_endian_spec.proofs.Laws.{put_read}
use Rattle.record_spec.proofs.Laws.Frame.{framed}
use Rattle.record_spec.proofs.Laws.Read.{read_framed, scheme_none, scheme_next, answer_scheme, read_scheme}
use Rattle.record_spec.proofs.Laws.Layout.{of_both, further_most, width_most, version_told, version_known}
use Rattle.record_write.specs.Laws.Bytes.{length_header, further_at, length_bytes}
use Rattle.record_write.specs.Laws.Write.{written, write_clear, answer_number, answer_value}
use Rattle.record_write.specs.Laws.Body.{body_put, rule_read, lower_read, upper_read, premium_read}

-- A layout that reading finds by its version, with room for every permitted length and premium.
pub record Known (y : Layout) : Type 0 where
  pub found : (bytes : List ℕ) → version_in bytes ≡ y.version → layout_in bytes ≡ y
  pub short : y.further ≤ 255
  pub narrow : y.width ≤ 4
  pub roomy : 10000000 < 256 ^ y.width

-- "3 bytes, which holds every permitted premium, so no cent is lost": so do the bytes of a premium in either version.
pub premium_room : (version : ℕ) → 10000000 < 256 ^ (layout_of version).width
premium_room = of_both (λ y. 10000000 < 256 ^ y.width) (omega arith) (omega arith)

pub premium_fits : (s : Scheme) → cause_of s ≡ 0 → (version i : ℕ) → i < s.classes → premium_at s i < 256 ^ (layout_of version).width
premium_fits s accepted version i l = omega (arith, (accepted_cause s accepted).premiums.within i l, premium_room version)

-- The layout of each version is known.
pub known : (version : ℕ) → other_version version ≡ false → Known (layout_of version)
known version is =
    record {
      found = λ bytes e. ap layout_of (e ∙ sym (version_told version is));
      short = omega (arith, further_most version);
      narrow = width_most version;
      roomy = premium_room version;
    }

-- The header's bytes, put after read.
header_put : (bytes : List ℕ) → Bytes bytes → Framed bytes → header_of (layout_in bytes) (scheme_in bytes) ≡ take (header_length (layout_in bytes)) bytes
unfolding header_bytes scheme_of tab
header_put bytes small f =
    let y : Layout = layout_in bytes in
    let first : (y.version ∷ []) ≡ take 1 bytes = ap (λ x. x ∷ []) (sym f.version) ∙ tab_part 1 0 bytes (omega (arith, f.header)) in
    let field : be_bytes 2 (length_of y (classes_in bytes) (columns_in bytes)) ≡ take 2 (drop 1 bytes) =
    ap (be_bytes 2) (sym (f.field ∙ f.whole)) ∙ put_read 2 bytes 1 (omega (arith, f.header)) small
    in
    let last : (get_or bytes 3 0 ∷ get_or bytes 4 0 ∷ get_or bytes 5 0 ∷ get_or bytes 6 0 ∷ []) ≡ take 4 (drop 3 bytes) = tab_part 4 3 bytes (omega (arith, f.header)) in
    let further : tab y.further (y.holds (columns_in bytes)) ≡ take y.further (drop HEADER bytes) =
    tab_eq 0 y.further (y.holds (columns_in bytes)) (λ k. get_or bytes (HEADER + k) 0) (λ k l. sym (f.further k l)) ∙ tab_part y.further HEADER bytes (omega (arith, f.whole))
    in
    ap₂ (λ a b. a ++ b) (ap₂ (λ a b. a ++ b) (ap₂ (λ a b. a ++ b) first field) last) further
    ∙ sym
    (take-add HEADER y.further bytes
    ∙ ap (λ l. l ++ take y.further (drop HEADER bytes)) (take-add 3 4 bytes ∙ ap (λ l. l ++ take 4 (drop 3 bytes)) (take-add 1 2 bytes)))

-- Bytes without a cause are the record, by their own layout, of the scheme in them.
pub rewritten : (bytes : List ℕ) → Bytes bytes → read_cause bytes ≡ 0 → bytes_of (layout_in bytes) (scheme_in bytes) ≡ bytes
unfolding bytes_of
rewritten bytes small e =
    let f = read_framed bytes e in
    let y : Layout = layout_in bytes in
    let s : Scheme = scheme_in bytes in
    let split : header_of y s ++ rules_of s ++ bands_of s 0 ++ premiums_of y s ≡ header_of y s ++ (rules_of s ++ bands_of s 0 ++ premiums_of y s) = simp append_assoc in
    split
    ∙ ap₂ (λ a b. a ++ b) (header_put bytes small f) (body_put y bytes (classes_in bytes) (columns_in bytes) small f.classes f.columns f.whole)
    ∙ take-append-drop (header_length y) bytes

-- The record of an accepted scheme, by any layout that is known, holds the scheme, with 0 beyond s and m.
module _ {y : Layout} (known : Known y) (s : Scheme) (accepted : cause_of s ≡ 0) where
  ok : Accepted s
  ok = accepted_cause s accepted

  split : bytes_of y s ≡ header_of y s ++ (rules_of s ++ (bands_of s 0 ++ premiums_of y s))
  unfolding bytes_of
  split = simp append_assoc

  -- Its layout is found.
  found : layout_in (bytes_of y s) ≡ y
  unfolding bytes_of header_bytes be_bytes
  found = known.found (bytes_of y s) refl

  record_framed : Framed (bytes_of y s)
  unfolding bytes_of header_bytes be_bytes be_at
  record_framed =
      let most : s.classes * s.columns ≤ 32 * 8 = mul-le-mul ok.size.classes ok.size.columns in
      let money : y.width * s.classes ≤ 4 * 32 = mul-le-mul known.narrow ok.size.classes in
      let size : length (bytes_of y s) ≡ length_of y s.classes s.columns = length_bytes y s in
      record {
        version = ap (λ z. z.version) (sym found);
        header = rw size (omega arith);
        field = rw size (omega (arith, ok.size.classes, ok.size.columns, known.short));
        some_class = ok.size.some_class;
        classes = ok.size.classes;
        some_column = ok.size.some_column;
        columns = ok.size.columns;
        whole = size ∙ ap (λ z. length_of z s.classes s.columns) (sym found);
        further = λ k l. ap (λ b. get_or b (HEADER + k) 0) split ∙ further_at y s _ k (subst (λ z. k < z.further) found l) ∙ ap (λ z. z.holds s.columns k) (sym found);
      }

  -- The values stand where the layout says.
  rule_at_lem : (i k : ℕ) → i < s.classes → k < s.columns → get_or (bytes_of y s) (row_place y s.columns i + k) 0 ≡ rule_at s i k
  rule_at_lem i k is ks = ap (λ l. get_or l (row_place y s.columns i + k) 0) split ∙ rule_read y s 0 (header_of y s) (length_header y s) i k is ks

  lower_at_lem : (i k : ℕ) → i < s.classes → k < s.columns → be_at END_WIDTH (bytes_of y s) (band_place y s.classes s.columns k) ≡ lower_at s i k
  lower_at_lem i k is ks =
      ap (λ l. be_at END_WIDTH l (band_place y s.classes s.columns k)) split
      ∙ lower_read y s 0 (header_of y s) (length_header y s) k ks
      (omega (arith, ok.bands.ordered i k is ks, ok.bands.capped i k is ks))

  upper_at_lem : (i k : ℕ) → i < s.classes → k < s.columns → be_at END_WIDTH (bytes_of y s) (band_place y s.classes s.columns k + END_WIDTH) ≡ upper_at s i k
  upper_at_lem i k is ks =
      ap (λ l. be_at END_WIDTH l (band_place y s.classes s.columns k + END_WIDTH)) split
      ∙ upper_read y s 0 (header_of y s) (length_header y s) k ks (omega (arith, ok.bands.capped i k is ks))

  premium_at_lem : (i : ℕ) → i < s.classes → be_at y.width (bytes_of y s) (premium_place y s.classes s.columns i) ≡ premium_at s i
  premium_at_lem i is =
      ap (λ l. be_at y.width l (premium_place y s.classes s.columns i)) split
      ∙ premium_read y s 0 (header_of y s) (length_header y s) i is (omega (arith, ok.premiums.within i is, known.roomy))

  by_layout : scheme_from y (bytes_of y s) s.classes s.columns ≡ cleared s
  unfolding bytes_of header_bytes be_bytes
  by_layout =
      made_eq s.classes s.columns s.start s.horizon _ _ _ _ (rule_at s) (lower_at s) (upper_at s) (premium_at s) ok.size.some_class rule_at_lem lower_at_lem upper_at_lem premium_at_lem

  pub reread : scheme_in (bytes_of y s) ≡ cleared s
  unfolding bytes_of header_bytes be_bytes
  reread = ap (λ z. scheme_from z (bytes_of y s) s.classes s.columns) found ∙ by_layout

  pub reread_cause : read_cause (bytes_of y s) ≡ 0
  reread_cause = sym (scheme_next (bytes_of y s) (framed (bytes_of y s) record_framed) (sym (ap cause_of reread ∙ sym (cause_same (cleared_values s ok.size)) ∙ accepted)))

  pub reread_answer : read_answer (bytes_of y s) ≡ record { number = 0; scheme = cleared s }
  reread_answer = sym (ap (λ x. record { number = 0; scheme = x }) (sym reread) ∙ answer_scheme (bytes_of y s) (sym reread_cause) refl)

module _ (s : Scheme) (version : ℕ) (is : other_version version ≡ false) (accepted : cause_of s ≡ 0) where
  -- What the writer leaves begins with that record.
  pub written_record : (out : List ℕ) → record_length s version ≤ length out → take (record_length s version) (write_leaves s version out) ≡ record_of s version
  written_record out fits =
      rw (← (written s version out is accepted refl fits refl).1)
      (take_at (record_of s version) (drop (record_length s version) out) (record_length s version) (length_bytes (layout_of version) s))

  -- Read, it has the scheme with 0 beyond s and m.
  pub written_read : (out : List ℕ) → record_length s version ≤ length out
      → read_answer (take (record_length s version) (write_leaves s version out)) ≡ record { number = 0; scheme = cleared s }
  written_read out fits = ap read_answer (written_record out fits) ∙ reread_answer (known version is) s accepted

  -- "written and read, a scheme keeps each value it uses": start, horizon, and every rule, band and premium up to s and m.
  pub kept_values : (out : List ℕ) → record_length s version ≤ length out → Reread s (read_answer (take (record_length s version) (write_leaves s version out)))
  kept_values out fits = rw (written_read out fits) (record { number = refl; values = cleared_values s (accepted_cause s accepted).size })

-- The answer of a writing keeps its promise.
pub write_kept : (s : Scheme) (version : ℕ) (out : List ℕ) → WritePromise s (write_leaves s version out) (write_answer s version out)
write_kept s version out e =
    let none : write_cause s version out ≡ 0 = sym (answer_number s version out) ∙ e in
    let clear = write_clear s version out none in
    rw (answer_value s version out none) (kept_values s version clear.0 clear.1 out clear.2)

-- With what is answered and left.
pub keeps : (s : Scheme) (version : ℕ) (out : List ℕ) {after : List ℕ} {r : WriteAnswer} → (r ≡ write_answer s version out) × (after ≡ write_leaves s version out)
    → (r ≡ write_answer s version out) × ((after ≡ write_leaves s version out) × WritePromise s after r)
keeps s version out (e, f) = (e, (f, rw (e, f) (write_kept s version out)))

-- Bytes that are accepted, by their scheme and their version.
module _ (bytes : List ℕ) (e : read_cause bytes ≡ 0) where
  pub own_version : other_version (version_in bytes) ≡ false
  own_version = version_known (version_in bytes) (read_framed bytes e).version

  -- The scheme that was read is written in its own version in as many bytes.
  pub rewritten_length : length bytes ≡ record_length (scheme_in bytes) (version_in bytes)
  unfolding scheme_of
  rewritten_length = (read_framed bytes e).whole

  -- "A record keeps its bytes where it is rewritten in its own version."
  pub copied : (out : List ℕ) → Bytes bytes → length bytes ≤ length out → write_leaves (scheme_in bytes) (version_in bytes) out ≡ bytes ++ drop (length bytes) out
  copied out small fits =
      sym (written (scheme_in bytes) (version_in bytes) out own_version (scheme_none bytes e) rewritten_length fits refl).1 ∙ ap (λ l. l ++ drop (length bytes) out) (rewritten bytes small e)

  -- Rewritten in either version, it is read as before.
  module _ (version : ℕ) (is : other_version version ≡ false) (out : List ℕ) (fits : record_length (scheme_in bytes) version ≤ length out) where
    abbrev other : List ℕ
    other = take (record_length (scheme_in bytes) version) (write_leaves (scheme_in bytes) version out)

    pub read_again : read_answer other ≡ read_answer bytes
    read_again =
        written_read (scheme_in bytes) version is (scheme_none bytes e) out fits
        ∙ ap (λ s. record { number = 0; scheme = s }) (made_cleared _ _ _ _ _ _ _ _)
        ∙ answer_scheme bytes (sym e) refl

    -- So a record rewritten in the other version and back is the same record.
    pub there_and_back : (back : List ℕ) → Bytes bytes → length bytes ≤ length back
        → write_leaves (read_answer other).scheme (version_in bytes) back ≡ bytes ++ drop (length bytes) back
    there_and_back back small room =
        ap (λ a. write_leaves a.scheme (version_in bytes) back) read_again ∙ ap (λ s. write_leaves s (version_in bytes) back) (read_scheme bytes e) ∙ copied back small room
