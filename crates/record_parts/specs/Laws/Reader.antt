-- What a band reader hands out: the record's bands in order, then no more.
use Prim.Native.Nat.{ℕ, zero, suc, max, ◌+◌, ◌≤◌, ◌<◌}
use Rattle.std.specs.Prelude.{◌≡◌, refl, Bool, false, cond, ◌&&◌, List, [], ◌∷◌, ◌++◌, eqb, ltb, length, replicate}
use Rattle.std.proofs.Math.Path.{ap, sym}
use Rattle.std.proofs.Common.{◌∙◌, le_refl}
use Rattle.std.proofs.Math.Bool.{true}
use Rattle.std.proofs.Math.Decide.{ℕ_discrete}
use native.Mathlib.Omega.{arith}
use Rattle.std.proofs.Math.Nat.{add-zero, zero-add}
use borrow.Author.Tests.{eq-eqb, ne_eqb, lt-ltb, le-ltb, eqb-true, ltb-true}
use Rattle.scheme.specs.Tables.{tab}
use Rattle.scheme.specs.Access.{lower_at, upper_at}
use Rattle.scheme.proofs.Laws.Tab.{tab_eq}
use Rattle.record_spec.specs.Reader.{BandAnswer, Ends, NoMore, handed_out, ends_of, stored, band_in, band_at, BandAnswered, after_at, open_part, answers, cursor_after, stored_bands}
use Rattle.big_endian_spec.specs.Numbers.{be_at}
use Rattle.record_spec.specs.Layout.{layout_in, band_place, scheme_in, classes_in, columns_in}
use Rattle.record_spec.specs.Frame.{Framed}
use Rattle.record_spec.specs.Read.{frame_cause, read_cause}
use Rattle.record_spec.proofs.Laws.Frame.{framed_short}
use Rattle.record_spec.proofs.Laws.Read.{read_framed}
use Rattle.scheme.proofs.Laws.Stored.{lower_made, upper_made}

-- Both tests pass.
pub both_left : (a b : Bool) → (a && b) ≡ true → a ≡ true
both_left true b e = refl
both_left false b e = e

pub both_right : (a b : Bool) → (a && b) ≡ true → b ≡ true
both_right true b e = e
both_right false true e = refl
both_right false false e = e

-- The second fails.
pub second_fails : (a b : Bool) → b ≡ false → (a && b) ≡ false
second_fails true b e = e
second_fails false b e = refl

-- The answer's number and values follow from the answer.
pub band_answered : (bytes : List ℕ) (cursor : ℕ) {b : BandAnswer} → b ≡ band_at bytes cursor → BandAnswered bytes cursor b
unfolding band_at
band_answered bytes cursor e = record { answer = e; number = ap handed_out e ∙ number (stored bytes cursor); ends = ap ends_of e ∙ ends (stored bytes cursor) }
  where
    number : (is : Bool) → handed_out (cond is (band_in bytes cursor) NoMore) ≡ cond is 1 0
    number true = refl
    number false = refl

    ends : (is : Bool) → ends_of (cond is (band_in bytes cursor) NoMore) ≡ cond is (ends_of (band_in bytes cursor)) []
    ends true = refl
    ends false = refl

-- No byte is declined.
pub empty_declined : read_cause [] ≡ 1
unfolding frame_cause
empty_declined = refl

module _ (bytes : List ℕ) where
  -- The part of an accepted record is all of it, and that of a declined one is empty.
  pub part_accepted : {n : ℕ} → n ≡ read_cause bytes → n ≡ 0 → bytes ≡ open_part bytes
  unfolding open_part
  part_accepted {n} e none = rw (← e, eq-eqb n 0 none)

  pub part_declined : {n : ℕ} → n ≡ read_cause bytes → (n ≡ 0 → ⊥) → [] ≡ open_part bytes
  unfolding open_part
  part_declined {n} e some = rw (← e, ne_eqb n 0 some)

  module _ (column : ℕ) where
    -- Whether a band is stored, by cases.
    pub stored_declined : {n : ℕ} → n ≡ read_cause bytes → (n ≡ 0 → ⊥) → false ≡ stored bytes column
    stored_declined {n} e some = rw (← e, ne_eqb n 0 some)

    pub stored_accepted : {n : ℕ} → n ≡ read_cause bytes → n ≡ 0 → ltb column (columns_in bytes) ≡ stored bytes column
    stored_accepted {n} e none = rw (← e, eq-eqb n 0 none)

    -- A stored band: the record is accepted, and the column is one of its m.
    pub stored_read : stored bytes column ≡ true → read_cause bytes ≡ 0
    stored_read e = eqb-true (read_cause bytes) 0 (both_left (eqb (read_cause bytes) 0) (ltb column (columns_in bytes)) e)

    pub stored_column : stored bytes column ≡ true → column < columns_in bytes
    stored_column e = ltb-true column (columns_in bytes) (both_right (eqb (read_cause bytes) 0) (ltb column (columns_in bytes)) e)

    pub is_stored : read_cause bytes ≡ 0 → column < columns_in bytes → stored bytes column ≡ true
    is_stored none lt = simp (eq-eqb (read_cause bytes) 0 none, lt-ltb column (columns_in bytes) lt)

    pub past_stored : columns_in bytes ≤ column → stored bytes column ≡ false
    past_stored le = second_fails (eqb (read_cause bytes) 0) _ (le-ltb column (columns_in bytes) le)

    -- Where it stands, and that its 8 bytes lie within the record.
    abbrev place : ℕ
    place = band_place (layout_in bytes) (classes_in bytes) (columns_in bytes) column

    pub band_within : stored bytes column ≡ true → (place + 8 ≤ length bytes) × (length bytes ≤ 455)
    band_within e =
        let framed : Framed bytes = read_framed bytes (stored_read e) in
        (omega (arith, stored_column e, framed.whole), framed_short framed)

    -- The answer and the cursor after it, by cases.
    pub answer_band : stored bytes column ≡ true → band_in bytes column ≡ band_at bytes column
    unfolding band_at
    answer_band e = rw e

    pub answer_ends : {l u : ℕ} → l ≡ be_at 4 bytes place → u ≡ be_at 4 bytes (place + 4) → stored bytes column ≡ true → Ends l u ≡ band_at bytes column
    answer_ends el eu e = rw (el, eu) (answer_band e)

    pub answer_none : stored bytes column ≡ false → NoMore ≡ band_at bytes column
    unfolding band_at
    answer_none e = rw e

    pub one_handed : stored bytes column ≡ true → 1 ≡ handed_out (band_at bytes column)
    one_handed e = ap handed_out (answer_band e)

    pub none_handed : stored bytes column ≡ false → 0 ≡ handed_out (band_at bytes column)
    none_handed e = ap handed_out (answer_none e)

    pub after_band : stored bytes column ≡ true → column + 1 ≡ after_at bytes column
    after_band e = ap (◌+◌ column) (one_handed e)

    pub after_none : stored bytes column ≡ false → column ≡ after_at bytes column
    after_none e = sym (add-zero column) ∙ ap (◌+◌ column) (none_handed e)

    -- The cursor stays within what it was, or the record's columns.
    pub after_within : after_at bytes column ≤ max column 8
    after_within = by (stored bytes column) refl
      where
        by : (t : Bool) → stored bytes column ≡ t → after_at bytes column ≤ max column 8
        by true e = omega (arith, after_band e, stored_column e, (read_framed bytes (stored_read e)).columns)
        by false e = omega (arith, after_none e)

-- Over an empty part there is no more.
pub none_empty : (column : ℕ) → NoMore ≡ band_at [] column
unfolding band_at frame_cause
none_empty column = refl

-- Over what a reader is opened over, the answer at each column is that over the record.
pub part_answer : (bytes : List ℕ) (column : ℕ) → band_at (open_part bytes) column ≡ band_at bytes column
part_answer bytes column = by (ℕ_discrete (read_cause bytes) 0)
  where
    by : Dec (read_cause bytes ≡ 0) → band_at (open_part bytes) column ≡ band_at bytes column
    by (yes none) = ap (λ l. band_at l column) (sym (part_accepted bytes refl none))
    by (no some) =
        ap (λ l. band_at l column) (sym (part_declined bytes refl some)) ∙ sym (none_empty column)
        ∙ answer_none bytes column (sym (stored_declined bytes column refl some))

module _ (bytes : List ℕ) where
  -- Once there is no more, further calls change nothing.
  pub no_more_calls : (n cursor : ℕ) → stored bytes cursor ≡ false → (answers bytes n cursor ≡ replicate n NoMore) × (cursor_after bytes n cursor ≡ cursor)
  unfolding answers cursor_after
  no_more_calls zero cursor e = (refl, refl)
  no_more_calls (suc n) cursor e =
      let still : after_at bytes cursor ≡ cursor = sym (after_none bytes cursor e) in
      let rest = no_more_calls n cursor e in
      (rw (still, ← (answer_none bytes cursor e), rest.0), rw (still, rest.1))

  -- k calls at columns that are stored hand out their bands.
  bands_next : (k cursor n : ℕ) (f : ℕ → BandAnswer) → ((j : ℕ) → j < k → stored bytes (cursor + j) ≡ true) → ((j : ℕ) → j < k → band_in bytes (cursor + j) ≡ f j)
      → (answers bytes (k + n) cursor ≡ tab k f ++ answers bytes n (cursor + k)) × (cursor_after bytes (k + n) cursor ≡ cursor_after bytes n (cursor + k))
  unfolding answers cursor_after tab
  bands_next zero cursor n f all is =
      let none : 0 + n ≡ n = zero-add n in
      let here : cursor + 0 ≡ cursor = add-zero cursor in
      (rw (none, here), rw (none, here))
  bands_next (suc k) cursor n f all is =
      let less : 0 < suc k = omega arith in
      let count : suc k + n ≡ suc (k + n) = omega arith in
      let here : cursor + 0 ≡ cursor = add-zero cursor in
      let one : stored bytes cursor ≡ true = rw here at (all 0 less) in
      let band : band_at bytes cursor ≡ f 0 = sym (answer_band bytes cursor one) ∙ (rw here at (is 0 less)) in
      let on : after_at bytes cursor ≡ cursor + 1 = sym (after_band bytes cursor one) in
      let last : cursor + 1 + k ≡ cursor + suc k = omega arith in
      let rest =
      bands_next k (cursor + 1) n (λ j. f (suc j))
      (λ j lt. let e : cursor + 1 + j ≡ cursor + suc j = omega arith in rw e (all (suc j) (omega arith)))
      (λ j lt. let e : cursor + 1 + j ≡ cursor + suc j = omega arith in rw e (is (suc j) (omega arith))) in (
        rw (count, on, band, rest.0, last),
        ap (λ c. cursor_after bytes c cursor) count ∙ ap (cursor_after bytes (k + n)) on ∙ rest.1 ∙ ap (cursor_after bytes n) last,
      )

-- m calls hand out the record's bands in order, and further calls change nothing.
pub handed_out_lem : (bytes : List ℕ) → read_cause bytes ≡ 0 → (n : ℕ)
    → (answers (open_part bytes) (columns_in bytes + n) 0 ≡ stored_bands bytes ++ replicate n NoMore)
    × (cursor_after (open_part bytes) (columns_in bytes + n) 0 ≡ columns_in bytes)
handed_out_lem bytes none n =
    let start : (j : ℕ) → 0 + j ≡ j = zero-add in
    let m : ℕ = columns_in bytes in
    let first = bands_next bytes m 0 n (band_in bytes) (λ j lt. rw (start j) (is_stored bytes j none lt)) (λ j lt. ap (band_in bytes) (start j)) in
    let rest = no_more_calls bytes n m (past_stored bytes m (le_refl m)) in
    let at : 0 + m ≡ m = start m in
    rw (← (part_accepted bytes refl none), first.0, first.1, at, rest.0, rest.1) (refl, refl)

-- m + 1 calls: exactly the record's bands in order, and then no more.
pub in_order : (bytes : List ℕ) → read_cause bytes ≡ 0 → answers (open_part bytes) (columns_in bytes + 1) 0 ≡ stored_bands bytes ++ (NoMore ∷ [])
in_order bytes none = (handed_out_lem bytes none 1).0

-- On a declined record there is no more from the first call on.
pub none_handed_out : (bytes : List ℕ) → (read_cause bytes ≡ 0 → ⊥) → (n : ℕ)
    → (answers (open_part bytes) n 0 ≡ replicate n NoMore) × (cursor_after (open_part bytes) n 0 ≡ 0)
none_handed_out bytes some n =
    rw (← (part_declined bytes refl some)) (no_more_calls [] n 0 (past_stored [] 0 (le_refl 0)))

-- A stored band is that of the scheme in the bytes.
pub band_read : (bytes : List ℕ) → read_cause bytes ≡ 0 → (k : ℕ) → k < columns_in bytes
    → band_in bytes k ≡ Ends (lower_at (scheme_in bytes) 0 k) (upper_at (scheme_in bytes) 0 k)
band_read bytes none k lt =
    let most : columns_in bytes ≤ 8 = (read_framed bytes none).columns in
    rw (lower_made _ (columns_in bytes) _ _ _ _ _ _ 0 k most lt, upper_made _ (columns_in bytes) _ _ _ _ _ _ 0 k most lt)

-- So the bands handed out are those of the scheme that reading answers.
pub bands_read : (bytes : List ℕ) → read_cause bytes ≡ 0
    → stored_bands bytes ≡ tab (columns_in bytes) (λ k. Ends (lower_at (scheme_in bytes) 0 k) (upper_at (scheme_in bytes) 0 k))
bands_read bytes none = tab_eq NoMore (columns_in bytes) _ _ (band_read bytes none)
