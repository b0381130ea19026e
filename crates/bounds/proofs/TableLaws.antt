-- A sheet's table: a column as the series in a part of the slice, the columns one after the other, and the list that they make.
-- Assumes nothing.
use Prim.Native.Nat.{ℕ, suc, ◌+◌, ◌-◌, ◌*◌, ◌/◌, ◌%◌, ◌≤◌, ◌<◌}
use mathlib.Core.Path.{◌≡◌, ap, sym, ◌∙◌, subst}
use mathlib.Core.Bool.{Bool}
use mathlib.Core.List.{List, ◌++◌, append-nil}
use native.Mathlib.Omega.{arith}
use native.Mathlib.Decide.{dec_lt}
use native.Mathlib.Nat.{div-add-mod', div-lt_iff_lt-mul, mod-lt}
use mir.Syntax.{w64}
use mir.Val.{Fits}
use lib.ListN.{length, set, take, drop, length-set, length-append, length-drop, get_or-append}
use lib.Seq.{length-take-le, take_all, drop-length, get_or-set_same, get_or-set_other, get_or-append-add, get_or-take, get_or-drop}
use borrow.Author.Count.{below_none, below_more}
use Rattle.scheme.specs.Tables.{tab}
use Rattle.scheme.specs.Accepted.{Accepted}
use Rattle.scheme.proofs.Laws.Tab.{as_tab}
use Rattle.scheme.specs.declared.Scheme.{Scheme}
use Rattle.setchain.specs.Sums.{at}
use Rattle.setchain.specs.Rounding.{rounded}
use Rattle.setchain.specs.Years.{CENT, mean_figure}
use Rattle.scheme.specs.Access.{premium_at}
use Rattle.scheme.specs.Rows.{chain_of}
use Rattle.bounds_spec.specs.Answers.{start_of}
use Rattle.bounds_spec.specs.Table.{place_of, table_entry, figure_table}
use Rattle.bounds_spec.proofs.Laws.Table.{table_at_most, place_below, number_of, entry_share, entry_mean, entry_total}
use Rattle.bounds.specs.Years.{FiguresFit, SeriesStored}
use Rattle.bounds.specs.Series.{start_figure, SharePayoffPost, SeriesPre}
use Rattle.bounds.specs.Money.{TenthsPost, RoundMeansPre, RoundMeansPost}
use Rattle.bounds.specs.Sheets.{WritePre, share_of, ShareColumnsPost, MeanColumnPost}
use Rattle.bounds.proofs.FrontLaws.{zeros}
use Rattle.bounds.proofs.MoneyLaws.{series_rounded}
use Rattle.bounds.proofs.PayoffsLaws.{state_fits, state_share, mean_fits, mean_figure_lem, total_fits, total_figure_lem}
use Rattle.bounds_spec.specs.Causes.{total_place, table_size}

-- The last place of a table fits.
pub last_fits : (s : Scheme) → Accepted s → {n : ℕ} → n ≡ table_size s → Fits w64 ((n - 1) * 8)
last_fits s ok e = omega (arith, table_at_most s ok)

-- Columns have no place in common.
columns_apart : (s : Scheme) (t k u j : ℕ) → k ≤ s.classes → j ≤ s.classes → place_of s t k ≡ j + u * (s.classes + 1) → k ≡ j
columns_apart s t k u j l m e =
    let f : place_of s t k ≡ place_of s u j = omega arith in
    sym (number_of s t k l) ∙ ap (λ p. p % suc s.classes) f ∙ number_of s u j m

-- Number j of each year's row is the year's figure, and the other numbers of the rows have not changed.
pub record ColumnStored (s : Scheme) (figure : ℕ → ℕ) (j : ℕ) (before after : List ℕ) : Type 0 where
  pub size : length after ≡ length before
  pub own : (t : ℕ) → t ≤ s.horizon → at after (place_of s t j) ≡ figure t
  pub other : (t k : ℕ) → k ≤ s.classes → (k ≡ j → ⊥) → at after (place_of s t k) ≡ at before (place_of s t k)

-- A series in the part of the table from number j on is a column, as the part is lent and comes back.
module _ (s : Scheme) (j : ℕ) (before after : List ℕ) (in_row : j ≤ s.classes) (size : length before ≡ table_size s) where
  abbrev part : List ℕ
  part = take (length before - j) (drop j before)

  abbrev back : List ℕ
  back = take j before ++ (after ++ drop (length before - j) (drop j before))

  back_is : back ≡ take j before ++ after
  back_is =
      ap (λ k. take j before ++ (after ++ drop k (drop j before))) (sym (length-drop j before))
      ∙ ap (λ l. take j before ++ (after ++ l)) (drop-length (drop j before))
      ∙ ap (λ l. take j before ++ l) (append-nil after)

  part_is : part ≡ drop j before
  part_is = take_all (length before - j) (drop j before) (omega (arith, length-drop j before))

  front : length (take j before) ≡ j
  front = length-take-le j before (omega (arith, size))

  past : (q : ℕ) → at (take j before ++ after) (j + q) ≡ at after q
  past q =
      let e : j + q ≡ length (take j before) + q = omega (arith, front) in
      ap (at (take j before ++ after)) e ∙ get_or-append-add (take j before) after q 0

  column : {figure : ℕ → ℕ} → SeriesStored figure (s.classes + 1) (s.horizon + 1) (drop j before) after → ColumnStored s figure j before (take j before ++ after)
  column w =
      record {
        size = omega (arith, length-append (take j before) after, front, w.size, length-drop j before);
        own = λ t h.
            let e : place_of s t j ≡ j + t * (s.classes + 1) = omega arith in
            ap (at (take j before ++ after)) e
            ∙ past (t * (s.classes + 1))
            ∙ w.done t (omega arith) (omega (arith, size, length-drop j before, place_below s t j h in_row));
        other = λ t k l d. by (place_of s t k) (λ u e. d (columns_apart s t k u j l in_row e)) (dec_lt (place_of s t k) j);
      }
    where
      by : (p : ℕ) → ((u : ℕ) → p ≡ j + u * (s.classes + 1) → ⊥) → Dec (p < j) → at (take j before ++ after) p ≡ at before p
      by p o (yes g) = get_or-append (take j before) after 0 p (omega (arith, front)) ∙ get_or-take j before p 0 g
      by p o (no g) =
          let e : p ≡ j + (p - j) = omega arith in
          ap (at (take j before ++ after)) e
          ∙ past (p - j)
          ∙ w.other (p - j) (λ u f. o u (omega arith))
          ∙ get_or-drop j before (p - j) 0
          ∙ ap (at before) (sym e)

  pub column_stored : {figure : ℕ → ℕ} → SeriesStored figure (s.classes + 1) (s.horizon + 1) part after → ColumnStored s figure j before back
  column_stored {figure} w =
      subst (ColumnStored s figure j before) (sym back_is)
      (column (subst (λ l. SeriesStored figure (s.classes + 1) (s.horizon + 1) l after) part_is w))

-- What a column takes.
column_ready : (s : Scheme) → Accepted s → {gain payoff : List ℕ} → FiguresFit s.classes gain payoff s.horizon → SeriesPre s gain payoff s.horizon (s.classes + 1)
column_ready s ok fits = record { accepted = ok; fits = fits; apart = omega arith; counted = omega (arith, table_at_most s ok) }

-- The shares, class by class.
pub columns_none : {high : Bool} {s : Scheme} {out : List ℕ} → WritePre s (table_size s) out → ShareColumnsPost high s out 0
columns_none w = record { size = w.size; inside = omega arith; done = below_none _ }

module _ (s : Scheme) (ok : Accepted s) {high : Bool} {out : List ℕ} {j : ℕ} (w : ShareColumnsPost high s out j) (more : j < s.classes)
    {payoff : List ℕ} (held : SharePayoffPost (j + 1) payoff) where
  pub share_ready : SeriesPre s zeros payoff s.horizon (s.classes + 1)
  share_ready = column_ready s ok (state_fits s ok held more s.horizon)

  pub columns_more : {after : List ℕ} → ColumnStored s (start_figure high s zeros payoff) j out after → ShareColumnsPost high s after (j + 1)
  columns_more {after} c =
      record {
        size = c.size ∙ w.size;
        inside = omega arith;
        done =
            below_more (λ k. (t : ℕ) → t ≤ s.horizon → at after (place_of s t k) ≡ share_of high s t k) j
            (λ k l t h. c.other t k (omega arith) (λ e. omega arith) ∙ w.done k l t h)
            (λ t h. c.own t h ∙ state_share s ok held more t high);
      }

pub columns_all : {high : Bool} {s : Scheme} {out : List ℕ} {j : ℕ} → s.classes ≤ j → ShareColumnsPost high s out j → ShareColumnsPost high s out s.classes
columns_all h w = record { size = w.size; inside = omega arith; done = λ k l. w.done k (omega arith) }

-- Shares, means and the total at their places make the list.
module _ (s : Scheme) (share : ℕ → ℕ → ℕ) (mean : ℕ → ℕ) (total : ℕ) (out : List ℕ) (size : length out ≡ table_size s)
    (shares : (t j : ℕ) → t ≤ s.horizon → j < s.classes → at out (place_of s t j) ≡ share t j)
    (means : (t : ℕ) → t ≤ s.horizon → at out (place_of s t s.classes) ≡ mean t)
    (last : at out (total_place s) ≡ total) where
  -- By year and number.
  row_entry : (t j : ℕ) → t ≤ s.horizon → j ≤ s.classes → at out (place_of s t j) ≡ table_entry s share mean total (place_of s t j)
  row_entry t j h l = by (dec_lt j s.classes)
    where
      by : Dec (j < s.classes) → at out (place_of s t j) ≡ table_entry s share mean total (place_of s t j)
      by (yes g) = shares t j h g ∙ sym (entry_share s share mean total t j h g)
      by (no g) =
          let e : s.classes ≡ j = omega arith in
          subst (λ k. at out (place_of s t k) ≡ table_entry s share mean total (place_of s t k)) e (means t h ∙ sym (entry_mean s share mean total t h))

  place_entry : (p : ℕ) → p < table_size s → at out p ≡ table_entry s share mean total p
  place_entry p l = by (dec_lt p (total_place s))
    where
      by : Dec (p < total_place s) → at out p ≡ table_entry s share mean total p
      by (yes g) =
          let t : p / suc s.classes < suc s.horizon = (div-lt_iff_lt-mul {k = suc s.classes} {x = p} {y = suc s.horizon} (omega arith)).1 g in
          let j : p % suc s.classes < suc s.classes = mod-lt p {m = suc s.classes} (omega arith) in
          subst (λ q. at out q ≡ table_entry s share mean total q) (div-add-mod' p (suc s.classes))
          (row_entry (p / suc s.classes) (p % suc s.classes) (omega arith) (omega arith))
      by (no g) =
          let e : total_place s ≡ p = omega arith in
          subst (λ q. at out q ≡ table_entry s share mean total q) e (last ∙ sym (entry_total s share mean total))

  table_pinned : out ≡ tab (table_size s) (table_entry s share mean total)
  table_pinned = as_tab 0 out (table_size s) (table_entry s share mean total) size place_entry

-- A slice with its last number written is as long as it was.
pub last_length : (after : List ℕ) (v : ℕ) {n : ℕ} → length after ≡ n → length (set after (length after - 1) v) ≡ n
last_length after v e = length-set after (length after - 1) v ∙ e

-- The mean's column, and the total.
module _ (s : Scheme) (ok : Accepted s) {premiums : List ℕ} (are : TenthsPost s.premiums premiums) where
  pub mean_ready : SeriesPre s zeros premiums s.horizon (s.classes + 1)
  mean_ready = column_ready s ok (mean_fits s ok are s.horizon)

  pub round_ready : RoundMeansPre (s.classes + 1)
  round_ready = record { apart = omega arith; within = omega (arith, ok.size.classes) }

  pub means_made : {high : Bool} {before middle after : List ℕ} → SeriesStored (start_figure high s zeros premiums) (s.classes + 1) (s.horizon + 1) before middle
      → RoundMeansPost high (s.classes + 1) middle after → MeanColumnPost high s before after
  means_made {high} w r =
      let made = series_rounded w r in
      record { size = made.size; done = λ u l h. made.done u l h ∙ mean_figure_lem s ok are u high; other = made.other }

  pub total_ready : SeriesPre s premiums zeros s.horizon 1
  total_ready =
      record { accepted = ok; fits = total_fits s ok are s.horizon ok.horizon.within; apart = omega arith; counted = omega (arith, ok.horizon.within) }

  -- After the shares.
  module _ {high : Bool} {out after : List ℕ} (w : ShareColumnsPost high s out s.classes)
      (c : ColumnStored s (λ t. mean_figure high (chain_of s) (premium_at s) t (start_of s)) s.classes out after) where
    -- The last place is the total's.
    last_place : length after - 1 ≡ total_place s
    last_place = omega (arith, c.size, w.size)

    kept : (v t j : ℕ) → t ≤ s.horizon → j ≤ s.classes → at (set after (length after - 1) v) (place_of s t j) ≡ at after (place_of s t j)
    kept v t j h l =
        get_or-set_other after (length after - 1) (place_of s t j) v 0 (λ g. omega (arith, last_place, place_below s t j h l))

    pub table_made : {total : ℕ} (v : ℕ) → total ≡ start_figure high s premiums zeros s.horizon → v ≡ rounded high CENT total → set after (length after - 1) v ≡ figure_table high s
    unfolding figure_table
    table_made v f g =
        table_pinned s _ _ _ (set after (length after - 1) v) (last_length after v (c.size ∙ w.size))
        (λ t j h l. kept v t j h (omega arith) ∙ c.other t j (omega arith) (λ g. omega arith) ∙ w.done j l t h)
        (λ t h. kept v t s.classes h (omega arith) ∙ c.own t h)
        (ap (at (set after (length after - 1) v)) (sym last_place)
        ∙ get_or-set_same after (length after - 1) v 0 (omega (arith, c.size, w.size))
        ∙ g
        ∙ ap (rounded high CENT) f
        ∙ total_figure_lem s ok are s.horizon high)
