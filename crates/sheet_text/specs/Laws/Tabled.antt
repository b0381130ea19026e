-- The lines by the tables of a scheme's figures are the sheet's lines.
use Rattle.std.specs.Prelude.{ℕ, suc, ◌+◌, ◌*◌, ◌≤◌, ◌<◌, ◌≡◌, Bool, List, ◌++◌, length, get_or}
use Rattle.std.proofs.Common.{ap, ◌∙◌, arith, add-one}
use Rattle.std.proofs.Math.Bool.{true, false}
use Rattle.scheme.specs.declared.Scheme.{Scheme}
use Rattle.scheme.specs.Rows.{chain_of}
use Rattle.scheme.proofs.Laws.Tab.{length_tab}
use Rattle.record_spec.specs.Joined.{joined}
use Rattle.record_spec.proofs.Laws.Joined.{joined_eq}
use Rattle.setchain.specs.Years.{low_share, high_share}
use Rattle.bounds_spec.specs.Answers.{start_of}
use Rattle.bounds_spec.specs.Table.{figure_table, low_table, high_table}
use Rattle.bounds_spec.proofs.Laws.Table.{share_at, mean_at, total_at}
use Rattle.sheet_spec.specs.Sheet.{scheme_line, class_line, year_lines, total_line, sheet_of}
use Rattle.sheet_text.specs.Put.{Space, Put}
use Rattle.sheet_text.specs.Tabled.{class_text, year_text}
use Rattle.bounds_spec.specs.Causes.{table_size}

-- How long a table is.
pub table_size_lem : (high : Bool) {table : List ℕ} (s : Scheme) → table ≡ figure_table high s → length table ≡ table_size s
unfolding figure_table
table_size_lem high s e = ap length e ∙ length_tab (table_size s) _

-- A year's lines.
module _ (s : Scheme) (t : ℕ) (h : t ≤ s.horizon) where
  class_tabled : (j : ℕ) → j < s.classes
      → class_text (low_table s) (high_table s) t (t * suc s.classes) j
      ≡ class_line t j (low_share (chain_of s) j t (start_of s)) (high_share (chain_of s) j t (start_of s))
  class_tabled j l = rw (share_at false s t h j l, share_at true s t h j l)

  pub year_tabled : year_text (low_table s) (high_table s) s.classes t ≡ year_lines s t
  unfolding year_text year_lines
  year_tabled = rw (joined_eq s.classes _ _ class_tabled, mean_at false s t h, mean_at true s t h)

-- The total's line, by the code's place.
abbrev pub total_text : (low high : List ℕ) (n s : ℕ) → List ℕ
total_text low high n s = total_line (get_or low (n * (s + 1)) 0) (get_or high (n * (s + 1)) 0)

-- The whole sheet's text by two tables.
abbrev pub tabled_text : (s : Scheme) (low high : List ℕ) → List ℕ
tabled_text s low high = scheme_line s.classes s.columns s.start s.horizon ++ joined (s.horizon + 1) (year_text low high s.classes) ++ total_text low high (s.horizon + 1) s.classes

-- The whole sheet.
pub sheet_tabled : (s : Scheme) (low high : List ℕ) → low ≡ low_table s → high ≡ high_table s
    → sheet_of s ≡ tabled_text s low high
unfolding sheet_of
sheet_tabled s low high el eh =
    let years : joined (suc s.horizon) (year_text (low_table s) (high_table s) s.classes) ≡ joined (suc s.horizon) (year_lines s) =
    joined_eq (suc s.horizon) _ _ (λ t l. year_tabled s t (omega arith)) in
    rw (el, eh, add-one, add-one, years, total_at false s, total_at true s)

-- Space for them, and them put.
pub sheet_space : {l : List ℕ} {at : ℕ} {low high : List ℕ} (s : Scheme) → low ≡ low_table s → high ≡ high_table s → Space l at (sheet_of s) → Space l at (tabled_text s low high)
sheet_space {low = low} {high = high} s el eh r = rw (sheet_tabled s low high el eh) at r

pub sheet_put : {l : List ℕ} {at : ℕ} {low high m : List ℕ} {to : ℕ} (s : Scheme) → low ≡ low_table s → high ≡ high_table s
    → Put l at (tabled_text s low high) m to → Put l at (sheet_of s) m to
sheet_put {low = low} {high = high} s el eh p = rw (sheet_tabled s low high el eh) p
