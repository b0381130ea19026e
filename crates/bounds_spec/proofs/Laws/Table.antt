-- What stands at each place of a sheet's table.
use Rattle.std.specs.Prelude.{ℕ, suc, ◌+◌, ◌*◌, ◌/◌, ◌%◌, ◌≤◌, ◌<◌, ◌≡◌, Bool, get_or}
use Rattle.std.proofs.Common.{ap, ◌∙◌, arith, mod-eq_of_lt, mul-le-mul, mul-le-mul_right}
use Rattle.std.proofs.Math.Nat.{mul-add-div_right, mul-add-mod_self_right, div-eq_of_lt}
use borrow.Author.Tests.{lt-ltb, le-ltb}
use Rattle.setchain.specs.Years.{share_figure, mean_figure, total_figure}
use Rattle.scheme.specs.declared.Scheme.{Scheme}
use Rattle.scheme.specs.Tables.{tab}
use Rattle.scheme.specs.Access.{premium_at}
use Rattle.scheme.specs.Accepted.{Accepted}
use Rattle.scheme.specs.Rows.{chain_of}
use Rattle.scheme.proofs.Laws.Tab.{get_d_tab}
use Rattle.bounds_spec.specs.Answers.{start_of}
use Rattle.bounds_spec.specs.Table.{place_of, table_entry, figure_table}
use Rattle.bounds_spec.specs.Causes.{total_place, table_size}

-- The table of an accepted scheme is not large.
pub table_at_most : (s : Scheme) → Accepted s → table_size s ≤ 3334
table_at_most s ok =
    let years : suc s.horizon ≤ 101 = omega (arith, ok.horizon.within) in
    let columns : suc s.classes ≤ 33 = omega (arith, ok.size.classes) in
    omega (arith, mul-le-mul years columns)

-- A place before the total, by its year and number.
module _ (s : Scheme) where
  pub place_below : (t j : ℕ) → t ≤ s.horizon → j ≤ s.classes → place_of s t j < total_place s
  place_below t j h l =
      let k : suc t * suc s.classes ≤ suc s.horizon * suc s.classes = mul-le-mul_right (suc s.classes) (omega arith) in
      omega arith

  year_of : (t j : ℕ) → j ≤ s.classes → place_of s t j / suc s.classes ≡ t
  year_of t j l =
      mul-add-div_right {m = suc s.classes} (omega arith) t j
      ∙ ap (λ x. t + x) (div-eq_of_lt {n = j} {m = suc s.classes} (omega arith))
      ∙ omega arith

  pub number_of : (t j : ℕ) → j ≤ s.classes → place_of s t j % suc s.classes ≡ j
  number_of t j l = mul-add-mod_self_right t (suc s.classes) j ∙ mod-eq_of_lt {n = j} {m = suc s.classes} (omega arith)

module _ (s : Scheme) (share : ℕ → ℕ → ℕ) (mean : ℕ → ℕ) (total : ℕ) where
  pub entry_share : (t j : ℕ) → t ≤ s.horizon → j < s.classes → table_entry s share mean total (place_of s t j) ≡ share t j
  unfolding table_entry
  entry_share t j h l =
      simp (
        lt-ltb (place_of s t j) (total_place s) (place_below s t j h (omega arith)),
        number_of s t j (omega arith),
        year_of s t j (omega arith),
        lt-ltb j s.classes l,
      )

  pub entry_mean : (t : ℕ) → t ≤ s.horizon → table_entry s share mean total (place_of s t s.classes) ≡ mean t
  unfolding table_entry
  entry_mean t h =
      simp (
        lt-ltb (place_of s t s.classes) (total_place s) (place_below s t s.classes h (omega arith)),
        number_of s t s.classes (omega arith),
        year_of s t s.classes (omega arith),
        le-ltb s.classes s.classes (omega arith),
      )

  pub entry_total : table_entry s share mean total (total_place s) ≡ total
  unfolding table_entry
  entry_total = simp (le-ltb (total_place s) (total_place s) (omega arith))

  -- The same in the list.
  table_share : (t j : ℕ) → t ≤ s.horizon → j < s.classes → get_or (tab (table_size s) (table_entry s share mean total)) (place_of s t j) 0 ≡ share t j
  table_share t j h l =
      get_d_tab (table_size s) (table_entry s share mean total) (place_of s t j) 0 (let k = place_below s t j h (omega arith) in omega arith) ∙ entry_share t j h l

  table_mean : (t : ℕ) → t ≤ s.horizon → get_or (tab (table_size s) (table_entry s share mean total)) (place_of s t s.classes) 0 ≡ mean t
  table_mean t h =
      get_d_tab (table_size s) (table_entry s share mean total) (place_of s t s.classes) 0 (let k = place_below s t s.classes h (omega arith) in omega arith)
      ∙ entry_mean t h

  table_total : get_or (tab (table_size s) (table_entry s share mean total)) (total_place s) 0 ≡ total
  table_total = get_d_tab (table_size s) (table_entry s share mean total) (total_place s) 0 (omega arith) ∙ entry_total

-- The table of low or high figures.
module _ (high : Bool) (s : Scheme) where
  module _ (t : ℕ) (h : t ≤ s.horizon) where
    pub share_at : (j : ℕ) → j < s.classes → get_or (figure_table high s) (place_of s t j) 0 ≡ share_figure high (chain_of s) j t (start_of s)
    unfolding figure_table
    share_at j l = table_share s _ _ _ t j h l

    pub mean_at : get_or (figure_table high s) (place_of s t s.classes) 0 ≡ mean_figure high (chain_of s) (premium_at s) t (start_of s)
    unfolding figure_table
    mean_at = table_mean s _ _ _ t h

  pub total_at : get_or (figure_table high s) (total_place s) 0 ≡ total_figure high (chain_of s) (premium_at s) s.horizon (start_of s)
  unfolding figure_table
  total_at = table_total s _ _ _
