-- The bands of a class, read by cell: they are as many as there are cells, and hold what the accessors say.
use Rattle.std.specs.Prelude.{ℕ, ◌≤◌, ◌<◌, ◌≡◌, List, length, get_or}
use Rattle.std.proofs.Common.{arith, length-take}
use Rattle.std.proofs.Math.Seq.{get_or-take}
use Rattle.scheme.specs.declared.Scheme.{Scheme}
use Rattle.scheme.specs.Access.{cell_count, class_bands, lower_at, upper_at}

pub bands_few : (cells : ℕ) (ends : List ℕ) (i : ℕ) → length (class_bands cells ends i) ≤ cells
unfolding class_bands
bands_few cells ends i = omega (arith, length-take cells ends)

module _ (s : Scheme) (i k : ℕ) (l : k < cell_count s) where
  pub lower_in : get_or (class_bands (cell_count s) s.lowers i) k 0 ≡ lower_at s i k
  unfolding class_bands
  lower_in = get_or-take (cell_count s) s.lowers k 0 l

  pub upper_in : get_or (class_bands (cell_count s) s.uppers i) k 0 ≡ upper_at s i k
  unfolding class_bands
  upper_in = get_or-take (cell_count s) s.uppers k 0 l
