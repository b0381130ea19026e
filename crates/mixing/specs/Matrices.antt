-- Matrices as the lists of their rows, and the number of classes that they are over.
use Rattle.std.specs.Prelude.{ℕ, ◌≡◌, List, map, replicate, get_or}
use Rattle.mixing.specs.declared.matrix.Matrix.{Matrix}

-- The rows of each matrix.
abbrev pub rows_of : List Matrix → List (List ℕ)
rows_of matrices = map (λ m. m.rows) matrices

-- The number of classes of the first matrix.
abbrev pub size_of : List Matrix → ℕ
size_of matrices = get_or (map (λ m. m.n) matrices) 0 0

-- 11 matrices, all over n classes.
pub record SameSize (n : ℕ) (matrices : List Matrix) : Type 0 where
  pub sizes : map (λ m. m.n) matrices ≡ replicate 11 n
