-- Matrices over two and over three classes, computed; eleven of one size: what is allowed and what is not; and counts that mix, and none.
use Rattle.std.specs.Prelude.{◌≡◌, refl, [], ◌∷◌, replicate, get_or, Some, None}
use Rattle.std.proofs.Common.{ap, arith}
use Rattle.mixing.specs.declared.matrix.Matrix.{Matrix}
use Rattle.mixing.specs.Matrices.{rows_of, size_of, SameSize}
use Rattle.mixing.specs.Powers.{counted}

-- The matrices.
abbrev over_two : Matrix
over_two = record { rows = 3 ∷ 1 ∷ []; n = 2; few = omega arith }

abbrev over_three : Matrix
over_three = record { rows = 7 ∷ 2 ∷ 4 ∷ []; n = 3; few = omega arith }

-- The rows of each, and the classes of the first, 0 where there is none; not ten of one size, not another size behind the first, and not the size of none.
pub record MatrixExamples : Type 0 where
  pub rows : rows_of (over_two ∷ over_three ∷ []) ≡ (3 ∷ 1 ∷ []) ∷ (7 ∷ 2 ∷ 4 ∷ []) ∷ []
  pub size : size_of (over_two ∷ over_three ∷ []) ≡ 2
  pub no_size : size_of [] ≡ 0
  pub same : SameSize 2 (replicate 11 over_two)
  pub fewer : SameSize 2 (replicate 10 over_two) → ⊥
  pub another : SameSize 2 (over_two ∷ over_three ∷ replicate 9 over_two) → ⊥
  pub of_none : SameSize 3 (replicate 11 over_two) → ⊥

pub matrix_examples : MatrixExamples
matrix_examples =
    record {
      rows = refl;
      size = refl;
      no_size = refl;
      same = record { sizes = refl };
      fewer = λ h. omega (arith, ap (λ l. get_or l 10 0) h.sizes);
      another = λ h. omega (arith, ap (λ l. get_or l 1 0) h.sizes);
      of_none = λ h. omega (arith, ap (λ l. get_or l 0 0) h.sizes);
    }

-- The count that mixes, and none where 0 says so.
pub record CountedExamples : Type 0 where
  pub none : counted 0 ≡ None
  pub first : counted 1 ≡ Some 1
  pub later : counted 1024 ≡ Some 1024

pub counted_examples : CountedExamples
counted_examples = record { none = refl; first = refl; later = refl }
