-- Matrices over as many classes: what one of them has, as the laws of their rows tell it.
use Rattle.std.specs.Prelude.{ℕ, ◌<◌, ◌≡◌, Bool, List, [], length, get_or, set, eqb}
use Rattle.std.proofs.Common.{ap, ap₂, sym, ◌∙◌, arith}
use Rattle.std.proofs.lemmas.List.{length-map, length-replicate, get_or-map, get_or-replicate}
use Rattle.std.proofs.Math.Seq.{map-set_same}
use Rattle.setchain.specs.Sums.{at}
use Rattle.setchain.specs.Tests.{all_below}
use Rattle.scheme.specs.Laws.Filled.{Filled}
use Rattle.mixing.specs.declared.matrix.Matrix.{Matrix}
use Rattle.mixing.specs.Bits.{all_bits, union_of}
use Rattle.mixing.specs.Matrices.{rows_of, size_of, SameSize}

-- Whether every bit is set, and the rows of a product, of matrices over n classes.
pub told_full : (m : Matrix) {n : ℕ} {rows : List ℕ} {all : Bool} → m.n ≡ n → rows ≡ m.rows
    → all ≡ all_below m.n (λ i. eqb (at m.rows i) (all_bits m.n)) → all ≡ all_below n (λ i. eqb (at rows i) (all_bits n))
told_full m size is told = told ∙ ap₂ (λ n rows. all_below n (λ i. eqb (at rows i) (all_bits n))) size (sym is)

pub told_product : (m : Matrix) {n : ℕ} {rows second own out : List ℕ} → m.n ≡ n → rows ≡ m.rows → second ≡ own
    → Filled 32 (λ i. union_of m.n (at m.rows i) (at own)) m.n out → Filled 32 (λ i. union_of n (at rows i) (at second)) n out
told_product m size is same filled = rw (← size, is, same) filled

module _ {n : ℕ} {matrices : List Matrix} (sized : SameSize n matrices) where
  long : length matrices ≡ 11
  long = sym (length-map matrices (λ m. m.n)) ∙ ap length sized.sizes ∙ length-replicate 11 n

  -- So many are the classes of each of them, and these its rows.
  module _ {k : ℕ} (inside : k < 11) (m : Matrix) where
    pub size_at : (get_or matrices k m).n ≡ n
    size_at = sym (get_or-map (λ m. m.n) matrices k m 0 (omega (arith, inside, long))) ∙ ap (λ l. get_or l k 0) sized.sizes ∙ get_or-replicate 11 k n 0 inside

    pub rows_at : get_or (rows_of matrices) k [] ≡ (get_or matrices k m).rows
    rows_at = get_or-map (λ m. m.rows) matrices k m [] (omega (arith, inside, long))

    pub full_at : {all : Bool} → all ≡ all_below (get_or matrices k m).n (λ i. eqb (at (get_or matrices k m).rows i) (all_bits (get_or matrices k m).n))
        → all ≡ all_below n (λ i. eqb (at (get_or (rows_of matrices) k []) i) (all_bits n))
    full_at told = told_full (get_or matrices k m) size_at rows_at told

    pub square_at : {out : List ℕ}
        → Filled 32 (λ i. union_of (get_or matrices k m).n (at (get_or matrices k m).rows i) (at (get_or matrices k m).rows)) (get_or matrices k m).n out
        → Filled 32 (λ i. union_of n (at (get_or (rows_of matrices) k []) i) (at (get_or (rows_of matrices) k []))) n out
    square_at filled = told_product (get_or matrices k m) size_at rows_at rows_at filled

  -- The first is over n classes.
  pub size_first : size_of matrices ≡ n
  size_first = ap (λ l. get_or l 0 0) sized.sizes

  -- One more over as many classes.
  pub sized_set : {k : ℕ} → k < 11 → (m : Matrix) → m.n ≡ n → SameSize n (set matrices k m)
  sized_set {k} inside m is = record { sizes = map-set_same (λ m. m.n) matrices k m m (is ∙ sym (size_at inside m)) ∙ sized.sizes }
