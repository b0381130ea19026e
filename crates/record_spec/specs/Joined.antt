-- Lists laid one after another, as a record's fields are.
use Rattle.std.specs.Prelude.{ℕ, zero, suc, List, [], ◌++◌}

-- The lists f 0, f 1, … f (n − 1), one after another.
unfoldable pub joined : ℕ → (ℕ → List ℕ) → List ℕ
joined zero f = []
joined (suc n) f = joined n f ++ f n
