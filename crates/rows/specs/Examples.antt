-- A row copied, computed.
use Rattle.std.specs.Prelude.{◌≡◌, refl, [], ◌∷◌}
use Rattle.rows.specs.Rows.{copied_into}

-- A slice of the row's length holds the row afterwards; a shorter and a longer one hold what they held.
pub copies : (copied_into (1 ∷ 2 ∷ []) (7 ∷ 7 ∷ []) ≡ 1 ∷ 2 ∷ []) × (copied_into (1 ∷ 2 ∷ []) (7 ∷ []) ≡ 7 ∷ []) × (copied_into (1 ∷ 2 ∷ []) (7 ∷ 7 ∷ 7 ∷ []) ≡ 7 ∷ 7 ∷ 7 ∷ [])
copies = (refl, refl, refl)
