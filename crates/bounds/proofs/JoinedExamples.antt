-- Tables joined to one list, computed.
use Rattle.std.specs.Prelude.{◌≡◌, refl, [], ◌∷◌}
use Rattle.bounds.specs.Joined.{joined}

-- The states, the lower ends, the capacities and the counts, in that order, of tables shorter than the code's.
pub joins : joined (record { states = 1 ∷ 2 ∷ []; lower_ends = 3 ∷ 4 ∷ []; capacities = 5 ∷ 6 ∷ []; counts = 7 ∷ [] }) ≡ 1 ∷ 2 ∷ 3 ∷ 4 ∷ 5 ∷ 6 ∷ 7 ∷ []
joins = refl
