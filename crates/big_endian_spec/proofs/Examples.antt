-- Numbers read and put, computed; the values are those of document 01's example A.
use Rattle.std.specs.Prelude.{◌≡◌, refl, [], ◌∷◌}
use Rattle.big_endian_spec.specs.Numbers.{be_at, be_bytes, number_at, number_put, part_put}

-- 800000000 in 4 bytes and 45 in 2, at places that hold them and one past, and 5 bytes.
pub number_read :
    (number_at 4 (9 ∷ 47 ∷ 175 ∷ 8 ∷ 0 ∷ []) 1 ≡ 800000000) × (number_at 2 (1 ∷ 0 ∷ 45 ∷ []) 1 ≡ 45) × (number_at 2 (1 ∷ 0 ∷ 45 ∷ []) 2 ≡ 0)
    × (number_at 5 (9 ∷ 47 ∷ 175 ∷ 8 ∷ 0 ∷ []) 0 ≡ 0)
unfolding number_at be_at
number_read = (refl, refl, refl, refl)

-- The same numbers put there.
pub number_put_lem :
    (number_put 4 (9 ∷ 0 ∷ 0 ∷ 0 ∷ 1 ∷ []) 1 800000000 ≡ 9 ∷ 47 ∷ 175 ∷ 8 ∷ 0 ∷ []) × (number_put 2 (1 ∷ 7 ∷ 7 ∷ []) 1 45 ≡ 1 ∷ 0 ∷ 45 ∷ [])
    × (number_put 2 (1 ∷ 7 ∷ 7 ∷ []) 2 45 ≡ 1 ∷ 7 ∷ 7 ∷ [])
unfolding number_put be_bytes
number_put_lem = (refl, refl, refl)

-- Two bytes copied, and none where one of the slices does not hold them.
pub part_put_lem :
    (part_put 2 (7 ∷ 8 ∷ 9 ∷ []) 1 (0 ∷ 1 ∷ 2 ∷ []) 0 ≡ 8 ∷ 9 ∷ 2 ∷ []) × (part_put 2 (7 ∷ 8 ∷ 9 ∷ []) 2 (0 ∷ 1 ∷ 2 ∷ []) 0 ≡ 0 ∷ 1 ∷ 2 ∷ [])
    × (part_put 2 (7 ∷ 8 ∷ 9 ∷ []) 1 (0 ∷ 1 ∷ 2 ∷ []) 2 ≡ 0 ∷ 1 ∷ 2 ∷ []) × (part_put 2 (7 ∷ 8 ∷ 9 ∷ []) 1 (0 ∷ []) 0 ≡ 0 ∷ [])
unfolding part_put
part_put_lem = (refl, refl, refl, refl)
