-- The front of an array that is lent and written by a rule.
-- Assumes nothing.
use Prim.Native.Nat.{ℕ, ◌≤◌}
use mathlib.Core.Path.{◌≡◌, ap, ◌∙◌}
use mathlib.Core.List.{List, ◌++◌}
use lib.ListN.{length, take, replicate}
use lib.Seq.{take_at}
use Rattle.scheme.specs.Tables.{tab}
use Rattle.scheme.proofs.Laws.Tab.{length_tab}
use Rattle.rows.specs.Laws.Front.{front_lent}

-- An array of 32 before it is written.
abbrev pub zeros : List ℕ
zeros = replicate 32 0

-- A front of n that was lent and written whole is what was written.
pub front_made : (n : ℕ) (after rest : List ℕ) → n ≤ 32 → (f : ℕ → ℕ) → after ≡ tab (length (take n zeros)) f → take n (after ++ rest) ≡ tab n f
front_made n after rest few f made =
    let is : after ≡ tab n f = made ∙ ap (λ k. tab k f) (front_lent n few) in
    take_at after rest n (ap length is ∙ length_tab n f) ∙ is
