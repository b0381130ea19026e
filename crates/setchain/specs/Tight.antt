-- Tight rows (document 02, item 2; source 001, section 2): the ends of an interval row drawn in to what the stochastic rows inside it reach.
use Rattle.std.specs.Prelude.{ℕ, min, max, ◌-◌, ◌*◌, ◌<◌, ◌≡◌, Bool, true, false, not, eqb, ltb}
use Rattle.setchain.specs.Sums.{sum_to, only_if}
use Rattle.setchain.specs.Rows.{ONE, IntervalRow, Row, Inside, SetChain}
use Rattle.setchain.specs.Step.{NotAfter}

-- The sum of f over the states below n other than j.
abbrev pub sum_others : ℕ → (ℕ → ℕ) → ℕ → ℕ
sum_others n f j = sum_to n (λ k. only_if (not (eqb k j)) (f k))

-- "The lower entry becomes the larger of the old one and ONE minus the other upper entries, never below 0. The upper entry becomes the smaller
-- of the old one and ONE minus the other lower entries. Both use the old entries." Entries from n on are 0.
abbrev pub tight_row : ℕ → IntervalRow → IntervalRow
tight_row n r =
    record {
      lower = λ j. only_if (ltb j n) (max (r.lower j) (ONE - sum_others n r.upper j));
      upper = λ j. only_if (ltb j n) (min (r.upper j) (ONE - sum_others n r.lower j));
    }

-- The chain with each row made tight.
abbrev pub tight_chain : SetChain → SetChain
tight_chain c = record { states = c.states; row = λ i. tight_row c.states (c.row i) }

-- The lower end of an entry, or, where `high` is set, the upper end.
abbrev pub end_of : (high : Bool) → IntervalRow → ℕ → ℕ
end_of false r = r.lower
end_of true r = r.upper

-- `parts` is the least entry j, or, where `high` is set, the greatest, of all stochastic rows inside r, over every M.
pub record ExtremeEntry (high : Bool) (n : ℕ) (r : IntervalRow) (j parts : ℕ) : Type 0 where
  -- A row inside that has it.
  pub witness : Row
  pub inside : Inside n r witness
  pub reached : witness.entry j * ONE ≡ parts * witness.over
  -- No row inside goes past it.
  pub extreme : (q : Row) → Inside n r q → NotAfter high (parts * q.over) (q.entry j * ONE)

-- Source 001's definition: "A vector interval [k, q] is tight if" each lower end is the minimum, and each upper end the maximum,
-- of that entry over the stochastic vectors in the interval.
pub record Tight (n : ℕ) (r : IntervalRow) : Type 0 where
  pub minima : (j : ℕ) → j < n → ExtremeEntry false n r j (r.lower j)
  pub maxima : (j : ℕ) → j < n → ExtremeEntry true n r j (r.upper j)
