-- "the first that applies is returned" (document 01, "When a call is declined"): once for all causes, over a list of tests in their order.
use Rattle.std.specs.Prelude.{ℕ, Bool, cond, List, [], ◌∷◌, eqb}

infix 75 ◌when◌
-- A test with its number: the number where its cause applies, and 0 where it does not.
abbrev pub ◌when◌ : ℕ → Bool → ℕ
number when applies = cond applies number 0

-- The first of two causes: 0 is none.
abbrev pub or_else : ℕ → ℕ → ℕ
or_else first second = cond (eqb first 0) second first

-- The first cause of a list that is not 0, or 0.
abbrev pub first_of : List ℕ → ℕ
first_of [] = 0
first_of (cause ∷ []) = cause
first_of (cause ∷ next ∷ rest) = or_else cause (first_of (next ∷ rest))

-- A line of the table of causes: its number, its test, and what holds where the test fails.
pub record Line : Type 1 where
  pub number : ℕ
  pub applies : Bool
  pub Fits : Type 0

-- The tests of a table, in its order.
abbrev pub tests : List Line → List ℕ
tests [] = []
tests (line ∷ rest) = line.number when line.applies ∷ tests rest

-- Everything that the table asks for holds.
abbrev pub AllFit : List Line → Type 0
AllFit [] = Unit {0}
AllFit (line ∷ rest) = line.Fits × AllFit rest

-- The first cause that applies has this number: what its line asks for fails, and what the lines before it ask for holds.
pub data FirstFails : List Line → ℕ → Type 1 where
  here : {line : Line} {rest : List Line} → ¬ line.Fits → FirstFails (line ∷ rest) line.number
  later : {line : Line} {rest : List Line} {number : ℕ} → line.Fits → FirstFails rest number → FirstFails (line ∷ rest) number
