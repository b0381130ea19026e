-- The scheme in which nobody leaves a class.
use Rattle.std.specs.Prelude.{ℕ, suc, ◌+◌, ◌*◌, ◌<◌, ◌≡◌, cond, List}
use Rattle.setchain.specs.Sums.{at}
use Rattle.scheme.specs.declared.Scheme.{Scheme}
use Rattle.scheme.specs.Access.{CELL_STRIDE}
use Rattle.scheme.specs.Cause.{outside}

-- A rule that leads to one of the classes leads to the class itself; one that leads to none is left.
abbrev pub staying_rule : (classes class rule : ℕ) → ℕ
staying_rule classes class rule = cond (outside classes rule) rule class

-- The rules of the class are led so, and those of the others are as they were.
pub record StayingRules (classes class : ℕ) (before after : List ℕ) : Type 0 where
  pub own : (i k : ℕ) → suc i ≡ class → i < 32 → k < CELL_STRIDE → at after (i * CELL_STRIDE + k) ≡ staying_rule classes class (at before (i * CELL_STRIDE + k))
  pub others : (i k : ℕ) → (suc i ≡ class → ⊥) → k < CELL_STRIDE → at after (i * CELL_STRIDE + k) ≡ at before (i * CELL_STRIDE + k)

-- A scheme with other rules.
abbrev pub with_rules : Scheme → List ℕ → Scheme
with_rules s rules =
    record {
      classes = s.classes;
      columns = s.columns;
      start = s.start;
      horizon = s.horizon;
      rules = rules;
      lowers = s.lowers;
      uppers = s.uppers;
      premiums = s.premiums;
    }
