-- The loop that leads the rules of one class to the class itself, along the places of its cells.
-- Assumes nothing.
use Prim.Native.Nat.{ℕ, suc, ◌+◌, ◌-◌, ◌*◌, ◌≤◌, ◌<◌}
use mathlib.Core.Path.{◌≡◌, refl, ap, sym, ◌∙◌, subst}
use mathlib.Core.Bool.{true, false, cond}
use mathlib.Core.List.{List}
use lib.Dec.{ltb}
use lib.ListN.{length, set}
use native.Mathlib.Decide.{dec_lt}
use native.Mathlib.Omega.{arith}
use borrow.Author.Tests.{lt-ltb, le-ltb}
use Rattle.setchain.specs.Sums.{at}
use Rattle.scheme.specs.Access.{CELL_STRIDE, CELL_PLACES}
use Rattle.scheme.specs.Cause.{outside}
use Rattle.scheme.proofs.Laws.Cause.{outside_false, inside_outside}
use Rattle.order.proofs.Laws.Written.{Rewritten, rewritten_more}
use Rattle.reached.specs.Staying.{staying_rule, StayingRules}

-- The place of a class's first cell.
abbrev pub first_cell : ℕ → ℕ
first_cell class = (class - 1) * CELL_STRIDE

-- What stands at a place when the loop has passed it: before the class's first cell, what stood there.
abbrev pub passed : (classes class place rule : ℕ) → ℕ
passed classes class place rule = cond (ltb place (first_cell class)) rule (staying_rule classes class rule)

-- The rules with k cells led to the class, which there is room for.
pub record Led (classes class : ℕ) (before after : List ℕ) (k : ℕ) : Type 0 where
  pub positive : 1 ≤ class
  pub fits : class ≤ 32
  pub rules : Rewritten CELL_PLACES (passed classes class) before after (first_cell class + k)
  pub cells : k ≤ CELL_STRIDE

module _ (classes class : ℕ) where
  passed_before : (p rule : ℕ) → p < first_cell class → passed classes class p rule ≡ rule
  passed_before p rule l = ap (λ b. cond b rule (staying_rule classes class rule)) (lt-ltb p (first_cell class) l)

  passed_cell : (p rule : ℕ) → first_cell class ≤ p → passed classes class p rule ≡ staying_rule classes class rule
  passed_cell p rule l = ap (λ b. cond b rule (staying_rule classes class rule)) (le-ltb p (first_cell class) l)

  -- Rules of a class that there is no room for: none are led.
  pub led_nowhere : (rules : List ℕ) → outside 32 class ≡ true → StayingRules classes class rules rules
  led_nowhere rules out =
      record {
        own = λ i k e l m.
            ap (λ b. cond b (at rules (i * CELL_STRIDE + k)) (staying_rule classes class (at rules (i * CELL_STRIDE + k))))
            (sym out ∙ inside_outside 32 class (omega arith) (omega arith));
        others = λ i k other m. refl;
      }

  pub led_none : (before : List ℕ) → length before ≡ CELL_PLACES → outside 32 class ≡ false → Led classes class before before 0
  led_none before size inside =
      let range = outside_false 32 class inside in
      record {
        positive = range.0;
        fits = range.1;
        rules = record { size = size; inside = omega (arith, range.1); done = λ p l. sym (passed_before p (at before p) (omega arith)); rest = λ p l. refl };
        cells = omega arith;
      }

  pub led_more : (before after : List ℕ) (k rule : ℕ) → k < CELL_STRIDE → rule ≡ staying_rule classes class (at after (first_cell class + k))
      → Led classes class before after k → Led classes class before (set after (first_cell class + k) rule) (k + 1)
  led_more before after k rule l e w =
      record {
        positive = w.positive;
        fits = w.fits;
        rules =
            subst (Rewritten CELL_PLACES (passed classes class) before (set after (first_cell class + k) rule)) (omega arith)
            (rewritten_more CELL_PLACES (passed classes class) before after (first_cell class + k) rule (omega (arith, w.fits))
            (e ∙ sym (passed_cell (first_cell class + k) (at after (first_cell class + k)) (omega arith)))
            w.rules);
        cells = omega arith;
      }

  pub led_all : (before after : List ℕ) (k : ℕ) → CELL_STRIDE ≤ k → Led classes class before after k → StayingRules classes class before after
  led_all before after k end w =
      record {
        own = λ i q e l m. w.rules.done (i * CELL_STRIDE + q) (omega (arith, w.cells)) ∙ passed_cell (i * CELL_STRIDE + q) _ (omega arith);
        others = λ i q other m. by i q other m (dec_lt (i * CELL_STRIDE + q) (first_cell class));
      }
    where
      by : (i q : ℕ) → (suc i ≡ class → ⊥) → q < CELL_STRIDE → Dec (i * CELL_STRIDE + q < first_cell class)
          → at after (i * CELL_STRIDE + q) ≡ at before (i * CELL_STRIDE + q)
      by i q other m (yes l) = w.rules.done (i * CELL_STRIDE + q) (omega (arith, l)) ∙ passed_before (i * CELL_STRIDE + q) _ l
      by i q other m (no g) = w.rules.rest (i * CELL_STRIDE + q) (omega (arith, w.cells, w.positive))
