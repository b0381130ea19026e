-- The rules of one class, read and written as a part of the rules of all classes.
-- Assumes nothing.
use Rattle.std.specs.Prelude.{ℕ, suc, ◌+◌, ◌-◌, ◌*◌, ◌≤◌, ◌<◌, ◌≡◌, List, ◌++◌, length, take, drop, false}
use Rattle.std.proofs.Common.{ap, sym, ◌∙◌, arith, length-take, length-drop, get_or-take, get_or-drop}
use Rattle.std.proofs.Math.ListN.{get_or-append}
use Rattle.std.proofs.Math.Decide.{dec_lt}
use Rattle.std.proofs.lemmas.List.{get_or-append_right}
use Rattle.setchain.specs.Sums.{at}
use Rattle.scheme.specs.Access.{CELL_STRIDE, CELL_PLACES}
use Rattle.scheme.specs.Cause.{outside}
use Rattle.scheme.proofs.Laws.Cause.{outside_false}
use Rattle.order.proofs.Laws.Written.{Rewritten}
use Rattle.reached.specs.Staying.{staying_rule, StayingRules}
use Rattle.reached.proofs.RulesLaws.{first_cell}

-- The rules of a class that there is room for.
module _ (class : ℕ) (rules : List ℕ) (size : length rules ≡ CELL_PLACES) (inside : outside 32 class ≡ false) where
  abbrev pub cells : List ℕ
  cells = take CELL_STRIDE (drop (first_cell class) rules)

  -- What lies behind them.
  abbrev pub beyond : List ℕ
  beyond = drop CELL_STRIDE (drop (first_cell class) rules)

  -- The rules with others in their place.
  abbrev pub with_cells : List ℕ → List ℕ
  with_cells part = take (first_cell class) rules ++ (part ++ beyond)

  room : first_cell class + CELL_STRIDE ≤ length rules
  room = let range = outside_false 32 class inside in omega (arith, range.1, size)

  front_size : length (take (first_cell class) rules) ≡ first_cell class
  front_size = omega (arith, length-take (first_cell class) rules, room)

  pub cells_size : length cells ≡ CELL_STRIDE
  cells_size = omega (arith, length-take CELL_STRIDE (drop (first_cell class) rules), length-drop (first_cell class) rules, room)

  cell_at : (k : ℕ) → k < CELL_STRIDE → at cells k ≡ at rules (first_cell class + k)
  cell_at k l = get_or-take CELL_STRIDE (drop (first_cell class) rules) k 0 l ∙ get_or-drop (first_cell class) rules k 0

  module _ (part : List ℕ) (whole : length part ≡ CELL_STRIDE) where
    before_cells : (p : ℕ) → p < first_cell class → at (with_cells part) p ≡ at rules p
    before_cells p l =
        get_or-append (take (first_cell class) rules) (part ++ beyond) 0 p (omega (arith, front_size))
        ∙ get_or-take (first_cell class) rules p 0 l

    from_cells : (p : ℕ) → first_cell class ≤ p → at (with_cells part) p ≡ at (part ++ beyond) (p - first_cell class)
    from_cells p l = get_or-append_right (take (first_cell class) rules) (part ++ beyond) (first_cell class) p 0 front_size l

    in_cells : (k : ℕ) → k < CELL_STRIDE → at (with_cells part) (first_cell class + k) ≡ at part k
    in_cells k l =
        from_cells (first_cell class + k) (omega arith)
        ∙ ap (at (part ++ beyond)) (omega arith)
        ∙ get_or-append part beyond 0 k (omega (arith, whole))

    after_cells : (k : ℕ) → at (with_cells part) (first_cell class + CELL_STRIDE + k) ≡ at rules (first_cell class + CELL_STRIDE + k)
    after_cells k =
        from_cells (first_cell class + CELL_STRIDE + k) (omega arith)
        ∙ get_or-append_right part beyond CELL_STRIDE (first_cell class + CELL_STRIDE + k - first_cell class) 0 whole (omega arith)
        ∙ ap (at beyond) (omega arith)
        ∙ get_or-drop CELL_STRIDE (drop (first_cell class) rules) k 0
        ∙ get_or-drop (first_cell class) rules (CELL_STRIDE + k) 0
        ∙ ap (at rules) (omega arith)

  -- All of them led.
  pub led_part : {classes k : ℕ} {part : List ℕ} → CELL_STRIDE ≤ k → Rewritten CELL_STRIDE (λ q. staying_rule classes class) cells part k
      → StayingRules classes class rules (with_cells part)
  led_part {classes} {k} {part} end w =
      record {
        own = λ i q e l m. own i q e m;
        others = λ i q other m. by i q other m (dec_lt (i * CELL_STRIDE + q) (first_cell class));
      }
    where
      own : (i q : ℕ) → suc i ≡ class → q < CELL_STRIDE → at (with_cells part) (i * CELL_STRIDE + q) ≡ staying_rule classes class (at rules (i * CELL_STRIDE + q))
      own i q e m =
          let place : first_cell class + q ≡ i * CELL_STRIDE + q = omega arith in
          ap (at (with_cells part)) (sym place)
          ∙ in_cells part w.size q m
          ∙ w.done q (omega arith)
          ∙ ap (staying_rule classes class) (cell_at q m ∙ ap (at rules) place)

      by : (i q : ℕ) → (suc i ≡ class → ⊥) → q < CELL_STRIDE → Dec (i * CELL_STRIDE + q < first_cell class)
          → at (with_cells part) (i * CELL_STRIDE + q) ≡ at rules (i * CELL_STRIDE + q)
      by i q other m (yes l) = before_cells part w.size (i * CELL_STRIDE + q) l
      by i q other m (no g) =
          let k = i * CELL_STRIDE + q - (first_cell class + CELL_STRIDE) in
          let positive = (outside_false 32 class inside).0 in
          let place : first_cell class + CELL_STRIDE + k ≡ i * CELL_STRIDE + q = omega (arith, positive, other, g) in
          ap (at (with_cells part)) (sym place) ∙ after_cells part w.size k ∙ ap (at rules) place
