-- A number above its limit, looked for by `any` over the front of a list: cause 10, or none.
-- Assumes nothing.
use Rattle.std.specs.Prelude.{ℕ, ◌≤◌, ◌≡◌, Bool, true, false, List, length, ltb}
use Rattle.std.specs.List.{list_any}
use Rattle.std.proofs.Common.{take, sym, ◌∙◌}
use Rattle.setchain.proofs.Laws.Fronts.{any_front}
use Rattle.scheme.specs.Stages.{limit_cause}
use Rattle.scheme.proofs.Laws.FirstCause.{cond_true, cond_false}

module _ (limit : ℕ) (numbers : List ℕ) (n : ℕ) (enough : n ≤ length numbers) {above : Bool} (is : above ≡ list_any (ltb limit) (take n numbers)) where
  pub limit_passed : above ≡ true → 10 ≡ limit_cause limit numbers n
  limit_passed e = sym (cond_true _ 10 0 (sym (any_front (ltb limit) 0 numbers n enough) ∙ sym is ∙ e))

  pub limit_kept : above ≡ false → 0 ≡ limit_cause limit numbers n
  limit_kept e = sym (cond_false _ 10 0 (sym (any_front (ltb limit) 0 numbers n enough) ∙ sym is ∙ e))
