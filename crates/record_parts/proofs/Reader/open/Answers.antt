-- `open` meets its contract: the reader is over the bytes, or over an empty part.
use Rattle.std.proofs.Common.{refl, sym, ap, ◌∙◌}
use Rattle.record_parts.specs.Laws.Checked.{passed_none, declined_some}
use Rattle.record_parts.specs.Laws.Reader.{part_accepted, part_declined}
use Rattle.record_parts.proofs.Reader.open.Goals.{then-is_ok, else-is_ok}
use Rattle.record_parts.proofs.Reader.open.Goals as goal

pub returns : goal.returns
returns c =
    elim c.if-is_ok.branch [
      | then-is_ok w ↦
          let none = passed_none _ (sym w.if-is_ok.ensures.value) c.check-checked.ensures in
          (c.check-checked.ensures, ap (λ part. part.now) w.part-is ∙ part_accepted _ refl none, λ _. w.part-is, refl)
      | else-is_ok w ↦
          let some = declined_some _ (sym w.if-is_ok.ensures.value) c.check-checked.ensures in
          (c.check-checked.ensures, ap (λ part. part.now) w.part-is ∙ part_declined _ refl some, λ none. absurd (some none), refl)
    ]
