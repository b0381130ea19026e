-- A call for a class and a year that are there has no cause.
use Rattle.std.specs.Prelude.{ℕ, ◌≤◌, ◌≡◌}
use Rattle.std.proofs.Common.{◌∙◌, le-ltb}
use Rattle.scheme.specs.declared.Scheme.{Scheme}
use Rattle.scheme.specs.Accepted.{Accepted}
use Rattle.scheme.specs.FirstCause.{or_else}
use Rattle.scheme.specs.Cause.{outside, cause_of, class_cause, year_cause}
use Rattle.scheme.proofs.Laws.FirstCause.{second_cause, cond_false}
use Rattle.scheme.proofs.Laws.Cause.{inside_outside}
use Rattle.scheme.proofs.Laws.Judged.{cause_accepted}
use Rattle.bounds_spec.specs.Causes.{share_cause}

pub no_year_cause : (s : Scheme) (t : ℕ) → t ≤ s.horizon → year_cause s t ≡ 0
no_year_cause s t h = simp (le-ltb s.horizon t h)

pub no_share_cause : (s : Scheme) → Accepted s → (class t : ℕ) → 1 ≤ class → class ≤ s.classes → t ≤ s.horizon → share_cause s class t ≡ 0
no_share_cause s ok class t low high h =
    second_cause (cause_of s) (or_else (class_cause s class) (year_cause s t)) (cause_accepted s ok)
    ∙ second_cause (class_cause s class) (year_cause s t) (cond_false (outside s.classes class) 11 0 (inside_outside s.classes class low high))
    ∙ no_year_cause s t h
