-- Narrower bands move the one-year step's figures inward (document 02, item 1).
use Rattle.std.specs.Prelude.{◌≡◌, Bool}
use Rattle.setchain.specs.Step.{NotAfter}
use Rattle.step_spec.specs.StepAnswer.{StepAnswer}

-- The same call is answered, a low figure no smaller, a high one no larger.
pub record StepInward (high : Bool) (wide narrow : StepAnswer) : Type 0 where
  pub number : wide.number ≡ narrow.number
  pub figure : NotAfter high wide.figure narrow.figure
