-- What is true of the chances that are answered (document 02, item 9): ONE for the start class itself, and never less in a later year.
use Rattle.std.specs.Prelude.{◌-◌, ◌≤◌, ◌≡◌}
use Rattle.bounds_spec.specs.Answers.{BoundsAnswer, number_of, low_of, high_of}

-- The year before is answered, and in the later one neither the low nor the high figure is smaller.
pub record Rises (before after : BoundsAnswer) : Type 0 where
  pub number : number_of before ≡ 0
  pub low : low_of before ≤ low_of after
  pub high : high_of before ≤ high_of after
