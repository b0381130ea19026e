-- A text in a lent slice, as struct `Text` holds it.
use Rattle.std.specs.Prelude.{ℕ, ◌≡◌, List}
use Rattle.sheet_text.specs.declared.text.Text.{Text}
use Rattle.sheet_text.specs.Put.{Space, Put}

-- The slice has space for more where the text ends.
abbrev pub Fits : Text → List ℕ → Type 0
Fits text more = Space text.out.now text.at more

-- More was put where the text before ended, into the same slice.
pub record Wrote (before : Text) (more : List ℕ) (after : Text) : Type 0 where
  pub same_slice : after.out.ghost_name ≡ before.out.ghost_name
  pub put : Put before.out.now before.at more after.out.now after.at
