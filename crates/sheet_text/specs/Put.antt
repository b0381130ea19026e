-- Text put into a lent slice from a place on.
use Rattle.std.specs.Prelude.{ℕ, ◌+◌, ◌≤◌, ◌≡◌, List, length}
use Rattle.std.proofs.lemmas.List.Edits.{sets}

-- The slice has space for the text from the place on.
pub record Space (slice : List ℕ) (at : ℕ) (text : List ℕ) : Type 0 where
  pub fits : at + length text ≤ length slice

-- The text stands from the place on, all else is as it was, and `to` is the place after it.
pub record Put (before : List ℕ) (at : ℕ) (text after : List ℕ) (to : ℕ) : Type 0 where
  pub holds : after ≡ sets before at text
  pub place : to ≡ at + length text
