-- The answer of the mixing check (document 02, items 3 and 11).
use Rattle.std.specs.Prelude.{ℕ, Bool, cond, [], ◌∷◌, eqb, Result, Ok, Err}
use Rattle.scheme.specs.declared.Cause.{Cause}
use Rattle.scheme.specs.Number.{cause_number}
use Rattle.setchain.specs.Tests.{first_from}
use Rattle.setchain.specs.Tight.{tight_chain}
use Rattle.setchain.specs.Mixing.{edges_of, mixes}
use Rattle.scheme.specs.declared.Scheme.{Scheme}
use Rattle.scheme.specs.FirstCause.{◌when◌, first_of}
use Rattle.scheme.specs.Cause.{cause_of}
use Rattle.scheme.specs.Rows.{chain_of}

-- What the mixing check answers: the number of the cause, or 0; and the first count of years that mixes.
pub record MixingAnswer : Type 0 where
  pub number : ℕ
  pub count : ℕ

-- The answer of a count, or of the cause for which there is none.
abbrev pub mixing_answer_of : Result ℕ Cause → MixingAnswer
mixing_answer_of (Ok count) = record { number = 0; count = count }
mixing_answer_of (Err cause) = record { number = cause_number cause; count = 0 }

-- The edges of a scheme: "A new operation looks at the tight lower rows", and each step has "a lower entry above 0". Class i + 1 is i.
abbrev pub scheme_edges : Scheme → (i j : ℕ) → Bool
scheme_edges s = edges_of (tight_chain (chain_of s))

-- "every class can go to every class in exactly that many years".
unfoldable pub mixes_scheme : Scheme → (count : ℕ) → Bool
mixes_scheme s count = mixes s.classes (scheme_edges s) count

-- "the first year count that qualifies, with none below it" (item 11), of 1 to 1,024, or 0 where none of them does.
unfoldable pub first_count : Scheme → ℕ
first_count s = first_from 1024 1 (mixes_scheme s)

-- Cause 16: "if no such count up to 1,024 exists".
abbrev pub mixing_cause : Scheme → ℕ
mixing_cause s = 16 when eqb (first_count s) 0

-- Causes 3, 5 to 10, then 16, "tested after 10".
abbrev pub mixing_number : Scheme → ℕ
mixing_number s = first_of (cause_of s ∷ mixing_cause s ∷ [])

-- What the mixing check answers: the first cause that applies, or 0; and the first count that mixes, or 0 where the call is declined.
abbrev pub mixing_answer : Scheme → MixingAnswer
mixing_answer s = record { number = mixing_number s; count = cond (eqb (mixing_number s) 0) (first_count s) 0 }
