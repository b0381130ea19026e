-- The chance of having reached a class by a year (document 02, item 9): what the call answers, and what the answer promises.
use Rattle.std.specs.Prelude.{ℕ, ◌-◌, ◌≡◌, true, false, List}
use Rattle.setchain.specs.Fractions.{Fraction}
use Rattle.setchain.specs.Picks.{Matrix}
use Rattle.setchain.specs.Reached.{reached_figure, reached_in_parts}
use Rattle.scheme.specs.declared.Scheme.{Scheme}
use Rattle.scheme.specs.Rows.{chain_of}
use Rattle.bounds_spec.specs.Answers.{BoundsAnswer, number_of, low_of, high_of, answer_by, start_of}
use Rattle.bounds_spec.specs.Causes.{share_cause}
use Rattle.bounds_spec.specs.Promises.{ShareKept}

-- The start class's figure, low and high: "Causes 11 and 12 apply", after 3 and 5 to 10, as for the share of a class.
unfoldable pub reached_answer : Scheme → (class year : ℕ) → BoundsAnswer
reached_answer s class year =
    answer_by (share_cause s class year)
    (reached_figure false (chain_of s) (class - 1) year (start_of s))
    (reached_figure true (chain_of s) (class - 1) year (start_of s))

-- "The true chance" for state j, in parts, seen from the start class.
abbrev pub start_reached : Scheme → ℕ → List Matrix → Fraction
start_reached s j ps = reached_in_parts s.classes j ps (start_of s)

-- "No picks of yearly matrices inside the interval may carry the true chance outside, and some bring it within t parts", of the low and high answered.
abbrev pub ReachedPromise : Scheme → (class year : ℕ) → BoundsAnswer → Type 0
ReachedPromise s class year r = number_of r ≡ 0 → ShareKept s year (start_reached s (class - 1)) (low_of r) (high_of r)
