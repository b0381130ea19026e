-- Document 01's examples of the ready schemes, computed, and further ones that pin the scales, the premiums and the causes.
use Rattle.std.specs.Prelude.{ℕ, ◌≡◌, refl, [], ◌∷◌, Ok, Err}
use Rattle.setchain.specs.Sums.{sum_to}
use Rattle.setchain.specs.Rows.{ONE}
use Rattle.scheme.specs.declared.Cause.TheVariants.{Ready}
use Rattle.scheme.specs.Tables.{tab}
use Rattle.scheme.specs.Access.{rule_at, premium_at}
use Rattle.scheme.specs.Stored.{up_to, scheme_of, no_scheme}
use Rattle.scheme.proofs.Examples.{scheme_a}
use Rattle.ready_spec.specs.Scales.{classes_of, premium_of, scale1, scale2, scale3, tenths_of}
use Rattle.ready_spec.specs.Ready.{ready_scheme}
use Rattle.ready_spec.specs.Answer.{ready_answer_of, ready_cause}

-- "Scheme 1: class 10 with 3 or 4 claims to 18".
pub three_claims : (base : ℕ) → rule_at (ready_scheme 1 base) 9 3 ≡ 18
unfolding ready_scheme scheme_of up_to tab
three_claims base = refl

pub four_claims : (base : ℕ) → rule_at (ready_scheme 1 base) 9 4 ≡ 18
unfolding ready_scheme scheme_of up_to tab
four_claims base = refl

-- "class 1 with none stays".
pub no_claim : (base : ℕ) → rule_at (ready_scheme 1 base) 0 0 ≡ 1
unfolding ready_scheme scheme_of up_to tab
no_claim base = refl

-- "the last column moves as k = 4 does": class 1 rises by 3 × 4 − 1.
pub last_column : (base : ℕ) → rule_at (ready_scheme 1 base) 0 4 ≡ 12
unfolding ready_scheme scheme_of up_to tab
last_column base = refl

-- "m is 5 … Start is 10, horizon 40. A band is 0 to ONE in each column": of each of the three.
pub record Form (number base : ℕ) : Type 0 where
  pub columns : (ready_scheme number base).columns ≡ 5
  pub start : (ready_scheme number base).start ≡ 10
  pub horizon : (ready_scheme number base).horizon ≡ 40
  pub lowers : (ready_scheme number base).lowers ≡ 0 ∷ 0 ∷ 0 ∷ 0 ∷ 0 ∷ 0 ∷ 0 ∷ 0 ∷ []
  pub uppers : (ready_scheme number base).uppers ≡ ONE ∷ ONE ∷ ONE ∷ ONE ∷ ONE ∷ 0 ∷ 0 ∷ 0 ∷ []

pub forms : (number base : ℕ) → Form number base
unfolding ready_scheme scheme_of up_to tab
forms number base = record { columns = refl; start = refl; horizon = refl; lowers = refl; uppers = refl }

-- "Scheme 1: s 18, c 3. Scheme 2: s 18, c 4. Scheme 3: s 24, c 4.": one claim raises class 2 by c − 1, two raise class 10 by 2 c − 1,
-- none lowers class 10 by 1, and class 18 with a claim is held to s.
pub record Moves : Type 0 where
  pub classes : (classes_of 1 ≡ 18) × (classes_of 2 ≡ 18) × (classes_of 3 ≡ 24)
  pub one : (rule_at (ready_scheme 1 0) 1 1 ≡ 4) × (rule_at (ready_scheme 2 0) 1 1 ≡ 5) × (rule_at (ready_scheme 3 0) 1 1 ≡ 5)
  pub two : (rule_at (ready_scheme 1 0) 9 2 ≡ 15) × (rule_at (ready_scheme 2 0) 9 2 ≡ 17) × (rule_at (ready_scheme 3 0) 9 2 ≡ 17)
  pub none : (rule_at (ready_scheme 1 0) 9 0 ≡ 9) × (rule_at (ready_scheme 2 0) 9 0 ≡ 9) × (rule_at (ready_scheme 3 0) 9 0 ≡ 9)
  pub held : (rule_at (ready_scheme 1 0) 17 1 ≡ 18) × (rule_at (ready_scheme 2 0) 17 1 ≡ 18) × (rule_at (ready_scheme 3 0) 17 1 ≡ 21)

pub moves : Moves
unfolding ready_scheme scheme_of up_to tab
moves = record { classes = (refl, refl, refl); one = (refl, refl, refl); two = (refl, refl, refl); none = (refl, refl, refl); held = (refl, refl, refl) }

-- The premiums of class 1 and of class s at base 1,000, each scheme's smallest and largest tenths, and 0 stored beyond s.
pub record Premiums : Type 0 where
  pub first : (premium_at (ready_scheme 1 1000) 0 ≡ 792) × (premium_at (ready_scheme 2 1000) 0 ≡ 701) × (premium_at (ready_scheme 3 1000) 0 ≡ 541)
  pub last : (premium_at (ready_scheme 1 1000) 17 ≡ 3579) × (premium_at (ready_scheme 2 1000) 17 ≡ 2944) × (premium_at (ready_scheme 3 1000) 23 ≡ 3953)
  pub beyond : (premium_at (ready_scheme 1 1000) 18 ≡ 0) × (premium_at (ready_scheme 2 1000) 18 ≡ 0) × (premium_at (ready_scheme 3 1000) 24 ≡ 0)

pub premiums : Premiums
unfolding ready_scheme scheme_of up_to tab scale1 scale2 scale3
premiums = record { first = (refl, refl, refl); last = (refl, refl, refl); beyond = (refl, refl, refl) }

-- "every operation that makes a scheme sets them to 0": rules past column 5 and past class 18.
pub zero_beyond : (base : ℕ) → (rule_at (ready_scheme 1 base) 0 5 ≡ 0) × (rule_at (ready_scheme 1 base) 18 0 ≡ 0)
unfolding ready_scheme scheme_of up_to tab
zero_beyond base = (refl, refl)

-- The tenths of each scale, summed over document 01's digits.
pub scale_sums : (sum_to 18 (tenths_of 1) ≡ 29681) × (sum_to 18 (tenths_of 2) ≡ 25624) × (sum_to 24 (tenths_of 3) ≡ 42656)
unfolding scale1 scale2 scale3 sum_to
scale_sums = (refl, refl, refl)

-- "rounded down": class 1 of scheme 1 at base 1, and class 18 at base 100,000.
pub premiums_down : (premium_of 1 1 0 ≡ 0) × (premium_of 1 100000 17 ≡ 357900)
unfolding scale1
premiums_down = (refl, refl)

-- "Tests run in number order": ready scheme 0 at a base above its limit, scheme 3 at the limit and above it.
pub causes : (ready_cause 0 2500001 ≡ 14) × (ready_cause 3 2500000 ≡ 0) × (ready_cause 3 2500001 ≡ 15) × (ready_cause 4 0 ≡ 14)
causes = (refl, refl, refl, refl)

-- A scheme is answered as it is, and a cause with its number and no scheme.
pub scheme_is : ready_answer_of (Ok scheme_a) ≡ record { number = 0; scheme = scheme_a }
unfolding no_scheme
scheme_is = refl

pub none_is : ready_answer_of (Err Ready) ≡ record { number = 14; scheme = no_scheme }
none_is = refl
