-- How large the figures of an accepted scheme are at most.
use Rattle.std.specs.Prelude.{ℕ, ◌+◌, ◌*◌, ◌≤◌, ◌<◌, Bool, eqb}
use Rattle.std.proofs.Common.{arith}
use Rattle.setchain.specs.Rows.{ONE}
use Rattle.setchain.specs.Years.{years_figure, nothing, share_payoff, share_figure, CENT, tenths, mean_figure, total_figure}
use Rattle.setchain.proofs.Laws.Sums.{only_if_le}
use Rattle.setchain.proofs.Laws.Rounding.{rounded_at_most}
use Rattle.setchain.proofs.Laws.Step.{years_at_most}
use Rattle.scheme.specs.declared.Scheme.{Scheme}
use Rattle.scheme.specs.Accepted.{Accepted}
use Rattle.scheme.specs.Access.{premium_at}
use Rattle.scheme.specs.Rows.{chain_of}
use Rattle.scheme.proofs.Laws.Sound.{accepted_sound}
use Rattle.bounds_spec.specs.Answers.{start_of}

-- The start class's figures of an accepted scheme, low or high: shares at most ONE, means at most 10,000,000, totals of t years at most t times that.
module _ (high : Bool) (s : Scheme) (ok : Accepted s) where
  start_at_most : (payoff gain : ℕ → ℕ) (top rise : ℕ)
      → ((i : ℕ) → i < s.classes → payoff i ≤ top) → ((i : ℕ) → i < s.classes → gain i ≤ rise)
      → (t : ℕ) → years_figure high (chain_of s) payoff gain t (start_of s) ≤ top + t * rise
  start_at_most payoff gain top rise payoffs gains t =
      years_at_most high (chain_of s) (accepted_sound s ok) payoff gain top rise payoffs gains t (start_of s) (omega (arith, ok.start.positive, ok.start.within))

  pub share_at_most : (j t : ℕ) → share_figure high (chain_of s) j t (start_of s) ≤ ONE
  share_at_most j t = omega (arith, start_at_most (share_payoff j) nothing ONE 0 (λ i l. only_if_le (eqb i j) ONE) (λ i l. omega arith) t)

  premium_at_most : (i : ℕ) → i < s.classes → tenths (premium_at s) i ≤ 100000000
  premium_at_most i l = omega (arith, ok.premiums.within i l)

  pub mean_at_most : (t : ℕ) → mean_figure high (chain_of s) (premium_at s) t (start_of s) ≤ 10000000
  mean_at_most t =
      rounded_at_most CENT (omega arith) high _ 10000000 (omega (arith, start_at_most (tenths (premium_at s)) nothing 100000000 0 premium_at_most (λ i l. omega arith) t))

  pub total_at_most : (t : ℕ) → total_figure high (chain_of s) (premium_at s) t (start_of s) ≤ t * 10000000
  total_at_most t =
      rounded_at_most CENT (omega arith) high _ (t * 10000000) (omega (arith, start_at_most nothing (tenths (premium_at s)) 0 100000000 (λ i l. omega arith) premium_at_most t))
