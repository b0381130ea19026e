-- The loop that looks for a number above its limit, cause 10: where it begins, one turn more, and its two ends.
use Rattle.std.specs.Prelude.{ℕ, ◌+◌, ◌≤◌, ◌<◌, ◌≡◌, false, List, ltb, get_or}
use Rattle.std.proofs.Common.{sym, arith, lt-ltb, le-ltb}
use Rattle.setchain.specs.Tests.{any_below}
use Rattle.setchain.proofs.Laws.Tests.{any_none, any_more, any_hit, any_end}
use Rattle.scheme.specs.Stages.{limit_cause}
use Rattle.scheme.proofs.Laws.FirstCause.{cond_true, cond_false}

-- Of n numbers none before place i is above the limit.
pub record NoneAbove (limit : ℕ) (numbers : List ℕ) (n i : ℕ) : Type 0 where
  pub within : i ≤ n
  pub none : any_below i (λ j. ltb limit (get_or numbers j 0)) ≡ false

module _ {limit : ℕ} {numbers : List ℕ} {n : ℕ} where
  pub above_none : NoneAbove limit numbers n 0
  above_none = record { within = omega arith; none = any_none _ }

  module _ {i : ℕ} (w : NoneAbove limit numbers n i) where
    -- The number at place i is not.
    pub above_more : i < n → get_or numbers i 0 ≤ limit → NoneAbove limit numbers n (i + 1)
    above_more l h = record { within = omega arith; none = any_more i _ w.none (le-ltb limit (get_or numbers i 0) h) }

    -- It is.
    pub above_found : i < n → limit < get_or numbers i 0 → 10 ≡ limit_cause limit numbers n
    above_found l h = sym (cond_true _ 10 0 (any_hit n i _ l (lt-ltb limit (get_or numbers i 0) h)))

    -- All have been tried.
    pub above_end : n ≤ i → 0 ≡ limit_cause limit numbers n
    above_end h = sym (cond_false _ 10 0 (sym (any_end i n _ (omega (arith, w.within)) w.none)))
