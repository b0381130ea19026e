-- The answer keeps its promise: setchain's theorem at an accepted scheme's chain and start class.
use Rattle.std.specs.Prelude.{ℕ, ◌-◌, true, false}
use Rattle.setchain.specs.Reached.{reached_figure, reached_in_parts}
use Rattle.setchain.proofs.ReachedTheorems.{reached_promise}
use Rattle.scheme.specs.declared.Scheme.{Scheme}
use Rattle.scheme.specs.Accepted.{Accepted}
use Rattle.scheme.specs.Rows.{chain_of}
use Rattle.scheme.proofs.Laws.Judged.{accepted_cause}
use Rattle.scheme.proofs.Laws.Sound.{accepted_sound}
use Rattle.bounds_spec.specs.Causes.{share_cause}
use Rattle.bounds_spec.specs.Answers.{start_of}
use Rattle.bounds_spec.specs.Promises.{ShareKept}
use Rattle.bounds_spec.specs.Reached.{reached_answer, start_reached, ReachedPromise}
use Rattle.bounds_spec.proofs.Laws.Causes.{of_share}
use Rattle.bounds_spec.proofs.Laws.Kept.{at_start, kept_answer}

reached_at_start : (s : Scheme) → Accepted s → (t j : ℕ)
    → ShareKept s t (start_reached s j) (reached_figure false (chain_of s) j t (start_of s)) (reached_figure true (chain_of s) j t (start_of s))
reached_at_start s ok t j =
    at_start s ok t (reached_figure false (chain_of s) j t) (reached_figure true (chain_of s) j t) (reached_in_parts s.classes j)
    (reached_promise (chain_of s) (accepted_sound s ok) j t)

pub reached_kept : (s : Scheme) (class year : ℕ) → ReachedPromise s class year (reached_answer s class year)
unfolding reached_answer
reached_kept s class year =
    kept_answer (ShareKept s year (start_reached s (class - 1))) (share_cause s class year) _ _
    (λ z. reached_at_start s (accepted_cause s (of_share s class year z)) year (class - 1))
