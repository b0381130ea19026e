-- The shares of a share sheet, written class by class.
-- Assumes nothing.
use Prim.Native.Nat.{ℕ, ◌+◌, ◌*◌, ◌≤◌, ◌<◌}
use mathlib.Core.Path.{◌≡◌, ◌∙◌}
use mathlib.Core.Bool.{Bool}
use mathlib.Core.List.{List}
use native.Mathlib.Omega.{arith}
use mir.Syntax.{w64}
use mir.Val.{Fits}
use lib.ListN.{set}
use Rattle.scheme.specs.declared.Scheme.{Scheme}
use Rattle.scheme.specs.Accepted.{Accepted}
use Rattle.scheme.proofs.Laws.Tab.{as_tab}
use Rattle.order.proofs.Laws.Written.{Written, written_more}
use Rattle.bounds_spec.specs.Answers.{figure_shares}
use Rattle.bounds.specs.Series.{start_figure, SharePayoffPost, SeriesPre}
use Rattle.bounds.specs.Sheets.{share_of}
use Rattle.bounds.proofs.FrontLaws.{zeros}
use Rattle.bounds.proofs.PayoffsLaws.{state_fits, state_share}

-- What the share of the class of state j takes, with no slice to write to.
pub share_ready : (s : Scheme) (year : ℕ) → Accepted s → Fits w64 (year * 1) → {j : ℕ} → j < s.classes → {payoff : List ℕ} → SharePayoffPost (j + 1) payoff
    → SeriesPre s zeros payoff year 1
share_ready s year ok counted l held = record { accepted = ok; fits = state_fits s ok held l year; apart = omega arith; counted = counted }

pub shares_more : (s : Scheme) (high : Bool) (year : ℕ) (out : List ℕ) (j : ℕ) → Accepted s → j < s.classes → {payoff : List ℕ} → SharePayoffPost (j + 1) payoff
    → {a : ℕ} → a ≡ start_figure high s zeros payoff year
    → Written s.classes (share_of high s year) out j → Written s.classes (share_of high s year) (set out j a) (j + 1)
shares_more s high year out j ok l held e w = written_more s.classes (share_of high s year) out j _ l (e ∙ state_share s ok held l year high) w

pub shares_all : (s : Scheme) (high : Bool) (year : ℕ) (out : List ℕ) {j : ℕ} → s.classes ≤ j
    → Written s.classes (share_of high s year) out j → out ≡ figure_shares high s year
unfolding figure_shares
shares_all s high year out h w = as_tab 0 out s.classes (share_of high s year) w.size (λ i l. w.done i (omega arith))
