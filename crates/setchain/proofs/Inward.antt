-- Narrower rows move figures inward (document 02, item 1): the low figure is no smaller and the high figure no larger, rounding included.
-- `NotAfter high` of the wide figure and the narrow one says both: `≤` for low figures, `≥` for high ones.
use Rattle.std.specs.Prelude.{ℕ, zero, suc, ◌*◌, ◌<◌, Bool, true, false}
use Rattle.std.proofs.Common.{sym, subst, subst₂, mul-le-mul_left}
use Rattle.setchain.specs.Sums.{dot}
use Rattle.setchain.specs.Rows.{ONE, IntervalRow, SoundRow, Covers, SetChain, SoundChain, CoversChain, of_parts}
use Rattle.setchain.specs.Step.{NotAfter, extreme_row, step_figure}
use Rattle.setchain.specs.Years.{years_figure}
use Rattle.setchain.specs.Turns.{Turn, turned, Obeys}
use Rattle.setchain.proofs.Laws.Sums.{sum_to_le}
use Rattle.setchain.proofs.Laws.NotAfter.{not_after_trans, not_after_add}
pub use Rattle.setchain.proofs.Laws.Rounding.{rounded_inward}
use Rattle.setchain.proofs.Laws.Obeys.{years_obey}
use Rattle.setchain.proofs.Laws.Step.{extreme_parts, extreme_certificate, certified_reaches}

-- A row of parts, or of counts, that weighs payoffs keeps the order, as rounding does (`rounded_inward`).
pub dot_inward : (high : Bool) (n : ℕ) (p f g : ℕ → ℕ) → ((j : ℕ) → j < n → NotAfter high (f j) (g j)) → NotAfter high (dot n p f) (dot n p g)
dot_inward false n p f g h = sum_to_le n (λ j. p j * f j) (λ j. p j * g j) (λ j l. mul-le-mul_left (p j) (h j l))
dot_inward true n p f g h = sum_to_le n (λ j. p j * g j) (λ j. p j * f j) (λ j l. mul-le-mul_left (p j) (h j l))

-- The step moves inward with its row and with its payoff: the row that is extreme inside `narrow` lies inside `wide` too.
pub step_inward : (high : Bool) {n : ℕ} {wide narrow : IntervalRow} → SoundRow n wide → SoundRow n narrow → Covers n wide narrow
    → (f g : ℕ → ℕ) → ((j : ℕ) → j < n → NotAfter high (f j) (g j)) → NotAfter high (step_figure high n wide f) (step_figure high n narrow g)
unfolding step_figure
step_inward high {n} {wide} {narrow} soundWide soundNarrow covers f g payoffs =
    let p = extreme_row high n wide f in
    let q = extreme_row high n narrow g in
    let inside = covers (of_parts q) (extreme_parts n narrow soundNarrow high g) in
    rounded_inward high ONE (dot n p f) (dot n q g)
    (not_after_trans high (dot n p f) (dot n q f) (dot n q g)
    ((certified_reaches n wide soundWide high f p (extreme_parts n wide soundWide high f) (extreme_certificate n wide soundWide high f)).extreme q inside)
    (dot_inward high n q f g payoffs))

-- So do figures that obey, where payoffs and turns keep the order.
module _ (high : Bool) {wide narrow : SetChain} (soundWide : SoundChain wide) (soundNarrow : SoundChain narrow) (covers : CoversChain wide narrow)
    {payoff payoff' : ℕ → ℕ} {turn turn' : ℕ → Turn} {figure figure' : ℕ → ℕ → ℕ}
    (obeys : Obeys high wide payoff turn figure) (obeys' : Obeys high narrow payoff' turn' figure')
    (payoffs : (i : ℕ) → i < wide.states → NotAfter high (payoff i) (payoff' i))
    (turns : (i : ℕ) → i < wide.states → (x y : ℕ) → NotAfter high x y → NotAfter high (turned (turn i) x) (turned (turn' i) y)) where
  within : (i : ℕ) → i < wide.states → i < narrow.states
  within i l = subst (λ n. i < n) covers.states l

  sound : (i : ℕ) → i < wide.states → SoundRow wide.states (narrow.row i)
  sound i l = subst (λ n. SoundRow n (narrow.row i)) (sym covers.states) (soundNarrow i (within i l))

  pub obeys_inward : (t i : ℕ) → i < wide.states → NotAfter high (figure t i) (figure' t i)
  obeys_inward zero i l = subst₂ (NotAfter high) (sym (obeys.start i l)) (sym (obeys'.start i (within i l))) (payoffs i l)
  obeys_inward (suc t) i l =
      subst₂ (NotAfter high) (sym (obeys.more t i l)) (sym (obeys'.more t i (within i l)))
      (turns i l (step_figure high wide.states (wide.row i) (figure t)) (step_figure high narrow.states (narrow.row i) (figure' t))
      (subst (λ n. NotAfter high (step_figure high wide.states (wide.row i) (figure t)) (step_figure high n (narrow.row i) (figure' t))) covers.states
      (step_inward high (soundWide i l) (sound i l) (covers.rows i l) (figure t) (figure' t) (obeys_inward t))))

-- So do the years, for any payoff and any gain: share, mean and total are three instances.
pub years_inward : (high : Bool) {wide narrow : SetChain} → SoundChain wide → SoundChain narrow → CoversChain wide narrow
    → (payoff payoff' gain gain' : ℕ → ℕ)
    → ((i : ℕ) → i < wide.states → NotAfter high (payoff i) (payoff' i))
    → ((i : ℕ) → i < wide.states → NotAfter high (gain i) (gain' i))
    → (t i : ℕ) → i < wide.states → NotAfter high (years_figure high wide payoff gain t i) (years_figure high narrow payoff' gain' t i)
years_inward high {wide} {narrow} soundWide soundNarrow covers payoff payoff' gain gain' payoffs gains =
    obeys_inward high soundWide soundNarrow covers (years_obey high wide payoff gain) (years_obey high narrow payoff' gain') payoffs
    (λ i l x y h. not_after_add high (gain i) (gain' i) x y (gains i l) h)
