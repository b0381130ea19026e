-- `start` meets its contract: the entry, or, for an upper value, the number above it, but for ONE.
-- Assumes nothing.
use mathlib.Core.Path.{ap, sym, ◌∙◌}
use Rattle.poisson_spec.specs.Values.{value}
use Rattle.poisson.proofs.ValuesLaws.{start_low, start_least}
use Rattle.poisson.proofs.values.start.Goals as goal

pub returns-then-not-high : goal.returns-then-not-high
returns-then-not-high c =
    start_low c.args.f c.from-entry.result (c.from-entry.ensures ∙ c.entry.ensures)
    ∙ ap (λ high. value high c.args.f 0) (sym c.if-not-high.true)

pub returns : goal.returns
returns c =
    c.min.ensures
    ∙ start_least c.args.f c.from-entry.result (c.from-entry.ensures ∙ c.entry.ensures)
    ∙ ap (λ high. value high c.args.f 0) (sym c.if-not-high.false)
