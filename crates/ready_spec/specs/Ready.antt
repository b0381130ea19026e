-- The ready schemes (document 01, "Ready schemes").
use Rattle.std.specs.Prelude.{ℕ, ◌+◌}
use Rattle.setchain.specs.Rows.{ONE}
use Rattle.scheme.specs.declared.Scheme.{Scheme}
use Rattle.scheme.specs.Stored.{scheme_of}
use Rattle.ready_spec.specs.Scales.{classes_of, factor_of, premium_of}
use Rattle.ready_spec.specs.Moves.{moved_class}

-- "Ready schemes": "the last column moves as k = 4 does", so each column as its number; the rule of class i + 1 and column k.
abbrev pub ready_rule : (number i k : ℕ) → ℕ
ready_rule number i k = moved_class (classes_of number) (factor_of number) (i + 1) k

-- "Ready schemes": "m is 5 … Start is 10, horizon 40. A band is 0 to ONE in each column".
unfoldable pub ready_scheme : ℕ → ℕ → Scheme
ready_scheme number base = scheme_of (classes_of number) 5 10 40 (ready_rule number) (λ i k. 0) (λ i k. ONE) (premium_of number base)
