-- The values of a claim frequency, by the table, one claim more at a time (document 02, item 10).
use Rattle.std.specs.Prelude.{ℕ, zero, suc, min, ◌+◌, ◌*◌, Bool, true, false}
use Rattle.setchain.specs.Rows.{ONE}
use Rattle.setchain.specs.Rounding.{rounded}
use Rattle.poisson_spec.specs.Exponentials.{entry_at}

-- "Lower values start from the entry, upper ones from the entry plus 1, or ONE if less."
abbrev pub start_from : (high : Bool) (entry : ℕ) → ℕ
start_from false entry = entry
start_from true entry = min ONE (entry + 1)

-- "The value for k claims is that for k − 1 times f / (1000 × k), rounded outward, and never above ONE."
unfoldable pub value_from : (high : Bool) (f start k : ℕ) → ℕ
value_from high f start zero = start
value_from high f start (suc k) = min ONE (rounded high (1000 * suc k) (value_from high f start k * f))

-- The value for k claims at f thousandths, of the lower kind, or, where high, of the upper.
abbrev pub value : (high : Bool) (f k : ℕ) → ℕ
value high f k = value_from high f (start_from high (entry_at f)) k
