-- A scheme made from its values (document 01, "Units and the scheme").
use Rattle.std.specs.Prelude.{ℕ, ◌/◌, ◌%◌, cond, ltb, replicate}
use Rattle.scheme.specs.declared.Scheme.{Scheme}
use Rattle.scheme.specs.Tables.{tab}
use Rattle.scheme.specs.Access.{CELL_STRIDE, CELL_PLACES, rule_at, premium_at, lower_at, upper_at, BAND_PLACES}

-- f at an index below n, and 0 beyond.
unfoldable pub up_to : ℕ → (ℕ → ℕ) → ℕ → ℕ
up_to n f k = cond (ltb k n) (f k) 0

-- Where the rules are stored: class q / 8 and column q mod 8 at place q.
abbrev pub rules_up_to : (s m : ℕ) → (ℕ → ℕ → ℕ) → ℕ → ℕ
rules_up_to s m rule q = up_to s (λ i. up_to m (rule i) (q % CELL_STRIDE)) (q / CELL_STRIDE)

-- Where the bands are stored: those of the first class, which all classes share, column k at place k.
abbrev pub bands_up_to : (m : ℕ) → (ℕ → ℕ → ℕ) → ℕ → ℕ
bands_up_to m band = up_to m (band 0)

-- "every operation that makes a scheme sets them to 0": the scheme of these values, with 0 stored beyond s and m.
unfoldable pub scheme_of : (s m start horizon : ℕ) → (rule lower upper : ℕ → ℕ → ℕ) → (premium : ℕ → ℕ) → Scheme
scheme_of s m start horizon rule lower upper premium = record {
  classes = s;
  columns = m;
  start = start;
  horizon = horizon;
  rules = tab CELL_PLACES (rules_up_to s m rule);
  lowers = tab BAND_PLACES (bands_up_to m lower);
  uppers = tab BAND_PLACES (bands_up_to m upper);
  premiums = tab 32 (up_to s premium);
}

-- "Values stored beyond s or m are ignored": a scheme with 0 for them.
abbrev pub cleared : Scheme → Scheme
cleared s = scheme_of s.classes s.columns s.start s.horizon (rule_at s) (lower_at s) (upper_at s) (premium_at s)

-- "number only" (document 01, "When a call is declined"): a scheme all 0 beside it.
unfoldable pub no_scheme : Scheme
no_scheme = record {
  classes = 0;
  columns = 0;
  start = 0;
  horizon = 0;
  rules = replicate CELL_PLACES 0;
  lowers = replicate BAND_PLACES 0;
  uppers = replicate BAND_PLACES 0;
  premiums = replicate 32 0;
}
